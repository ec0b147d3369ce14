-- Names resolved before an event are the same at the event, so a step is what the reply to its line says.
use Rattle.std.proofs.Common.{◌≡◌, ℕ, suc, Bool, true, false, not, cond, nat_lt, List, length, Option, Some, None, sym, refl, ap, ◌∙◌, subst, arith}
use Rattle.std.specs.Prelude.{Result, Ok, Err, nat_le, ℤ, is_some, unwrap_or, option_and_then}
use Rattle.std.proofs.lemmas.Bool.{true≢false}
use Rattle.std.proofs.lemmas.Bool.Decides.{nat_tests}
use Rattle.ts_schema.specs.declared.columns.Column.{Column}
use Rattle.ts_model.specs.declared.events.Event.TheVariants as events
use Rattle.ts_model.specs.declared.outcomes.Refusal.{Refusal}
use Rattle.ts_model.specs.declared.rosters.Roster.{Roster}
use Rattle.ts_model.specs.declared.views.ViewDef.{ViewDef}
use Rattle.ts_model.specs.Allowed.{all_allowed}
use Rattle.ts_model.specs.Calls.{act_with_number, refusal, refuses as is_refused}
use Rattle.ts_model.specs.Numbers.{name_taken, too_many}
use Rattle.ts_model.specs.History.{History, position, Begins}
use Rattle.ts_model.specs.Limits.{most_relations}
use Rattle.ts_model.specs.Roster.{roster, hyper_of, is_taken}
use Rattle.ts_model.specs.States.{State}
use Rattle.ts_model.proofs.AllowedLaws.{allowed_begins}
use Rattle.ts_catalog.specs.Columns.{column_from}
use Rattle.ts_catalog.specs.Relations.{found_in}
use Rattle.stmt_reader.specs.declared.faults.Fault.{Fault}
use Rattle.stmt_syntax.specs.declared.statements.NamedFold.{NamedFold}
use Rattle.stmt_syntax.specs.declared.statements.Stmt.{Stmt}
use Rattle.stmt_syntax.specs.declared.statements.Stmt.TheVariants as stmts
use Rattle.stmt_reader.specs.Reading.{statement}
use Rattle.stmt_tokens.specs.Streams.{Stream, stream}
use Rattle.stmt_check.specs.declared.actions.Action.{Action}
use Rattle.stmt_check.specs.declared.actions.Action.TheVariants as actions
use Rattle.stmt_check.specs.Check.{action_of, no_view, refusal_of, table_at}
use Rattle.stmt_check.specs.Refusals.{◌⊳◌, marked_refusal, name_refusal, plain_refusal, refusal_if}
use Rattle.stmt_check.specs.Tables.{hyper_refusal}
use Rattle.result_text.specs.declared.replies.Said.TheVariants as said
use Rattle.stmt_check.proofs.FoundLaws.{RelationAt, relation_at}
use Rattle.stmt_check.proofs.LaterLaws.{HyperLater, plain, hyper, Stays, aggregate_made_later, cut_later, delete_later, drop_later, hyper_made_later, insert_later, mode_later, refresh_later, table_later}
use Rattle.stmt_check.proofs.StayLaws.{found_is_taken}
use Rattle.ts_sessions.specs.Procedures.{Procedure, looks, ends, followed_by, ending_as, tries_at}
use Rattle.ts_sessions.specs.LineLaws.{NamesStay, StepsAreReplies}
use Rattle.ts_sessions.specs.Places.{Places, Turn, refuses}
use Rattle.ts_sessions.specs.Replies.{replies}
use Rattle.ts_sessions.specs.Step.{acts, after_view, block_refusal, kind_of, makes_event, turn_of_names, named_first, named_here, read_at, turn_of_line, as_read, looks_twice, passes_block, performs, unless}
use Rattle.ts_sessions.specs.Walks.{Walks, history_after, end_of_walk}
use Rattle.ts_sessions.proofs.NamedLaws.{event_named, performs_holds, twice_outside}
use Rattle.ts_sessions.proofs.StateLaws.{goes_seen, sees_trans}
use Rattle.ts_sessions.proofs.WalkLaws.{goes_walks}

-- ---- names that stay

-- a statement that still passes and asks for the same
pub stays_named : (p : Places) (bytes : ℕ) (stmt : Stmt) (g h : History) → makes_event (kind_of stmt) ≡ true → Stays g h stmt → acts p bytes h (action_of (roster g) stmt) ≡ turn_of_names p bytes stmt h
stays_named p bytes stmt g h makes s = ap (acts p bytes h) (sym s.action) ∙ ap (λ o. unless p o (acts p bytes h (action_of (roster h) stmt))) (sym (s.passes (position h))) ∙ sym (event_named p bytes h stmt makes)

-- a new relation whose name was taken meanwhile, or that is one too many now: its call and the check of its name refuse
-- it alike
new_or_refused : (p : Places) (bytes : ℕ) (h : History) (stmt : Stmt) (taken few : Bool) (there : Bool → Bool → Procedure (Turn Places)) → there taken few ≡ acts p bytes h (action_of (roster h) stmt) → ((b : Bool) → there true b ≡ ends (refuses p (refusal name_taken h 0))) → there false false ≡ ends (refuses p (refusal too_many h (suc most_relations))) → there taken few ≡ unless p (refusal_if (position h) name_taken taken ⊳ marked_refusal (position h) too_many (suc most_relations) (not few)) (acts p bytes h (action_of (roster h) stmt))
new_or_refused p bytes h stmt true few there here one many = one few
new_or_refused p bytes h stmt false false there here one many = many
new_or_refused p bytes h stmt false true there here one many = here

not_few : (n : ℕ) → nat_le most_relations n ≡ not (nat_lt n most_relations)
not_few n = grind (arith, nat_tests)

-- the check of a name, by whether it is taken and whether there are too many
name_refused : (pos : ℕ) (r : Roster) (name : List ℕ) (many : ℕ) → name_refusal pos r name many ≡ (refusal_if pos name_taken (is_taken r name) ⊳ marked_refusal pos too_many (suc most_relations) (not (nat_lt many most_relations)))
name_refused pos r name many =
    ap (λ t. refusal_if pos name_taken t ⊳ marked_refusal pos too_many (suc most_relations) (nat_le most_relations many)) (sym (found_is_taken r name))
    ∙ ap (λ f. refusal_if pos name_taken (is_taken r name) ⊳ marked_refusal pos too_many (suc most_relations) f) (not_few many)

-- a second refusal applies if there is no first
or_none : (a b : Option Refusal) → b ≡ None → (a ⊳ b) ≡ a
or_none None b e = e
or_none (Some r) b e = refl

new_table : (p : Places) (bytes : ℕ) (g h : History) (name : List ℕ) (cols : List Column) → refusal_of (position g) (roster g) (stmts.Table name cols) ≡ None → acts p bytes h (action_of (roster g) (stmts.Table name cols)) ≡ turn_of_names p bytes (stmts.Table name cols) h
new_table p bytes g h name cols e =
    let stmt = stmts.Table name cols in
    let many = length (roster h).tables in
    let there : Bool → Bool → Procedure (Turn Places) = λ taken few. ending_as (turn_of_line p said.Table) (tries_at h (cond taken (is_refused (refusal name_taken h 0)) (cond few (act_with_number h (events.Table (record { name = name; cols = cols }))) (is_refused (refusal too_many h (suc most_relations)))))) in
    new_or_refused p bytes h stmt (is_taken (roster h) name) (nat_lt many most_relations) there refl (λ b. refl) refl
    ∙ ap (λ o. unless p o (acts p bytes h (action_of (roster h) stmt))) (sym (or_none (name_refusal (position h) (roster h) name many) _ (table_later (position g) (position h) (roster g) name cols e) ∙ name_refused (position h) (roster h) name many))

new_aggregate : (p : Places) (bytes : ℕ) (g h : History) (name : List ℕ) (only filled : Bool) (fold : NamedFold) → Begins g h → refusal_of (position g) (roster g) (stmts.View name only filled fold) ≡ None → acts p bytes h (action_of (roster g) (stmts.View name only filled fold)) ≡ turn_of_names p bytes (stmts.View name only filled fold) h
new_aggregate p bytes g h name only filled fold b e =
    let stmt = stmts.View name only filled fold in
    let many = length (roster h).views in
    let later = aggregate_made_later g h (position g) name only filled fold b e in
    let def = aggregate_of (action_of (roster h) stmt) in
    let there : Bool → Bool → Procedure (Turn Places) = λ taken few. followed_by (tries_at h (cond taken (is_refused (refusal name_taken h 0)) (cond few (act_with_number h (events.View def)) (is_refused (refusal too_many h (suc most_relations)))))) (after_view p many def filled) in
    ap (acts p bytes h) (sym later.action)
    ∙ new_or_refused p bytes h stmt (is_taken (roster h) name) (nat_lt many most_relations) there refl (λ b. refl) refl
    ∙ ap (λ o. unless p o (acts p bytes h (action_of (roster h) stmt))) (sym (or_none (name_refusal (position h) (roster h) name many) _ (later.passes (position h)) ∙ name_refused (position h) (roster h) name many))
  where
    aggregate_of : Action → ViewDef
    aggregate_of (actions.View def filled) = def
    aggregate_of a = no_view

new_hyper : (p : Places) (bytes : ℕ) (g h : History) (table col : List ℕ) (interval : ℤ) → HyperLater g h table col interval → acts p bytes h (action_of (roster g) (stmts.Hyper table col interval)) ≡ turn_of_names p bytes (stmts.Hyper table col interval) h
new_hyper p bytes g h table col interval (plain s) = stays_named p bytes (stmts.Hyper table col interval) g h refl s
new_hyper p bytes g h table col interval (hyper n now was) =
    let stmt = stmts.Hyper table col interval in
    let at = subst (λ f. RelationAt (roster h) f) now (relation_at (roster h) table) in
    let is : is_some (hyper_of (roster h) n) ≡ true = ap (λ o. is_some (option_and_then (λ info. info.hyper) o)) at.at ∙ at.is in
    let made = unwrap_or (column_from col 0 (table_at (roster g) (found_in (roster g) table)).def.cols) 0 in
    let there : Bool → ℕ → Procedure (Turn Places) = λ taken k. ending_as (turn_of_line p said.Hypertable) (tries_at h (cond taken (is_refused (refusal name_taken h 0)) (act_with_number h (events.Hyper k (record { at = made; interval = interval }))))) in
    ap (λ k. acts p bytes h (actions.Hyper k (record { at = made; interval = interval }))) was
    ∙ ap (λ t. there t n) is
    ∙ ap (λ f. unless p (plain_refusal (position h) f ⊳ hyper_refusal (position h) (table_at (roster h) (found_in (roster h) table)).def.cols col interval) (acts p bytes h (action_of (roster h) stmt))) (sym now)

pub names_stay : NamesStay
names_stay p bytes (stmts.Table name cols) g h b ok makes e = new_table p bytes g h name cols e
names_stay p bytes (stmts.Hyper table col interval) g h b ok makes e = new_hyper p bytes g h table col interval (hyper_made_later g h (position g) table col interval b e)
names_stay p bytes (stmts.View name only filled fold) g h b ok makes e = new_aggregate p bytes g h name only filled fold b e
names_stay p bytes (stmts.Mode view only) g h b ok makes e = stays_named p bytes (stmts.Mode view only) g h makes (mode_later g h (position g) view only b ok e)
names_stay p bytes (stmts.Insert table cols rows) g h b ok makes e = stays_named p bytes (stmts.Insert table cols rows) g h makes (insert_later g h (position g) table cols rows b e)
names_stay p bytes (stmts.Delete table tests) g h b ok makes e = stays_named p bytes (stmts.Delete table tests) g h makes (delete_later g h (position g) table tests b e)
names_stay p bytes (stmts.Drop table below) g h b ok makes e = stays_named p bytes (stmts.Drop table below) g h makes (drop_later g h (position g) table below b e)
names_stay p bytes (stmts.Refresh view lo hi) g h b ok makes e = stays_named p bytes (stmts.Refresh view lo hi) g h makes (refresh_later g h (position g) view lo hi b ok e)
names_stay p bytes (stmts.Cut view lo hi) g h b ok makes e = stays_named p bytes (stmts.Cut view lo hi) g h makes (cut_later g h (position g) view lo hi b ok e)
names_stay p bytes (stmts.Snap cut) g h b ok makes e = absurd (true≢false (sym makes))
names_stay p bytes (stmts.Finish cut) g h b ok makes e = absurd (true≢false (sym makes))
names_stay p bytes stmts.Begin g h b ok makes e = absurd (true≢false (sym makes))
names_stay p bytes stmts.BeginRead g h b ok makes e = absurd (true≢false (sym makes))
names_stay p bytes stmts.Commit g h b ok makes e = absurd (true≢false (sym makes))
names_stay p bytes stmts.Rollback g h b ok makes e = absurd (true≢false (sym makes))
names_stay p bytes (stmts.Buckets fold) g h b ok makes e = absurd (true≢false (sym makes))
names_stay p bytes (stmts.Calendar number unit fold) g h b ok makes e = absurd (true≢false (sym makes))
names_stay p bytes (stmts.Rows table tests) g h b ok makes e = absurd (true≢false (sym makes))

-- ---- one read

-- the beginning of an allowed history is allowed
allowed_before : {A : Type 0} (alone failed : Bool) (old : State) (procedure : Procedure A) (new : State) (y : A) → all_allowed new.history ≡ true → Walks alone failed old procedure new y → all_allowed old.history ≡ true
allowed_before alone failed old procedure new y ok w = allowed_begins (goes_walks alone failed old procedure new y w).begins ok

-- names that passed at a first read, and what follows
first_walks : (alone failed : Bool) (old : State) (p : Places) (bytes : ℕ) (stmt : Stmt) (new : State) (y : Turn Places) → makes_event (kind_of stmt) ≡ true → all_allowed new.history ≡ true → Walks alone failed old (named_first p bytes stmt) new y → Walks alone failed old (looks (turn_of_names p bytes stmt)) new y
first_walks alone failed old p bytes stmt new y makes ok w = by (refusal_of (position w.mid.history) (roster w.mid.history) stmt) refl w.rest
  where
    by : (o : Option Refusal) → refusal_of (position w.mid.history) (roster w.mid.history) stmt ≡ o → Walks alone failed w.mid (unless p o (looks (λ h. acts p bytes h (action_of (roster w.mid.history) stmt)))) new y → Walks alone failed old (looks (turn_of_names p bytes stmt)) new y
    by (Some r) e v =
        let h = w.mid.history in
        record { mid = w.mid; first = w.first; rest = subst (λ d. Walks alone failed w.mid d new y) (sym (event_named p bytes h stmt makes ∙ ap (λ o. unless p o (acts p bytes h (action_of (roster h) stmt))) e)) v }
    by None e v =
        let seen = (goes_seen alone w.mid v.mid v.first).begins in
        let allowed = allowed_before alone failed v.mid (acts p bytes v.mid.history (action_of (roster w.mid.history) stmt)) new y ok v.rest in
        record { mid = v.mid; first = sees_trans alone old w.mid v.mid w.first v.first; rest = subst (λ d. Walks alone failed v.mid d new y) (names_stay p bytes stmt w.mid.history v.mid.history seen allowed makes e) v.rest }

-- a statement that the block of its session lets pass
performs_walks : (alone failed : Bool) (old : State) (p : Places) (bytes : ℕ) (stmt : Stmt) (new : State) (y : Turn Places) → all_allowed new.history ≡ true → Walks alone failed old (performs p bytes stmt) new y → Walks alone failed old (named_here p bytes stmt) new y
performs_walks alone failed old p bytes stmt new y ok = performs_holds (λ d. Walks alone failed old d new y → Walks alone failed old (named_here p bytes stmt) new y) p bytes stmt first (λ once w. w)
  where
    first : looks_twice p.block (kind_of stmt) ≡ true → Walks alone failed old (named_first p bytes stmt) new y → Walks alone failed old (named_here p bytes stmt) new y
    first twice w =
        let outside = twice_outside p.block (kind_of stmt) twice in
        let one = first_walks alone failed old p bytes stmt new y outside.1 ok w in
        record { mid = one.mid; first = one.first; rest = subst (λ b. Walks alone failed one.mid (turn_of_names p bytes stmt (read_at b one.mid.history)) new y) (sym outside.0) one.rest }

pass_walks : (alone failed : Bool) (old : State) (p : Places) (bytes : ℕ) (stmt : Stmt) (o : Option Refusal) (new : State) (y : Turn Places) → all_allowed new.history ≡ true → Walks alone failed old (unless p o (performs p bytes stmt)) new y → Walks alone failed old (unless p o (named_here p bytes stmt)) new y
pass_walks alone failed old p bytes stmt (Some r) new y ok w = w
pass_walks alone failed old p bytes stmt None new y ok w = performs_walks alone failed old p bytes stmt new y ok w

read_walks : (alone failed : Bool) (old : State) (p : Places) (bytes : ℕ) (r : Result (Stmt × Stream) Fault) (new : State) (y : Turn Places) → all_allowed new.history ≡ true → Walks alone failed old (as_read p (passes_block p bytes) r) new y → Walks alone failed old (as_read p (replies p bytes) r) new y
read_walks alone failed old p bytes (Ok read) new y ok w = pass_walks alone failed old p bytes read.0 (block_refusal p.block (kind_of read.0)) new y ok w
read_walks alone failed old p bytes (Err f) new y ok w = w

-- ---- a history that nobody else changes

-- two procedures have the same result on a history that nobody else changes
record SameAlone {A : Type 0} (h : History) (d e : Procedure A) : Type 0 where
  history : history_after d h ≡ history_after e h
  end : end_of_walk d h ≡ end_of_walk e h

alone_same : {A : Type 0} (h : History) (d e : Procedure A) → d ≡ e → SameAlone h d e
alone_same h d e i = record { history = ap (λ x. history_after x h) i; end = ap (λ x. end_of_walk x h) i }

same_alone : {A : Type 0} (h : History) (d : Procedure A) → SameAlone h d d
same_alone h d = record { history = refl; end = refl }

-- names that are resolved before the event, or at the event
twice_alone : (p : Places) (bytes : ℕ) (stmt : Stmt) (h : History) (o : Option Refusal) → SameAlone h (unless p o (acts p bytes h (action_of (roster h) stmt))) (unless p o (looks (λ k. acts p bytes k (action_of (roster h) stmt))))
twice_alone p bytes stmt h (Some r) = record { history = refl; end = refl }
twice_alone p bytes stmt h None = record { history = refl; end = refl }

performs_alone : (p : Places) (bytes : ℕ) (stmt : Stmt) (h : History) → SameAlone h (named_here p bytes stmt) (performs p bytes stmt)
performs_alone p bytes stmt h = performs_holds (SameAlone h (named_here p bytes stmt)) p bytes stmt first (λ once. same_alone h (named_here p bytes stmt))
  where
    first : looks_twice p.block (kind_of stmt) ≡ true → SameAlone h (named_here p bytes stmt) (named_first p bytes stmt)
    first twice =
        let outside = twice_outside p.block (kind_of stmt) twice in
        let one = twice_alone p bytes stmt h (refusal_of (position h) (roster h) stmt) in
        let here : turn_of_names p bytes stmt (read_at p.block h) ≡ unless p (refusal_of (position h) (roster h) stmt) (acts p bytes h (action_of (roster h) stmt)) = ap (λ b. turn_of_names p bytes stmt (read_at b h)) outside.0 ∙ event_named p bytes h stmt outside.1 in
        record { history = ap (λ d. history_after d h) here ∙ one.history; end = ap (λ d. end_of_walk d h) here ∙ one.end }

pass_alone : (p : Places) (bytes : ℕ) (stmt : Stmt) (o : Option Refusal) (h : History) → SameAlone h (unless p o (named_here p bytes stmt)) (unless p o (performs p bytes stmt))
pass_alone p bytes stmt (Some r) h = record { history = refl; end = refl }
pass_alone p bytes stmt None h = performs_alone p bytes stmt h

read_alone : (p : Places) (bytes : ℕ) (r : Result (Stmt × Stream) Fault) (h : History) → SameAlone h (as_read p (replies p bytes) r) (as_read p (passes_block p bytes) r)
read_alone p bytes (Ok read) h = pass_alone p bytes read.0 (block_refusal p.block (kind_of read.0)) h
read_alone p bytes (Err f) h = record { history = refl; end = refl }

pub steps_are_replies : StepsAreReplies
steps_are_replies = record {
  walks = λ alone failed old p text skip new y ok w. read_walks alone failed old p (length text) (statement (stream text skip)) new y ok w;
  history = λ p text skip h. (read_alone p (length text) (statement (stream text skip)) h).history;
  end = λ p text skip h. (read_alone p (length text) (statement (stream text skip)) h).end;
}
