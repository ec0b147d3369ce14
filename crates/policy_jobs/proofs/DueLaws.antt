-- What is due after a tick, what lines leave of the policies, and the statements that policies run.
use Rattle.std.proofs.Common.{◌≡◌, ◌∙◌, ℕ, ◌≤◌, ℤ, ◌-ℤ◌, Bool, true, false, cond, int_le, List, [], ◌∷◌, ◌++◌, append-nil, length, map, Option, Some, None, refl, sym, ap, subst, arith}
use Rattle.std.specs.Prelude.{Result, Ok, Err}
use Rattle.std.specs.List.{list_any}
use Rattle.std.proofs.lemmas.Bool.{or_parts}
use Rattle.std.proofs.lemmas.Int.{ints}
use Rattle.ts_bucket.specs.Bucket.{is_time}
use Rattle.ts_model.specs.declared.outcomes.Refusal.{Refusal}
use Rattle.ts_model.specs.Calls.{refusal}
use Rattle.ts_model.specs.History.{History, position}
use Rattle.ts_model.specs.Roster.{roster}
use Rattle.ts_model.specs.States.{State}
use Rattle.stmt_reader.specs.Grammar as base
use Rattle.stmt_reader.specs.Grammar.{statement as any_statement}
use Rattle.stmt_syntax.specs.Proper.{IsName}
use Rattle.stmt_reader.specs.Refusals.{IsSaid, Refuses, Verdict}
use Rattle.stmt_tokens.specs.Streams.{Stream, plain, stream}
use Rattle.stmt_reader.specs.declared.faults.Fault.{Fault}
use Rattle.stmt_tokens.specs.declared.keywords.Keyword.TheVariants as kw
use Rattle.stmt_tokens.specs.declared.tokens.Mark.TheVariants as marks
use Rattle.stmt_reader.proofs.Holds.{Holds, holds_any, holds_either, holds_means, holds_quoted, holds_then, past}
use Rattle.stmt_reader.proofs.ProperLaws.{stream_proper}
use Rattle.stmt_reader.proofs.Verdict.{fit_statement, reads_by_the_grammar as any_by_the_grammar}
use Rattle.ts_model.specs.Numbers.{bad_time}
use Rattle.result_text.specs.declared.replies.Said.TheVariants as said
use Rattle.ts_sessions.specs.declared.kinds.StatementKind.TheVariants.{Defines}
use Rattle.ts_sessions.specs.Places.{Block, Turn, refuses, turns}
use Rattle.ts_sessions.specs.Procedures.{Procedure, ends, ending_as, looks}
use Rattle.ts_sessions.specs.Step.{block_refusal, misread}
use Rattle.ts_sessions.specs.Walks.{Walks}
use Rattle.policy_jobs.specs.Adding.{adding_refusal, is_interval}
use Rattle.policy_jobs.specs.Grammar as rule
use Rattle.policy_jobs.specs.Laws.{ArePolicies, DueTextsAreStatements, IsLonger, LinesKeepPolicies, NeverRan, OnlyNewOnesAreDue, SecondTicksAreIdle, relation_in, tick_read}
use Rattle.policy_jobs.specs.Policies.{due, due_text, is_back, is_due, policies_after_tick, ticked_one}
use Rattle.policy_jobs.specs.Reading.{statement}
use Rattle.policy_jobs.specs.Turns.{PolicyPlaces, turn_of_adding, and_all, beside, lets_pass, misses_time, performs, policy_does, reads_as, runs_due, ticks}
use Rattle.policy_jobs.specs.Words.{begins, refresh_word, retention_word, tick_word, after_word, end_word, interval_word, start_word}
use Rattle.policy_jobs.specs.declared.jobs.Job.{Job}
use Rattle.policy_jobs.specs.declared.jobs.Job.TheVariants as jobs
use Rattle.policy_jobs.specs.declared.policies.Policy.{Policy}
use Rattle.policy_jobs.specs.declared.statements.PolicyStmt.{PolicyStmt}
use Rattle.policy_jobs.specs.declared.statements.PolicyStmt.TheVariants as stmts
use Rattle.policy_jobs.proofs.ActorLaws.{ended_as}
use Rattle.policy_jobs.proofs.AddLaws.{interval_passed, offsets_passed}
use Rattle.policy_jobs.proofs.DueTexts.{due_reads}
use Rattle.policy_jobs.proofs.FewLaws.{stays_line}
use Rattle.policy_jobs.proofs.Judging.{reads_by_the_grammar}

-- ---- the statements that policies run

pub due_texts_are_statements : DueTextsAreStatements
due_texts_are_statements now p t is =
    let reads = (due_reads now p.job is.named t is.offsets).alone in
    (subst (λ r. Verdict any_statement (stream (due_text now p.job) 0) r) reads.is (any_by_the_grammar.gives (due_text now p.job) 0 (omega arith))).0

-- ---- what is due after a tick

-- an interval has not passed at once
not_yet : (now every : ℤ) → is_interval every ≡ true → int_le every (now -ℤ now) ≡ false
not_yet now every i = grind (arith, ints)

ran_then : (now : ℤ) (p : Policy) → is_interval p.every ≡ true → is_due now (ticked_one now p) ≡ false
ran_then now p i =
    elim (is_due now p) as (λ t. is_due now p ≡ t → is_back now p.every (cond t (Some now) p.ran) ≡ false) [
      | true ↦ λ _. not_yet now p.every i
      | false ↦ λ e. e
    ] refl

pub none_due : (now : ℤ) (old new : List Policy) → ArePolicies old → due now (policies_after_tick now old ++ new) ≡ due now new
none_due now [] new are = refl
none_due now (p ∷ old) new are =
    ap (λ t. cond t (ticked_one now p ∷ due now (policies_after_tick now old ++ new)) (due now (policies_after_tick now old ++ new))) (ran_then now p are.0.interval)
    ∙ none_due now old new are.1

all_due : (now : ℤ) (new : List Policy) → NeverRan new → due now new ≡ new
all_due now [] never = refl
all_due now (p ∷ new) never =
    ap (λ ran. cond (is_back now p.every ran) (p ∷ due now new) (due now new)) never.0 ∙ ap (λ ps. p ∷ ps) (all_due now new never.1)

pub only_new_ones_are_due : OnlyNewOnesAreDue
only_new_ones_are_due now old new are never = none_due now old new are ∙ all_due now new never

-- if no policy is due, a tick runs nothing
pub idle_due : (now : ℤ) (ps : List Policy) → list_any (is_due now) ps ≡ false → due now ps ≡ []
idle_due now [] e = refl
idle_due now (p ∷ ps) e =
    let k = or_parts (is_due now p) (list_any (is_due now) ps) e in
    ap (λ t. cond t (p ∷ due now ps) (due now ps)) k.0 ∙ idle_due now ps k.1

-- if no policy is due, a tick marks nothing
pub idle_marked : (now : ℤ) (ps : List Policy) → list_any (is_due now) ps ≡ false → policies_after_tick now ps ≡ ps
idle_marked now [] e = refl
idle_marked now (p ∷ ps) e =
    let k = or_parts (is_due now p) (list_any (is_due now) ps) e in
    let one : ticked_one now p ≡ p = ap (λ t. record p { ran = cond t (Some now) p.ran }) k.0 in
    (λ i. one i ∷ idle_marked now ps k.1 i)

-- a second tick marks nothing
pub marked_twice : (now : ℤ) (ps : List Policy) → ArePolicies ps → policies_after_tick now (policies_after_tick now ps) ≡ policies_after_tick now ps
marked_twice now [] are = refl
marked_twice now (p ∷ ps) are =
    let q = ticked_one now p in
    let one : ticked_one now q ≡ q = ap (λ t. record q { ran = cond t (Some now) q.ran }) (ran_then now p are.0.interval) in
    (λ i. one i ∷ marked_twice now ps are.1 i)

-- ---- names that are read

-- the relation of a statement on policies is a name
abbrev NamesIt : PolicyStmt → Type 0
NamesIt (stmts.Add job every) = IsName (relation_in job)
NamesIt (stmts.Tick now) = Unit {0}

refresh_names : Holds rule.add_refresh NamesIt
refresh_names =
    past (base.keyword kw.Select) (past (rule.word_rule refresh_word) (past (base.mark marks.Open)
    (holds_then holds_quoted (λ n h. past (base.mark marks.Comma) (past (rule.word_rule start_word) (past (base.mark marks.Arrow)
    (holds_then (holds_any base.value) (λ from _. past (base.mark marks.Comma) (past (rule.word_rule end_word) (past (base.mark marks.Arrow)
    (holds_then (holds_any base.value) (λ to _. past (base.mark marks.Comma) (past (rule.word_rule interval_word) (past (base.mark marks.Arrow)
    (holds_then (holds_any base.number) (λ every _. past (base.mark marks.Close)
    (holds_means (stmts.Add (jobs.Refresh n from to) every) NamesIt h)))))))))))))))))

retention_names : Holds rule.add_retention NamesIt
retention_names =
    past (base.keyword kw.Select) (past (rule.word_rule retention_word) (past (base.mark marks.Open)
    (holds_then holds_quoted (λ n h. past (base.mark marks.Comma) (past (rule.word_rule after_word) (past (base.mark marks.Arrow)
    (holds_then (holds_any base.number) (λ after _. holds_then (holds_any rule.interval) (λ every _. past (base.mark marks.Close)
    (holds_means (stmts.Add (jobs.Drop n after) every) NamesIt h))))))))))

tick_names : Holds rule.tick NamesIt
tick_names = past (rule.word_rule tick_word) (holds_then (holds_any base.number) (λ n _. holds_means (stmts.Tick n) NamesIt tt))

form_names : Holds rule.form NamesIt
unfolding rule.form
form_names = holds_either refresh_names (holds_either retention_names tick_names)

statement_names : Holds rule.statement NamesIt
unfolding rule.statement
statement_names = holds_then form_names (λ s h. past base.semicolon (holds_means s NamesIt h))

names_said : (text : List ℕ) (skip : ℕ) (s : PolicyStmt) → IsSaid rule.statement (stream text skip) s → ((g : Fault) → Refuses rule.statement (stream text skip) g → ⊥) → NamesIt s
names_said text skip s (ts, p, e, l) none =
    statement_names.holds (plain ts) s (stream_proper text skip ts p e (fit_statement rule.statement (stream text skip) ts p e none)) l

-- the relation of the statement that was read is a name
abbrev NamesWhatIsRead : Result (PolicyStmt × Stream) Fault → Type 0
NamesWhatIsRead (Ok read) = NamesIt read.0
NamesWhatIsRead (Err f) = Unit {0}

names_by : (text : List ℕ) (skip : ℕ) (r : Result (PolicyStmt × Stream) Fault) → Verdict rule.statement (stream text skip) r → NamesWhatIsRead r
names_by text skip (Ok read) v = names_said text skip read.0 v.0 v.1
names_by text skip (Err f) v = tt

names_read : (text : List ℕ) (skip : ℕ) → skip ≤ length text → NamesWhatIsRead (statement (stream text skip))
names_read text skip le = names_by text skip (statement (stream text skip)) (reads_by_the_grammar text skip le)

-- ---- what lines leave of the policies

pub policies_behind : (ps qs : List Policy) → ArePolicies ps → ArePolicies qs → ArePolicies (ps ++ qs)
policies_behind [] qs a b = b
policies_behind (p ∷ ps) qs a b = (a.0, policies_behind ps qs a.1 b)

policies_ticked : (now : ℤ) (ps : List Policy) → ArePolicies ps → ArePolicies (policies_after_tick now ps)
policies_ticked now [] are = tt
policies_ticked now (p ∷ ps) are = (record { named = are.0.named; offsets = are.0.offsets; interval = are.0.interval }, policies_ticked now ps are.1)

-- any walk ends with policies that have a property
module _ {P : Type 0} (alone : Bool) (R : List Policy → Type 0) where
  abbrev Leaves : Procedure (Turn (PolicyPlaces P)) → Type 0
  Leaves d = (failed : Bool) (old new : State) (y : Turn (PolicyPlaces P)) → Walks alone failed old d new y → R y.places.policies

  leaves_end : (y : Turn (PolicyPlaces P)) → R y.places.policies → Leaves (ends y)
  leaves_end y r failed old new z w = subst (λ x. R x.places.policies) (sym w.2) r

  leaves_look : (f : History → Turn (PolicyPlaces P)) → ((h : History) → R (f h).places.policies) → Leaves (looks (λ h. ends (f h)))
  leaves_look f r failed old new y w = subst (λ x. R x.places.policies) (sym w.rest.2) (r w.mid.history)

  leaves_beside : (policies : List Policy) (d : Procedure (Turn P)) → R policies → Leaves (ending_as (beside policies) d)
  leaves_beside policies d r failed old new y w =
      let e = ended_as (beside policies) alone failed old d new y w in
      subst (λ x. R x.places.policies) (sym e.is) r

  module _ (within : P → Block) (does : P → List ℕ → ℕ → Procedure (Turn P)) (p : PolicyPlaces P) (same : R p.policies) where
    leaves_ticks : (now : ℤ) → (is_time now ≡ true → R (policies_after_tick now p.policies)) → Leaves (ticks does p now)
    leaves_ticks now marked =
        elim (is_time now) as (λ t. (t ≡ true → R (policies_after_tick now p.policies)) → Leaves (cond t (ending_as (beside (policies_after_tick now p.policies)) (runs_due does now p.inner p.policies)) (misses_time p))) [
          | true ↦ λ m. leaves_beside (policies_after_tick now p.policies) (runs_due does now p.inner p.policies) (m refl)
          | false ↦ λ _. leaves_look (λ h. refuses p (refusal bad_time h 0)) (λ h. same)
        ] marked

    -- what a statement leaves: by what it adds, or by what its tick does
    abbrev IsLeft : PolicyStmt → Type 0
    IsLeft (stmts.Add job every) =
        (h : History) → adding_refusal (position h) (roster h) (length p.policies) job every ≡ None → R (p.policies ++ (record { job = job; every = every; ran = None }) ∷ [])
    IsLeft (stmts.Tick now) = is_time now ≡ true → R (policies_after_tick now p.policies)

    left_added : (at : ℕ) (policy : Policy) (o : Option Refusal) → (o ≡ None → R (p.policies ++ policy ∷ [])) → R (turn_of_adding p at policy o).places.policies
    left_added at policy None r = r refl
    left_added at policy (Some x) r = same

    leaves_performs : (stmt : PolicyStmt) → IsLeft stmt → Leaves (performs does p stmt)
    leaves_performs (stmts.Add job every) r =
        let policy : Policy = record { job = job; every = every; ran = None } in
        let o : History → Option Refusal = λ h. adding_refusal (position h) (roster h) (length p.policies) job every in
        leaves_look (λ h. turn_of_adding p (position h) policy (o h)) (λ h. left_added (position h) policy (o h) (r h))
    leaves_performs (stmts.Tick now) r = leaves_ticks now r

    leaves_lets : (stmt : PolicyStmt) (o : Option Refusal) → IsLeft stmt → Leaves (lets_pass does p stmt o)
    leaves_lets stmt (Some x) r = leaves_end (refuses p x) same
    leaves_lets stmt None r = leaves_performs stmt r

    abbrev IsLeftOf : Result (PolicyStmt × Stream) Fault → Type 0
    IsLeftOf (Ok read) = IsLeft read.0
    IsLeftOf (Err f) = Unit {0}

    leaves_read : (b : Block) (r : Result (PolicyStmt × Stream) Fault) → IsLeftOf r → Leaves (reads_as does p b r)
    leaves_read b (Ok read) r = leaves_lets read.0 (block_refusal b Defines) r
    leaves_read b (Err f) r = leaves_end (refuses p (misread f)) same

    leaves_line : (text : List ℕ) (skip : ℕ) → IsLeftOf (statement (stream text skip)) → Leaves (policy_does does within p text skip)
    leaves_line text skip r =
        elim (begins (stream text skip)) as (λ t. Leaves (cond t (reads_as does p (within p.inner) (statement (stream text skip))) (ending_as (beside p.policies) (does p.inner text skip)))) [
          | true ↦ leaves_read (within p.inner) (statement (stream text skip)) r
          | false ↦ leaves_beside p.policies (does p.inner text skip) same
        ]

-- a policy that passed the checks is valid
passed_is : (h : History) (many : ℕ) (job : Job) (every : ℤ) → IsName (relation_in job) → adding_refusal (position h) (roster h) many job every ≡ None → ArePolicies (record { job = job; every = every; ran = None } ∷ [])
passed_is h many job every n e =
    (record { named = n; offsets = offsets_passed (position h) (roster h) many job every e; interval = interval_passed (position h) (roster h) many job every e }, tt)

module _ {P : Type 0} (does : P → List ℕ → ℕ → Procedure (Turn P)) (alone : Bool) (p : PolicyPlaces P) where
  left_policies : (within : P → Block) (r : Result (PolicyStmt × Stream) Fault) (are : ArePolicies p.policies) → NamesWhatIsRead r → IsLeftOf alone ArePolicies within does p are r
  left_policies within (Ok (stmts.Add job every, left)) are n = λ h e. policies_behind p.policies _ are (passed_is h (length p.policies) job every n e)
  left_policies within (Ok (stmts.Tick now, left)) are n = λ _. policies_ticked now p.policies are
  left_policies within (Err f) are n = tt

  longer_none : IsLonger p.policies p.policies
  longer_none = record { added = []; whole = sym (append-nil p.policies); never = tt }

  left_longer : (within : P → Block) (r : Result (PolicyStmt × Stream) Fault) → tick_read r ≡ None → IsLeftOf alone (IsLonger p.policies) within does p longer_none r
  left_longer within (Ok (stmts.Add job every, left)) no_tick = λ h e. record { added = record { job = job; every = every; ran = None } ∷ []; whole = refl; never = (refl, tt) }
  left_longer within (Ok (stmts.Tick now, left)) no_tick = absurd cc
  left_longer within (Err f) no_tick = tt

  -- a tick at a time ends with the due policies marked, whatever its outcome
  module _ (failed : Bool) (old : State) (now : ℤ) (new : State) (y : Turn (PolicyPlaces P)) (time : is_time now ≡ true) (w : Walks alone failed old (ticks does p now) new y) where
    pub due_marked : y.places.policies ≡ policies_after_tick now p.policies
    due_marked =
        let d = runs_due does now p.inner p.policies in
        let there = subst (λ t. Walks alone failed old (cond t (ending_as (beside (policies_after_tick now p.policies)) d) (misses_time p)) new y) time w in
        ap (λ z. z.places.policies) (ended_as (beside (policies_after_tick now p.policies)) alone failed old d new y there).is

-- a tick at which nothing is due, and which marks nothing, is only its line
pub idle : {P : Type 0} (does : P → List ℕ → ℕ → Procedure (Turn P)) (q : PolicyPlaces P) (now : ℤ) → is_time now ≡ true → due now q.policies ≡ [] → policies_after_tick now q.policies ≡ q.policies → ticks does q now ≡ ends (turns q (said.Tick now 0))
idle does q now time none same =
    ap (λ t. cond t (ending_as (beside (policies_after_tick now q.policies)) (runs_due does now q.inner q.policies)) (misses_time q)) time
    ∙ ap (λ ps. ending_as (beside (policies_after_tick now q.policies)) (and_all does (ends (turns q.inner (said.Tick now (length ps)))) (map (λ p. due_text now p.job) ps))) none
    ∙ ap (λ ps. ends (turns (record { inner = q.inner; policies = ps }) (said.Tick now 0))) same

pub second_ticks_are_idle : {P : Type 0} → SecondTicksAreIdle P
second_ticks_are_idle does alone failed old p now new y time are w =
    let is = due_marked does alone p failed old now new y time w in
    let none : due now y.places.policies ≡ [] = ap (due now) is ∙ ap (due now) (sym (append-nil (policies_after_tick now p.policies))) ∙ none_due now p.policies [] are in
    let same : policies_after_tick now y.places.policies ≡ y.places.policies = ap (policies_after_tick now) is ∙ marked_twice now p.policies are ∙ sym is in
    idle does y.places now time none same

pub lines_keep_policies : {P : Type 0} → LinesKeepPolicies P
lines_keep_policies = record {
  policies = λ within does alone failed old p text skip new y are le w.
      leaves_line alone ArePolicies within does p are text skip (left_policies does alone p within (statement (stream text skip)) are (names_read text skip le)) failed old new y w;
  others = λ within does alone failed old p text skip new y no_tick w.
      leaves_line alone (IsLonger p.policies) within does p (longer_none does alone p) text skip (left_longer does alone p within (statement (stream text skip)) no_tick) failed old new y w;
  marks = λ does alone failed old p now new y time w. due_marked does alone p failed old now new y time w;
  refused = λ within does alone failed old p text skip new y r w is. stays_line does alone p within text skip failed old new y r w is;
}
