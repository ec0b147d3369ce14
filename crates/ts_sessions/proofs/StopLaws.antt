-- A reply is E24 only if the store had stopped, with that position.
use Rattle.std.proofs.Common.{◌≡◌, ℕ, suc, ◌≤◌, Bool, true, false, cond, nat_lt, List, [], ◌∷◌, ◌++◌, length, Option, Some, None, inl, inr, sym, refl, ap, ◌∙◌, subst, arith}
use Rattle.std.specs.Prelude.{Result, Ok, Err, ℤ, IfSome, is_some, not, ⊤}
use Rattle.std.proofs.lemmas.Bool.{true≢false, ltb-true, ltb-false}
use Rattle.ts_bucket.specs.declared.spans.Span.{Span}
use Rattle.ts_model.specs.declared.events.Event.{Event}
use Rattle.ts_model.specs.declared.events.Event.TheVariants.{Hyper as HyperMade, Table as TableMade, View as ViewMade, Cut as CutEvent, Built as BuiltEvent, Commit as CommitEvent, Mode as ModeEvent}
use Rattle.ts_model.specs.declared.events.Op.{Op}
use Rattle.ts_model.specs.declared.outcomes.CutDone.{CutDone}
use Rattle.ts_model.specs.declared.outcomes.CutDone.TheVariants.{Cut as CutMade, Nothing as NothingDone}
use Rattle.ts_model.specs.declared.outcomes.Refusal.{Refusal}
use Rattle.ts_model.specs.declared.refreshes.Pending.{Pending}
use Rattle.ts_model.specs.declared.refreshes.Pending.TheVariants.{Waiting, Finished, Unknown}
use Rattle.ts_model.specs.declared.refreshes.Window.{Window}
use Rattle.ts_model.specs.declared.refreshes.Window.TheVariants.{Whole, NoBucket, Nothing}
use Rattle.ts_model.specs.declared.tables.Hyper.{Hyper}
use Rattle.ts_model.specs.declared.views.ViewDef.{ViewDef}
use Rattle.ts_model.specs.Timely.{has_room}
use Rattle.ts_model.specs.Calls.{Act, commit_result as calls_committed, act_of_event, refuses as is_refused, returns, makes, act_of_commit, cut_of_view, cut_over, act_of_cut, finish_of, act_of_finish, making_hyper, making_table, making_view, new_relation, act_with_number, refusal, setting_mode}
use Rattle.ts_model.specs.Numbers.{no_token, syntax, name_taken, bad_number, no_bucket, in_write_block, in_read_block, no_block, no_refresh, no_snapshot, too_many, stopped, history_full}
use Rattle.ts_model.specs.History.{History, start, resumed, ◌▸◌, base_position, position, prefix}
use Rattle.ts_model.specs.Limits.{most_relations}
use Rattle.ts_model.specs.Pending.{pending}
use Rattle.ts_model.specs.Roster.{roster, hyper_of, is_taken, view_of}
use Rattle.ts_model.specs.Windows.{window}
use Rattle.stmt_reader.specs.declared.faults.Fault.{Fault}
use Rattle.stmt_reader.specs.declared.faults.Fault.TheVariants as faults
use Rattle.stmt_syntax.specs.declared.statements.Stmt.{Stmt}
use Rattle.stmt_syntax.specs.declared.statements.Stmt.TheVariants as stmts
use Rattle.stmt_reader.specs.Reading.{statement}
use Rattle.stmt_tokens.specs.Streams.{stream}
use Rattle.stmt_check.specs.declared.actions.Action.{Action}
use Rattle.stmt_check.specs.declared.actions.Action.TheVariants as actions
use Rattle.stmt_check.specs.Check.{action_of, refusal_of}
use Rattle.result_text.specs.declared.replies.Said.TheVariants as said
use Rattle.ts_sessions.specs.declared.kinds.StatementKind.{StatementKind}
use Rattle.ts_sessions.specs.declared.kinds.StatementKind.TheVariants as kinds
use Rattle.ts_sessions.specs.Gives.{Gives}
use Rattle.ts_sessions.specs.Places.{Block, none, writing, reading, Places, Turn, cuts, enters, held_for}
use Rattle.ts_sessions.specs.Procedures.{Procedure, sees, adds, ends, followed_by, ending_as, tries_at}
use Rattle.ts_sessions.specs.Replies.{reply_to, replies}
use Rattle.ts_sessions.specs.Step.{Taken, acts, after_cut, after_line, after_snapshot, after_view, begins, block_refusal, changes, closes, commits, turn_of_commit, cut_turn, finish_turn, finishes, finishes_held, given_up, kind_of, least_start, misread, turn_of_names, named_here, prints, read_at, refresh_meant, turn_of_refresh, refreshes, turn_of_line, snap_turn, snaps, snapshot_taken, taken_of, unfinished_refusal, view_made}
use Rattle.ts_sessions.specs.Steady.{IsEnded}
use Rattle.ts_sessions.proofs.BlockWalks.{block_is}
use Rattle.ts_sessions.specs.Stopped.{OnlyStopsAreReported, StopsAt, ReplyStopsAt}
use Rattle.ts_sessions.proofs.RefusalCodes.{IsOther, Other, checks_other, below}
use Rattle.ts_sessions.proofs.UpperCodes.{rolled_other}
use Rattle.ts_sessions.proofs.NamedLaws.{named_holds, read_holds, unless_holds}
use Rattle.ts_sessions.proofs.SteadyLaws.{refused_here, ended_named}

pub position_at : (h : History) (p : ℕ) → base_position h ≤ p → p ≤ position h → position (prefix h p) ≡ p
position_at start p low le = omega (arith, le)
position_at (resumed i) p low le = omega (arith, low, le)
position_at (h ▸ e) p low le =
    elim (nat_lt (position h) p) as (λ t. nat_lt (position h) p ≡ t → position (cond t (h ▸ e) (prefix h p)) ≡ p) [
      | true ↦ λ after. omega (arith, le, ltb-true (position h) p after)
      | false ↦ λ before. position_at h p low (ltb-false (position h) p before)
    ] refl

-- ---- procedures

-- a procedure that has ended, with a result for which P is true
abbrev pub EndsSo : {A : Type 0} → (A → Type 0) → Procedure A → Type 0
EndsSo P (sees shown f) = ⊥
EndsSo P (adds e next stop) = ⊥
EndsSo P (ends a) = P a

-- a procedure whose last printed read or event was at a position, if it had one. Its result fits the position at which
-- its store stopped, if it did. It ends at once if it finds the store stopped, and after a read that isn't printed
abbrev pub Meets : {A : Type 0} → (Option ℕ → A → Type 0) → Option ℕ → Procedure A → Type 0
Meets N last (sees shown f) = (g : History) → (shown g ≡ true → Meets N (Some (position g)) (f g)) × (shown g ≡ false → EndsSo (λ a. (stop : Option ℕ) → N stop a) (f g))
Meets N None (adds e next stop) = ⊥
Meets N (Some p) (adds e next stop) = Meets N (Some (suc p)) next × EndsSo (N (Some p)) stop
Meets N last (ends a) = (stop : Option ℕ) → N stop a

module _ {A : Type 0} where
  gives_end : (P : A → Type 0) (all : History) (stop : Option ℕ) (at : ℕ) (so_far : List (ℕ × Event)) (procedure : Procedure A) (looks : List (Option ℕ)) (last : ℕ) (given : List (ℕ × Event)) (y : A) → EndsSo P procedure → Gives all stop at so_far procedure looks last given y → P y
  gives_end P all stop at so_far (sees shown f) looks last given y t g = absurd t
  gives_end P all stop at so_far (adds e next stop_next) looks last given y t g = absurd t
  gives_end P all stop at so_far (ends a) [] last given y t g = subst P (sym g.2) t
  gives_end P all stop at so_far (ends a) (p ∷ ps) last given y t g = absurd g

  -- what such a procedure gives fits the position at which the store had stopped
  gives_meets : (N : Option ℕ → A → Type 0) (all : History) (stop : Option ℕ) (at : ℕ) (so_far : List (ℕ × Event)) (procedure : Procedure A) (looks : List (Option ℕ)) (last : ℕ) (given : List (ℕ × Event)) (y : A) (before : Option ℕ) → base_position all ≤ at → IfSome before (λ p. p ≡ at) → Meets N before procedure → Gives all stop at so_far procedure looks last given y → N stop y
  gives_meets N all stop at so_far (sees shown f) [] last given y before low same t g = absurd g
  gives_meets N all stop at so_far (sees shown f) (None ∷ ps) last given y before low same t g =
      gives_end (λ a. (stop : Option ℕ) → N stop a) all stop at so_far (f all) ps last given y ((t all).1 g.0) g.1 stop
  gives_meets N all stop at so_far (sees shown f) (Some p ∷ ps) last given y before low same t g =
      let on : at ≤ p = g.0 in
      let here : base_position all ≤ p = omega (arith, low, on) in
      gives_meets N all stop p so_far (f (prefix all p)) ps last given y (Some (position (prefix all p))) here (position_at all p here g.1) ((t (prefix all p)).0 g.2) g.3
  gives_meets N all stop at so_far (adds e next stop_next) ps last given y None low same t g = absurd t
  gives_meets N all stop at so_far (adds e next stop_next) ps last given y (Some p) low same t (inl g) =
      gives_end (N stop) all stop at so_far stop_next ps last given y (subst (λ s. EndsSo (N s) stop_next) (ap Some same ∙ sym g.0) t.1) g.1
  gives_meets N all stop at so_far (adds e next stop_next) ps last given y (Some p) low same t (inr g) =
      gives_meets N all stop (suc at) (so_far ++ (suc at, e) ∷ []) next ps last given y (Some (suc p)) (omega (arith, low)) (ap suc same) t.0 g.1
  gives_meets N all stop at so_far (ends a) [] last given y before low same t g = subst (N stop) (sym g.2) (t stop)
  gives_meets N all stop at so_far (ends a) (p ∷ ps) last given y before low same t g = absurd g

  -- one procedure after another: the second ends like this wherever the first read last
  meets_as : {B : Type 0} (N : Option ℕ → A → Type 0) (M : Option ℕ → B → Type 0) (g : A → B) (last : Option ℕ) (procedure : Procedure A) → ((stop : Option ℕ) (a : A) → N stop a → M stop (g a)) → Meets N last procedure → Meets M last (ending_as g procedure)
  meets_as N M g last (sees shown f) k t = λ h. (λ look. meets_as N M g (Some (position h)) (f h) k ((t h).0 look), λ hidden. ends_as (f h) ((t h).1 hidden))
    where
      ends_as : (procedure : Procedure A) → EndsSo (λ a. (stop : Option ℕ) → N stop a) procedure → EndsSo (λ b. (stop : Option ℕ) → M stop b) (ending_as g procedure)
      ends_as (sees shown f) t = absurd t
      ends_as (adds e next stop) t = absurd t
      ends_as (ends a) t = λ stop. k stop a (t stop)
  meets_as N M g None (adds e next stop) k t = absurd t
  meets_as N M g (Some p) (adds e next stop) k t = (meets_as N M g (Some (suc p)) next k t.0, stops_as stop t.1)
    where
      stops_as : (procedure : Procedure A) → EndsSo (N (Some p)) procedure → EndsSo (M (Some p)) (ending_as g procedure)
      stops_as (sees shown f) t = absurd t
      stops_as (adds e next stop) t = absurd t
      stops_as (ends a) t = k (Some p) a t
  meets_as N M g last (ends a) k t = λ stop. k stop a (t stop)

-- ---- calls

-- a call is never refused because its store has stopped
abbrev Plain : {A : Type 0} → Act A → Type 0
Plain (is_refused r) = IsOther r.code
Plain (returns a) = ⊤
Plain (makes e a) = ⊤

-- a call, and what follows each of its outcomes
module _ {A B : Type 0} (N : Option ℕ → B → Type 0) (h : History) (then : Result A Refusal → Procedure B) where
  meets_tries : (act : Act A) → Plain act → ((r : Refusal) → IsOther r.code → Meets N (Some (position h)) (then (Err r))) → ((p : ℕ) (a : A) → Meets N (Some p) (then (Ok a))) → EndsSo (N (Some (position h))) (then (Err (refusal stopped h 0))) → Meets N (Some (position h)) (followed_by (tries_at h act) then)
  meets_tries (is_refused r) plain refused done stop = refused r plain
  meets_tries (returns a) plain refused done stop = done (position h) a
  meets_tries (makes e a) plain refused done stop = (done (suc (position h)) a, stop)

-- a refusal other than E24 may come at any stop
other_fault : (stop : Option ℕ) (r : Refusal) → IsOther r.code → StopsAt stop (said.Fault r)
other_fault stop r other e = absurd (other e)

-- a call with a reply of one line
meets_said : {A : Type 0} (h : History) (act : Act A) (g : Result A Refusal → Turn Places) → Plain act → ((stop : Option ℕ) (a : A) → ReplyStopsAt stop (g (Ok a))) → ((stop : Option ℕ) (r : Refusal) → StopsAt stop (said.Fault r) → ReplyStopsAt stop (g (Err r))) → Meets ReplyStopsAt (Some (position h)) (ending_as g (tries_at h act))
meets_said h act g plain done refused =
    meets_tries ReplyStopsAt h (λ r. ends (g r)) act plain (λ r other stop. refused stop r (other_fault stop r other)) (λ p a stop. done stop a) (refused (Some (position h)) (refusal stopped h 0) (λ e. refl))

full_other : IsOther history_full
full_other e = absurd (omega (arith, e))

-- an event that is appended, or refused at the end of a history
made_plain : {A : Type 0} (h : History) (e : Event) (a : A) → Plain (act_of_event h e a)
made_plain h e a = elim (has_room h) as (λ t. Plain (cond t (makes e a) (is_refused (refusal history_full h 0)))) [ true ↦ tt | false ↦ full_other ]

new_plain : (h : History) (snapshot_taken : Bool) (many : ℕ) (e : Event) → Plain (new_relation h snapshot_taken many e)
new_plain h true many e = below name_taken (omega arith)
new_plain h false many e = room (nat_lt many most_relations)
  where
    room : (free : Bool) → Plain (cond free (act_with_number h e) (is_refused (refusal too_many h (suc most_relations))))
    room true = made_plain h e (suc (position h))
    room false = below too_many (omega arith)

hyper_plain : (h : History) (t : ℕ) (hyper : Hyper) → Plain (making_hyper t hyper h)
hyper_plain h t hyper = by (is_some (hyper_of (roster h) t))
  where
    by : (is_one : Bool) → Plain (cond is_one (is_refused (refusal name_taken h 0)) (act_with_number h (HyperMade t hyper)))
    by true = below name_taken (omega arith)
    by false = made_plain h (HyperMade t hyper) (suc (position h))

over_plain : (n : ℕ) (h : History) (w : Window) → Plain (cut_over n h w)
over_plain n h (Whole span) = made_plain h (CutEvent n span) (CutMade (suc (position h)) span)
over_plain n h NoBucket = below no_bucket (omega arith)
over_plain n h Nothing = tt

cut_plain : (n : ℕ) (lo hi : Option ℤ) (h : History) (o : Option ViewDef) → Plain (cut_of_view n lo hi h o)
cut_plain n lo hi h None = tt
cut_plain n lo hi h (Some def) = over_plain n h (window n def h lo hi)

cutting_plain : (n : ℕ) (lo hi : Option ℤ) (h : History) → Plain (act_of_cut n lo hi h)
cutting_plain n lo hi h = cut_plain n lo hi h (view_of (roster h) n)

finish_plain : (c at : ℕ) (h : History) (p : Pending) → Plain (finish_of c at h p)
finish_plain c at h (Waiting n) = made_plain h (BuiltEvent c at) (suc (position h))
finish_plain c at h (Finished f) = below no_refresh (omega arith)
finish_plain c at h Unknown = below no_refresh (omega arith)

finishing_plain : (c at : ℕ) (h : History) → Plain (act_of_finish c at h)
finishing_plain c at h = finish_plain c at h (pending h c)

-- ---- refreshes

-- a snapshot that was taken, or refused for another reason
abbrev Took : Result Taken Refusal → Type 0
Took (Ok t) = ⊤
Took (Err r) = IsOther r.code

took_of : (h : History) (c : ℕ) (p : Pending) → Took (taken_of h c p)
took_of h c (Waiting n) = tt
took_of h c (Finished f) = below no_refresh (omega arith)
took_of h c Unknown = below no_refresh (omega arith)

meets_snapshot : (last : Option ℕ) (p : Places) (c : ℕ) (span : Span) (min : ℤ) (t : Result Taken Refusal) → Took t → Meets ReplyStopsAt last (after_snapshot p c span min t)
meets_snapshot last p c span min (Ok t) took = λ l. (
  λ _. meets_said l (act_of_finish c t.at l) (turn_of_refresh p c span min t) (finishing_plain c t.at l) (λ stop k. (tt, tt)) (λ stop r so. (tt, (so, tt))),
  λ no_look. absurd (true≢false no_look),
)
meets_snapshot last p c span min (Err r) took = λ stop. (tt, (other_fault stop r took, tt))

meets_cut : (q : ℕ) (p : Places) (min : ℤ) (done : CutDone) → Meets ReplyStopsAt (Some q) (after_cut p min (Ok done))
meets_cut q p min (CutMade c span) = λ l. (
  λ _. meets_snapshot (Some (position l)) (cuts c p) c span min (snapshot_taken c l) (took_of l c (pending l c)),
  λ no_look. absurd (true≢false no_look),
)
meets_cut q p min (NothingDone at) = λ stop. (tt, tt)

meets_refreshing : (h : History) (p : Places) (n : ℕ) (lo hi : Option ℤ) (min : ℤ) → Meets ReplyStopsAt (Some (position h)) (followed_by (tries_at h (act_of_cut n lo hi h)) (after_cut p min))
meets_refreshing h p n lo hi min =
    meets_tries ReplyStopsAt h (after_cut p min) (act_of_cut n lo hi h) (cutting_plain n lo hi h) (λ r other stop. (other_fault stop r other, tt)) (λ q done. meets_cut q p min done) ((λ e. refl), tt)

meets_refresh : (last : Option ℕ) (p : Places) (n : ℕ) (lo hi : Option ℤ) (min : ℤ) → Meets ReplyStopsAt last (refreshes p n lo hi min)
meets_refresh last p n lo hi min = λ h. (λ _. meets_refreshing h p n lo hi min, λ no_look. absurd (true≢false no_look))

meets_filled : (q : ℕ) (p : Places) (n : ℕ) (min : ℤ) (k : ℕ) (filled : Bool) → Meets ReplyStopsAt (Some q) (view_made p n min k filled)
meets_filled q p n min k false = λ stop. (tt, tt)
meets_filled q p n min k true = meets_as ReplyStopsAt ReplyStopsAt (after_line (said.View k)) (Some q) (refreshes p n None None min) (λ stop turn so. (tt, so)) (meets_refresh (Some q) p n None None min)

-- ---- actions

meets_commits : (h : History) (p after : Places) (ops : List Op) → Meets ReplyStopsAt (Some (position h)) (commits p after h ops)
meets_commits h p after ops = meets_said h (act_of_commit ops h) (turn_of_commit p after) (made_plain h (CommitEvent ops) (calls_committed ops h)) (λ stop done. (tt, tt)) (λ stop r so. (so, tt))

meets_changes : (h : History) (p : Places) (bytes : ℕ) (op : Op) (b : Block) → Meets ReplyStopsAt (Some (position h)) (changes p bytes h op b)
meets_changes h p bytes op none = meets_commits h p p (op ∷ [])
meets_changes h p bytes op (writing ops n) = λ stop. (tt, tt)
meets_changes h p bytes op (reading at) = meets_commits h p p (op ∷ [])

meets_closes : (h : History) (p : Places) (b : Block) → Meets ReplyStopsAt (Some (position h)) (closes p h b)
meets_closes h p none = λ stop. (tt, tt)
meets_closes h p (writing [] n) = λ stop. (tt, tt)
meets_closes h p (writing (op ∷ ops) n) = meets_commits h p (enters none p) (op ∷ ops)
meets_closes h p (reading at) = λ stop. (tt, tt)

given_up_so : (stop : Option ℕ) (b : Block) → StopsAt stop (given_up b)
given_up_so stop none = tt
given_up_so stop (writing ops n) = tt
given_up_so stop (reading at) = tt

unfinished_other : (h : History) (p : Pending) → IsOther (unfinished_refusal no_snapshot h p).code
unfinished_other h (Waiting n) = below no_snapshot (omega arith)
unfinished_other h (Finished f) = below no_refresh (omega arith)
unfinished_other h Unknown = below no_refresh (omega arith)

meets_held : (h : History) (p : Places) (c : ℕ) (o : Option ℕ) → Meets ReplyStopsAt (Some (position h)) (finishes_held p h c o)
meets_held h p c None = λ stop. (other_fault stop (unfinished_refusal no_snapshot h (pending h c)) (unfinished_other h (pending h c)), tt)
meets_held h p c (Some at) = meets_said h (act_of_finish c at h) (finish_turn p c at) (finishing_plain c at h) (λ stop k. (tt, tt)) (λ stop r so. (so, tt))

meets_finishes : (h : History) (p : Places) (o : Option ℕ) → Meets ReplyStopsAt (Some (position h)) (finishes p h o)
meets_finishes h p None = λ stop. (other_fault stop (refusal no_refresh h 0) (below no_refresh (omega arith)), tt)
meets_finishes h p (Some c) = meets_held h p c (held_for c p.held)

snap_so : (stop : Option ℕ) (p : Places) (c : ℕ) (t : Result Taken Refusal) → Took t → ReplyStopsAt stop (snap_turn p c t)
snap_so stop p c (Ok t) took = (tt, tt)
snap_so stop p c (Err r) took = (other_fault stop r took, tt)

snaps_so : (stop : Option ℕ) (p : Places) (h : History) (o : Option ℕ) → ReplyStopsAt stop (snaps p h o)
snaps_so stop p h None = (other_fault stop (refusal no_refresh h 0) (below no_refresh (omega arith)), tt)
snaps_so stop p h (Some c) = snap_so stop p c (snapshot_taken c h) (took_of h c (pending h c))

cut_so : (stop : Option ℕ) (p : Places) (min : ℤ) (done : CutDone) → ReplyStopsAt stop (cut_turn p min (Ok done))
cut_so stop p min (CutMade c span) = (tt, tt)
cut_so stop p min (NothingDone at) = (tt, tt)

meets_acts : (h : History) (p : Places) (bytes : ℕ) (a : Action) → Meets ReplyStopsAt (Some (position h)) (acts p bytes h a)
meets_acts h p bytes (actions.Table def) = meets_said h (making_table def h) (turn_of_line p said.Table) (new_plain h (is_taken (roster h) def.name) (length (roster h).tables) (TableMade def)) (λ stop k. (tt, tt)) (λ stop r so. (so, tt))
meets_acts h p bytes (actions.Hyper t hyper) = meets_said h (making_hyper t hyper h) (turn_of_line p said.Hypertable) (hyper_plain h t hyper) (λ stop k. (tt, tt)) (λ stop r so. (so, tt))
meets_acts h p bytes (actions.View def filled) =
    let n = length (roster h).views in
    meets_tries ReplyStopsAt h (after_view p n def filled) (making_view def h) (new_plain h (is_taken (roster h) def.name) n (ViewMade def)) (λ r other stop. (other_fault stop r other, tt)) (λ q k. meets_filled q p n _ k filled) ((λ e. refl), tt)
meets_acts h p bytes (actions.Mode n only) = meets_said h (setting_mode n only h) (turn_of_line p said.Mode) (made_plain h (ModeEvent n only) (suc (position h))) (λ stop k. (tt, tt)) (λ stop r so. (so, tt))
meets_acts h p bytes (actions.Change op) = meets_changes h p bytes op p.block
meets_acts h p bytes (actions.Refresh n lo hi) = meets_refreshing h p n lo hi (least_start (view_of (roster h) n))
meets_acts h p bytes (actions.Cut n lo hi) = let min = least_start (view_of (roster h) n) in meets_said h (act_of_cut n lo hi h) (cut_turn p min) (cutting_plain n lo hi h) (λ stop done. cut_so stop p min done) (λ stop r so. (so, tt))
meets_acts h p bytes (actions.Snap cut) = λ stop. snaps_so stop p h (refresh_meant p cut)
meets_acts h p bytes (actions.Finish cut) = meets_finishes h p (refresh_meant p cut)
meets_acts h p bytes actions.Begin = λ stop. (tt, tt)
meets_acts h p bytes actions.BeginRead = λ stop. (tt, tt)
meets_acts h p bytes actions.Commit = meets_closes h p p.block
meets_acts h p bytes actions.Rollback = λ stop. (given_up_so stop p.block, tt)
meets_acts h p bytes (actions.Calendar table number unit at fold) = λ stop. (tt, tt)
meets_acts h p bytes (actions.Ask q) = λ stop. (tt, tt)

meets_named : (h : History) (p : Places) (bytes : ℕ) (stmt : Stmt) → Meets ReplyStopsAt (Some (position h)) (turn_of_names p bytes stmt h)
meets_named h p bytes stmt =
    named_holds (λ d. Meets ReplyStopsAt (Some (position h)) d) p bytes h stmt (λ r e stop. (other_fault stop r (rolled_other (position h) (roster h) stmt r e), tt)) (λ plan stop. (tt, tt))
    (λ r e stop. (other_fault stop r (subst Other e (checks_other (position h) (roster h) stmt)), tt))
    (λ e. meets_acts h p bytes (action_of (roster h) stmt))

-- ---- reads

-- a statement with one read, if a read that isn't printed ends it without E24
meets_here : (last : Option ℕ) (p : Places) (bytes : ℕ) (stmt : Stmt) → ((h : History) → prints p.block (kind_of stmt) (roster h) (refusal_of (position h) (roster h) stmt) ≡ true → read_at p.block h ≡ h) → ((h : History) → prints p.block (kind_of stmt) (roster h) (refusal_of (position h) (roster h) stmt) ≡ false → EndsSo (λ y. (stop : Option ℕ) → ReplyStopsAt stop y) (turn_of_names p bytes stmt (read_at p.block h))) → Meets ReplyStopsAt last (named_here p bytes stmt)
meets_here last p bytes stmt same hidden = λ h. (λ look. subst (λ g. Meets ReplyStopsAt (Some (position h)) (turn_of_names p bytes stmt g)) (sym (same h look)) (meets_named h p bytes stmt), hidden h)

-- if a procedure that meets this has ended, its reply is right at any stop
ended : (last : Option ℕ) (procedure : Procedure (Turn Places)) → IsEnded procedure → Meets ReplyStopsAt last procedure → EndsSo (λ y. (stop : Option ℕ) → ReplyStopsAt stop y) procedure
ended last (sees shown f) i t = absurd i
ended last (adds e next stop) i t = absurd i
ended last (ends a) i t = t

hidden_so : (p : Places) (bytes : ℕ) (stmt : Stmt) (h : History) → IsEnded (turn_of_names p bytes stmt h) → EndsSo (λ y. (stop : Option ℕ) → ReplyStopsAt stop y) (turn_of_names p bytes stmt h)
hidden_so p bytes stmt h i = ended (Some (position h)) (turn_of_names p bytes stmt h) i (meets_named h p bytes stmt)

-- ---- outside a block

ended_outside : (p : Places) (bytes : ℕ) (stmt : Stmt) (h : History) → not (begins (kind_of stmt)) ≡ false → IsEnded (turn_of_names (enters none p) bytes stmt h)
ended_outside p bytes (stmts.Table name cols) h e = absurd (true≢false e)
ended_outside p bytes (stmts.Hyper table col interval) h e = absurd (true≢false e)
ended_outside p bytes (stmts.View name only filled fold) h e = absurd (true≢false e)
ended_outside p bytes (stmts.Mode view only) h e = absurd (true≢false e)
ended_outside p bytes (stmts.Insert table cols rows) h e = absurd (true≢false e)
ended_outside p bytes (stmts.Delete table tests) h e = absurd (true≢false e)
ended_outside p bytes (stmts.Drop table below) h e = absurd (true≢false e)
ended_outside p bytes (stmts.Refresh view lo hi) h e = absurd (true≢false e)
ended_outside p bytes (stmts.Cut view lo hi) h e = absurd (true≢false e)
ended_outside p bytes (stmts.Snap number) h e = absurd (true≢false e)
ended_outside p bytes (stmts.Finish number) h e = absurd (true≢false e)
ended_outside p bytes stmts.Begin h e = tt
ended_outside p bytes stmts.BeginRead h e = absurd (true≢false e)
ended_outside p bytes stmts.Commit h e = absurd (true≢false e)
ended_outside p bytes stmts.Rollback h e = absurd (true≢false e)
ended_outside p bytes (stmts.Buckets fold) h e = absurd (true≢false e)
ended_outside p bytes (stmts.Calendar number unit fold) h e = absurd (true≢false e)
ended_outside p bytes (stmts.Rows table tests) h e = absurd (true≢false e)

meets_outside : (last : Option ℕ) (p : Places) (bytes : ℕ) (stmt : Stmt) → Meets ReplyStopsAt last (named_here (enters none p) bytes stmt)
meets_outside last p bytes stmt = let q = enters none p in meets_here last q bytes stmt (λ h look. refl) (λ h hidden. hidden_so q bytes stmt h (ended_outside p bytes stmt h hidden))

-- ---- in a write block

-- a statement that appends no event there
meets_queue : (last : Option ℕ) (p : Places) (bytes : ℕ) (stmt : Stmt) (ops : List Op) (n : ℕ) → ((h : History) → IsEnded (acts (enters (writing ops n) p) bytes h (action_of (roster h) stmt))) → Meets ReplyStopsAt last (named_here (enters (writing ops n) p) bytes stmt)
meets_queue last p bytes stmt ops n i = let q = enters (writing ops n) p in meets_here last q bytes stmt (λ h look. refl) (λ h hidden. hidden_so q bytes stmt h (ended_named q bytes stmt h (i h)))

meets_commit : (last : Option ℕ) (p : Places) (bytes : ℕ) (ops : List Op) (n : ℕ) → Meets ReplyStopsAt last (named_here (enters (writing ops n) p) bytes stmts.Commit)
meets_commit last p bytes [] n = meets_queue last p bytes stmts.Commit [] n (λ h. tt)
meets_commit last p bytes (op ∷ ops) n = meets_here last (enters (writing (op ∷ ops) n) p) bytes stmts.Commit (λ h look. refl) (λ h hidden. absurd (true≢false hidden))

meets_writing : (last : Option ℕ) (p : Places) (bytes : ℕ) (stmt : Stmt) (ops : List Op) (n : ℕ) → block_refusal (writing ops n) (kind_of stmt) ≡ None → Meets ReplyStopsAt last (named_here (enters (writing ops n) p) bytes stmt)
meets_writing last p bytes (stmts.Table name cols) ops n e = refused_here _ e
meets_writing last p bytes (stmts.Hyper table col interval) ops n e = refused_here _ e
meets_writing last p bytes (stmts.View name only filled fold) ops n e = refused_here _ e
meets_writing last p bytes (stmts.Mode view only) ops n e = refused_here _ e
meets_writing last p bytes (stmts.Insert table cols rows) ops n e = meets_queue last p bytes (stmts.Insert table cols rows) ops n (λ h. tt)
meets_writing last p bytes (stmts.Delete table tests) ops n e = meets_queue last p bytes (stmts.Delete table tests) ops n (λ h. tt)
meets_writing last p bytes (stmts.Drop table below) ops n e = meets_queue last p bytes (stmts.Drop table below) ops n (λ h. tt)
meets_writing last p bytes (stmts.Refresh view lo hi) ops n e = refused_here _ e
meets_writing last p bytes (stmts.Cut view lo hi) ops n e = refused_here _ e
meets_writing last p bytes (stmts.Snap number) ops n e = refused_here _ e
meets_writing last p bytes (stmts.Finish number) ops n e = refused_here _ e
meets_writing last p bytes stmts.Begin ops n e = refused_here _ e
meets_writing last p bytes stmts.BeginRead ops n e = refused_here _ e
meets_writing last p bytes stmts.Commit ops n e = meets_commit last p bytes ops n
meets_writing last p bytes stmts.Rollback ops n e = meets_queue last p bytes stmts.Rollback ops n (λ h. tt)
meets_writing last p bytes (stmts.Buckets fold) ops n e = meets_queue last p bytes (stmts.Buckets fold) ops n (λ h. tt)
meets_writing last p bytes (stmts.Calendar number unit fold) ops n e = meets_queue last p bytes (stmts.Calendar number unit fold) ops n (λ h. tt)
meets_writing last p bytes (stmts.Rows table tests) ops n e = meets_queue last p bytes (stmts.Rows table tests) ops n (λ h. tt)

-- ---- in a read block

meets_read : (last : Option ℕ) (p : Places) (bytes : ℕ) (stmt : Stmt) (at : ℕ) → ((h : History) → IsEnded (acts (enters (reading at) p) bytes h (action_of (roster h) stmt))) → Meets ReplyStopsAt last (named_here (enters (reading at) p) bytes stmt)
meets_read last p bytes stmt at i = let q = enters (reading at) p in meets_here last q bytes stmt (λ h look. absurd (true≢false (sym look))) (λ h hidden. hidden_so q bytes stmt (prefix h at) (ended_named q bytes stmt (prefix h at) (i (prefix h at))))

meets_reading : (last : Option ℕ) (p : Places) (bytes : ℕ) (stmt : Stmt) (at : ℕ) → block_refusal (reading at) (kind_of stmt) ≡ None → Meets ReplyStopsAt last (named_here (enters (reading at) p) bytes stmt)
meets_reading last p bytes (stmts.Table name cols) at e = refused_here _ e
meets_reading last p bytes (stmts.Hyper table col interval) at e = refused_here _ e
meets_reading last p bytes (stmts.View name only filled fold) at e = refused_here _ e
meets_reading last p bytes (stmts.Mode view only) at e = refused_here _ e
meets_reading last p bytes (stmts.Insert table cols rows) at e = refused_here _ e
meets_reading last p bytes (stmts.Delete table tests) at e = refused_here _ e
meets_reading last p bytes (stmts.Drop table below) at e = refused_here _ e
meets_reading last p bytes (stmts.Refresh view lo hi) at e = refused_here _ e
meets_reading last p bytes (stmts.Cut view lo hi) at e = refused_here _ e
meets_reading last p bytes (stmts.Snap number) at e = refused_here _ e
meets_reading last p bytes (stmts.Finish number) at e = refused_here _ e
meets_reading last p bytes stmts.Begin at e = refused_here _ e
meets_reading last p bytes stmts.BeginRead at e = refused_here _ e
meets_reading last p bytes stmts.Commit at e = meets_read last p bytes stmts.Commit at (λ h. tt)
meets_reading last p bytes stmts.Rollback at e = meets_read last p bytes stmts.Rollback at (λ h. tt)
meets_reading last p bytes (stmts.Buckets fold) at e = meets_read last p bytes (stmts.Buckets fold) at (λ h. tt)
meets_reading last p bytes (stmts.Calendar number unit fold) at e = meets_read last p bytes (stmts.Calendar number unit fold) at (λ h. tt)
meets_reading last p bytes (stmts.Rows table tests) at e = meets_read last p bytes (stmts.Rows table tests) at (λ h. tt)

-- ---- lines

block_other : (b : Block) (kind : StatementKind) → Other (block_refusal b kind)
block_other none kinds.Defines = tt
block_other none kinds.Changes = tt
block_other none kinds.Asks = tt
block_other none kinds.Snaps = tt
block_other none kinds.Finishes = tt
block_other none kinds.Begins = tt
block_other none kinds.BeginsRead = tt
block_other none kinds.Commits = below no_block (omega arith)
block_other none kinds.RollsBack = below no_block (omega arith)
block_other (writing ops n) kinds.Defines = below in_write_block (omega arith)
block_other (writing ops n) kinds.Changes = tt
block_other (writing ops n) kinds.Asks = tt
block_other (writing ops n) kinds.Snaps = below in_write_block (omega arith)
block_other (writing ops n) kinds.Finishes = below in_write_block (omega arith)
block_other (writing ops n) kinds.Begins = below in_write_block (omega arith)
block_other (writing ops n) kinds.BeginsRead = below in_write_block (omega arith)
block_other (writing ops n) kinds.Commits = tt
block_other (writing ops n) kinds.RollsBack = tt
block_other (reading at) kinds.Defines = below in_read_block (omega arith)
block_other (reading at) kinds.Changes = below in_read_block (omega arith)
block_other (reading at) kinds.Asks = tt
block_other (reading at) kinds.Snaps = below in_read_block (omega arith)
block_other (reading at) kinds.Finishes = below in_read_block (omega arith)
block_other (reading at) kinds.Begins = below in_read_block (omega arith)
block_other (reading at) kinds.BeginsRead = below in_read_block (omega arith)
block_other (reading at) kinds.Commits = tt
block_other (reading at) kinds.RollsBack = tt

misread_other : (f : Fault) → IsOther (misread f).code
misread_other (faults.NoToken place) = below no_token (omega arith)
misread_other (faults.Syntax place) = below syntax (omega arith)
misread_other (faults.BadNumber place) = below bad_number (omega arith)

meets_block : (last : Option ℕ) (p : Places) (bytes : ℕ) (stmt : Stmt) (b : Block) → block_refusal b (kind_of stmt) ≡ None → Meets ReplyStopsAt last (named_here (enters b p) bytes stmt)
meets_block last p bytes stmt none e = meets_outside last p bytes stmt
meets_block last p bytes stmt (writing ops n) e = meets_writing last p bytes stmt ops n e
meets_block last p bytes stmt (reading at) e = meets_reading last p bytes stmt at e

meets_statement : (last : Option ℕ) (p : Places) (bytes : ℕ) (stmt : Stmt) → Meets ReplyStopsAt last (replies p bytes stmt)
meets_statement last p bytes stmt =
    unless_holds (λ d. Meets ReplyStopsAt last d) p (block_refusal p.block (kind_of stmt)) (named_here p bytes stmt) (λ r e stop. (other_fault stop r (subst Other e (block_other p.block (kind_of stmt))), tt))
    (λ e. subst (λ q. Meets ReplyStopsAt last (named_here q bytes stmt)) (sym (block_is p p.block refl)) (meets_block last p bytes stmt p.block e))

pub meets_reply : (last : Option ℕ) (p : Places) (text : List ℕ) (skip : ℕ) → Meets ReplyStopsAt last (reply_to p text skip)
meets_reply last p text skip =
    read_holds (λ d. Meets ReplyStopsAt last d) p (replies p (length text)) (statement (stream text skip)) (λ f stop. (other_fault stop (misread f) (misread_other f), tt)) (meets_statement last p (length text))

pub reply_stops : OnlyStopsAreReported reply_to
reply_stops all stop at p text skip looks last given y low g = gives_meets ReplyStopsAt all stop at [] (reply_to p text skip) looks last given y None low tt (meets_reply None p text skip) g
