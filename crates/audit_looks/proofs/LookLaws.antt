-- A replay by the printed read positions yields what a line gave.
use Rattle.std.proofs.Common.{◌≡◌, ℕ, suc, ◌+◌, ◌≤◌, Bool, true, false, cond, nat_lt, List, [], ◌∷◌, ◌++◌, length, Option, Some, None, inl, inr, sym, refl, ap, ◌∙◌, subst, ◌⊎◌, arith}
use Rattle.std.specs.Prelude.{Result, Ok, Err, ℤ, is_some, ⊤}
use Rattle.std.specs.List.{AllByRecursion}
use Rattle.std.proofs.lemmas.List.{append_assoc}
use Rattle.std.proofs.lemmas.Option.{none-some}
use Rattle.std.proofs.lemmas.Bool.{true≢false, and_right, not-false}
use Rattle.ts_bucket.specs.Bucket.{first_of}
use Rattle.ts_bucket.specs.declared.spans.Span.{Span}
use Rattle.ts_model.specs.declared.events.Event.{Event}
use Rattle.ts_model.specs.declared.events.Event.TheVariants.{Hyper as HyperMade, Table as TableMade, View as ViewMade, Cut as CutEvent, Built as BuiltEvent, Commit as CommitEvent, Mode as ModeEvent}
use Rattle.ts_model.specs.declared.events.Op.{Op}
use Rattle.ts_model.specs.declared.outcomes.Committed.{Committed}
use Rattle.ts_model.specs.declared.outcomes.CutDone.{CutDone}
use Rattle.ts_model.specs.declared.outcomes.CutDone.TheVariants.{Cut as CutMade, Nothing as NothingDone}
use Rattle.ts_model.specs.declared.outcomes.Refusal.{Refusal}
use Rattle.ts_model.specs.declared.refreshes.Pending.{Pending}
use Rattle.ts_model.specs.declared.refreshes.Pending.TheVariants.{Waiting, Finished, Unknown}
use Rattle.ts_model.specs.declared.refreshes.Window.{Window}
use Rattle.ts_model.specs.declared.refreshes.Window.TheVariants.{Whole, NoBucket, Nothing}
use Rattle.ts_model.specs.declared.rosters.Roster.{Roster}
use Rattle.ts_model.specs.declared.tables.Hyper.{Hyper}
use Rattle.ts_model.specs.declared.views.ViewDef.{ViewDef}
use Rattle.ts_model.specs.Timely.{has_room}
use Rattle.ts_model.specs.Calls.{Act, commit_result as calls_committed, act_of_event, refuses as is_refused, returns, makes, act_of_commit, cut_of_view, cut_over, act_of_cut, finish_of, act_of_finish, making_hyper, making_table, making_view, new_relation, act_with_number, refusal, setting_mode}
use Rattle.ts_model.specs.Numbers.{name_taken, no_bucket, no_refresh, no_snapshot, too_many, history_full}
use Rattle.ts_model.specs.History.{History, Begins, base_position, position, prefix, same}
use Rattle.ts_model.proofs.HistoryLaws.{begins_prefix, position_begins}
use Rattle.ts_model.specs.Limits.{most_relations}
use Rattle.ts_model.specs.Pending.{pending}
use Rattle.ts_model.specs.Reads.{job_reads}
use Rattle.ts_model.specs.Roster.{roster, hyper_of, is_taken, view_of}
use Rattle.ts_model.specs.Windows.{window}
use Rattle.stmt_reader.specs.declared.faults.Fault.{Fault}
use Rattle.stmt_reader.specs.declared.faults.Fault.TheVariants as faults
use Rattle.stmt_syntax.specs.declared.statements.Stmt.{Stmt}
use Rattle.stmt_syntax.specs.declared.statements.Stmt.TheVariants as stmts
use Rattle.stmt_reader.specs.Reading.{statement}
use Rattle.stmt_tokens.specs.Streams.{stream}
use Rattle.stmt_check.specs.declared.actions.Action.{Action}
use Rattle.stmt_check.specs.declared.actions.Action.TheVariants as actions
use Rattle.stmt_check.specs.Check.{action_of, refusal_of}
use Rattle.result_text.specs.declared.replies.Said.TheVariants as said
use Rattle.ts_sessions.specs.declared.kinds.StatementKind.{StatementKind}
use Rattle.ts_sessions.specs.declared.kinds.StatementKind.TheVariants as kinds
use Rattle.ts_sessions.specs.declared.queries.Plan.{Plan}
use Rattle.ts_sessions.specs.Gives.{Gives}
use Rattle.ts_sessions.specs.Looks.{before, looks_told, refusal_told, shows_position}
use Rattle.ts_sessions.specs.Places.{Block, none, writing, reading, Places, Turn, cuts, enters, held_for, refuses, turns}
use Rattle.ts_sessions.specs.Procedures.{Procedure, sees, adds, ends, ending_as, followed_by, looks, tries_at}
use Rattle.ts_sessions.specs.Replies.{reply_to, replies}
use Rattle.ts_sessions.specs.Step.{Taken, acts, after_cut, after_line, after_snapshot, after_view, answers, begins, block_refusal, calendar_plan, commits, turn_of_commit, cut_refused, cut_turn, finish_turn, finishes, finishes_held, kind_of, least_start, makes_event, misread, turn_of_names, named_here, on_hypertables, plan_of, prints, prints_writing, refresh_meant, turn_of_refresh, refreshes, refusal_outside, turn_of_line, snap_turn, snaps, snapshot_taken, taken_of, unfinished_refusal, unit_of, unless, view_made}
use Rattle.audit_looks.specs.Replay.{Told, Tells}
use Rattle.audit_looks.specs.ReplayLaws.{RepliesTellTheirLooks}
use Rattle.ts_sessions.proofs.BlockWalks.{block_is}
use Rattle.ts_sessions.proofs.HypertableLaws.{on_hypertables_stay}
use Rattle.ts_sessions.proofs.NamedLaws.{event_named, named_holds, read_holds, unless_holds}
use Rattle.ts_sessions.proofs.RefusalCodes.{IsLooked, Looked, checks_looked, looked}
use Rattle.ts_sessions.proofs.SteadyLaws.{none_there, only_begins, refused_here}
use Rattle.ts_sessions.proofs.StopLaws.{EndsSo, position_at}
use Rattle.ts_sessions.proofs.GivenEnds.{gives_as}
use Rattle.audit_looks.proofs.ReplayLaws.{may_from, tells_as}
use Rattle.ts_sessions.proofs.UpperCodes.{rolled_looked}

-- ---- the read positions that the end of a procedure prints

-- positions of a history
abbrev Within : History → List ℕ → Type 0
Within all ps = AllByRecursion (λ p. p ≤ position all) ps

-- an outcome, as a result of Tells
abbrev telling : {A : Type 0} → ℕ → List (ℕ × Event) → A → Option (Told A)
telling last given a = Some (record { last = last; given = given; end = a })

-- what a procedure gave, after these read positions of the reply were taken: a replay by the rest of the positions
-- yields it
record Comes (all : History) (at : ℕ) (so_far : List (ℕ × Event)) (before_it : List ℕ) (procedure : Procedure (Turn Places)) (last : ℕ) (given : List (ℕ × Event)) (y : Turn Places) : Type 0 where
  rest : List ℕ
  told : looks_told y.said ≡ before_it ++ rest
  within : Within all rest
  end : Turn Places
  said : end.said ≡ y.said
  places : end.places ≡ y.places
  tells : Tells all at so_far procedure rest (telling last given end)

-- the same for all that the procedure gives
abbrev TellsLooks : List ℕ → Procedure (Turn Places) → Type 0
TellsLooks before_it procedure =
    (all : History) (at : ℕ) (so_far : List (ℕ × Event)) (looks : List (Option ℕ)) (last : ℕ) (given : List (ℕ × Event)) (y : Turn Places)
    → base_position all ≤ at → Within all before_it → Gives all None at so_far procedure looks last given y → Comes all at so_far before_it procedure last given y

-- ---- procedures

within_more : (all : History) (ps : List ℕ) (p : ℕ) → Within all ps → p ≤ position all → Within all (ps ++ p ∷ [])
within_more all [] p w le = (le, tt)
within_more all (q ∷ ps) p w le = (w.0, within_more all ps p w.1 le)

same_end : {A : Type 0} (last at : ℕ) (given so_far : List (ℕ × Event)) (a : A) → last ≡ at → given ≡ so_far → telling last given a ≡ telling at so_far a
same_end last at given so_far a l g = ap (λ k. telling k given a) l ∙ ap (λ es. telling at es a) g

tells_end : (before_it rest : List ℕ) (t : Turn Places) → looks_told t.said ≡ before_it ++ rest → ((all : History) → Within all before_it → Within all rest) → TellsLooks before_it (ends t)
tells_end before_it rest t is within all at so_far [] last given y low b g = record {
  rest = rest;
  told = ap (λ x. looks_told x.said) g.2 ∙ is;
  within = within all b;
  end = t;
  said = sym (ap (λ x. x.said) g.2);
  places = sym (ap (λ x. x.places) g.2);
  tells = same_end last at given so_far t g.0 g.1;
}
tells_end before_it rest t is within all at so_far (p ∷ ps) last given y low b g = absurd g

-- an end whose printed read positions were all taken
tells_all : (before_it : List ℕ) (t : Turn Places) → looks_told t.said ≡ before_it ++ [] → TellsLooks before_it (ends t)
tells_all before_it t is = tells_end before_it [] t is (λ all w. tt)

-- a read that is printed
looked_at : (all : History) (at p : ℕ) (so_far : List (ℕ × Event)) (before_it : List ℕ) (shown : History → Bool) (f : History → Procedure (Turn Places)) (last : ℕ) (given : List (ℕ × Event)) (y : Turn Places) → at ≤ p → p ≤ position all → shown (prefix all p) ≡ true → position (prefix all p) ≡ p → Comes all p so_far (before_it ++ position (prefix all p) ∷ []) (f (prefix all p)) last given y → Comes all at so_far before_it (sees shown f) last given y
looked_at all at p so_far before_it shown f last given y low high look there c = record {
  rest = p ∷ c.rest;
  told = c.told ∙ append_assoc before_it (position (prefix all p) ∷ []) c.rest ∙ ap (λ k. before_it ++ k ∷ c.rest) there;
  within = (high, c.within);
  end = c.end;
  said = c.said;
  places = c.places;
  tells = inl (may_from all at shown p low high look, c.tells);
}

looks_printed : (before_it : List ℕ) (shown : History → Bool) (f : History → Procedure (Turn Places)) (all : History) (at p : ℕ) (so_far : List (ℕ × Event)) (ps : List (Option ℕ)) (last : ℕ) (given : List (ℕ × Event)) (y : Turn Places) → base_position all ≤ at → Within all before_it → TellsLooks (before_it ++ position (prefix all p) ∷ []) (f (prefix all p)) → at ≤ p → p ≤ position all → shown (prefix all p) ≡ true → Gives all None p so_far (f (prefix all p)) ps last given y → Comes all at so_far before_it (sees shown f) last given y
looks_printed before_it shown f all at p so_far ps last given y low b n le high look g =
    let here : base_position all ≤ p = omega (arith, low, le) in
    let there = position_at all p here high in
    let more = within_more all before_it (position (prefix all p)) b (omega (arith, high, there)) in
    looked_at all at p so_far before_it shown f last given y le high look there (n all p so_far ps last given y here more g)

tells_look : (before_it : List ℕ) (f : History → Procedure (Turn Places)) → ((h : History) → TellsLooks (before_it ++ position h ∷ []) (f h)) → TellsLooks before_it (looks f)
tells_look before_it f n all at so_far [] last given y low b g = absurd g
tells_look before_it f n all at so_far (None ∷ ps) last given y low b g = absurd (true≢false g.0)
tells_look before_it f n all at so_far (Some p ∷ ps) last given y low b g = looks_printed before_it (λ h. true) f all at p so_far ps last given y low b (n (prefix all p)) g.0 g.1 refl g.3

-- an event
tells_event : (before_it : List ℕ) (e : Event) (next stop : Procedure (Turn Places)) → TellsLooks before_it next → TellsLooks before_it (adds e next stop)
tells_event before_it e next stop n all at so_far ps last given y low b (inl g) = absurd (none-some at g.0)
tells_event before_it e next stop n all at so_far ps last given y low b (inr g) =
    let c = n all (suc at) (so_far ++ (suc at, e) ∷ []) ps last given y (omega (arith, low)) b g.1 in
    record { rest = c.rest; told = c.told; within = c.within; end = c.end; said = c.said; places = c.places; tells = inl (g.0, c.tells) }

-- an earlier line of the reply
tells_after : (k : ℕ) (before_it : List ℕ) (procedure : Procedure (Turn Places)) → TellsLooks before_it procedure → TellsLooks (before k ∷ before_it) (ending_as (after_line (said.View k)) procedure)
tells_after k before_it procedure n all at so_far ps last given y low b g =
    let line : Turn Places → Turn Places = after_line (said.View k) in
    let x = gives_as line all at so_far procedure ps last given y g in
    let c = n all at so_far ps last given x.end low b.1 x.gives in
    record {
      rest = c.rest;
      told = ap (λ t. looks_told t.said) x.is ∙ ap (λ l. before k ∷ l) c.told;
      within = c.within;
      end = line c.end;
      said = ap (λ l. said.View k ∷ l) c.said ∙ sym (ap (λ t. t.said) x.is);
      places = c.places ∙ sym (ap (λ t. t.places) x.is);
      tells = tells_as line all at so_far procedure c.rest (telling last given c.end) c.tells;
    }

-- a replay by any read positions yields a value that P is true of, for a procedure that only ends
record EndsByAny (P : Turn Places → Type 0) (all : History) (at : ℕ) (so_far : List (ℕ × Event)) (procedure : Procedure (Turn Places)) (last : ℕ) (given : List (ℕ × Event)) (y : Turn Places) : Type 0 where
  holds : P y
  tells : (ps : List ℕ) → Tells all at so_far procedure ps (telling last given y)

ended_tells : (P : Turn Places → Type 0) (all : History) (at : ℕ) (so_far : List (ℕ × Event)) (procedure : Procedure (Turn Places)) (looks : List (Option ℕ)) (last : ℕ) (given : List (ℕ × Event)) (y : Turn Places) → EndsSo P procedure → Gives all None at so_far procedure looks last given y → EndsByAny P all at so_far procedure last given y
ended_tells P all at so_far (sees shown f) looks last given y t g = absurd t
ended_tells P all at so_far (adds e next stop) looks last given y t g = absurd t
ended_tells P all at so_far (ends a) [] last given y t g = record {
  holds = subst P (sym g.2) t;
  tells = λ ps. same_end last at given so_far y g.0 g.1 ∙ ap (telling at so_far) g.2;
}
ended_tells P all at so_far (ends a) (p ∷ ps) last given y t g = absurd g

-- a read that isn't printed ends its statement. Either the reply prints no position, or the read isn't printed at any
-- earlier history
abbrev Hidden : (History → Bool) → History → Procedure (Turn Places) → Type 0
Hidden shown h procedure = EndsSo (λ y. looks_told y.said ≡ []) procedure ⊎ (((g : History) → Begins g h → shown g ≡ false) × EndsSo (λ y. Within h (looks_told y.said)) procedure)

unseen : (all : History) (at : ℕ) (so_far : List (ℕ × Event)) (shown : History → Bool) (f : History → Procedure (Turn Places)) (rest : List ℕ) (r : Option (Told (Turn Places))) → ((g : History) → Begins g all → shown g ≡ false) → Tells all at so_far (f all) rest r → Tells all at so_far (sees shown f) rest r
unseen all at so_far shown f [] r hides t = inl (hides all same, t)
unseen all at so_far shown f (p ∷ ps) r hides t = inr (inl (and_right _ (shown (prefix all p)) (hides (prefix all p) (begins_prefix all p)), hides all same, t))

hidden_comes : (shown : History → Bool) (f : History → Procedure (Turn Places)) (all : History) (at : ℕ) (so_far : List (ℕ × Event)) (ps : List (Option ℕ)) (last : ℕ) (given : List (ℕ × Event)) (y : Turn Places) → shown all ≡ false → Hidden shown all (f all) → Gives all None at so_far (f all) ps last given y → Comes all at so_far [] (sees shown f) last given y
hidden_comes shown f all at so_far ps last given y unseen_now (inl t) g =
    let e = ended_tells (λ x. looks_told x.said ≡ []) all at so_far (f all) ps last given y t g in
    record { rest = []; told = e.holds; within = tt; end = y; said = refl; places = refl; tells = inl (unseen_now, e.tells []) }
hidden_comes shown f all at so_far ps last given y unseen_now (inr t) g =
    let e = ended_tells (λ x. Within all (looks_told x.said)) all at so_far (f all) ps last given y t.1 g in
    let rest = looks_told y.said in
    record { rest = rest; told = refl; within = e.holds; end = y; said = refl; places = refl; tells = unseen all at so_far shown f rest _ t.0 (e.tells rest) }

-- the first read of a statement
tells_first : (shown : History → Bool) (f : History → Procedure (Turn Places)) → ((h : History) → shown h ≡ true → TellsLooks (position h ∷ []) (f h)) → ((h : History) → shown h ≡ false → Hidden shown h (f h)) → TellsLooks [] (sees shown f)
tells_first shown f n hid all at so_far [] last given y low b g = absurd g
tells_first shown f n hid all at so_far (None ∷ ps) last given y low b g = hidden_comes shown f all at so_far ps last given y g.0 (hid all g.0) g.1
tells_first shown f n hid all at so_far (Some p ∷ ps) last given y low b g = looks_printed [] shown f all at p so_far ps last given y low b (n (prefix all p) g.2) g.0 g.1 g.2 g.3

-- ---- refusals

fault_told : (pos : ℕ) (r : Refusal) → IsLooked pos r → refusal_told r [] ≡ pos ∷ pos ∷ []
fault_told pos r l = ap (λ b. cond b (r.pos ∷ r.pos ∷ []) []) l.shown ∙ ap (λ k. k ∷ k ∷ []) l.at

-- a refusal at the only read position
tells_fault : (h : History) (p : Places) (r : Refusal) → IsLooked (position h) r → TellsLooks (position h ∷ []) (ends (refuses p r))
tells_fault h p r l = tells_end (position h ∷ []) (position h ∷ []) (refuses p r) (fault_told (position h) r l) (λ all w. w)

-- a refusal without a position
tells_bare : (p : Places) (r : Refusal) → shows_position r.code ≡ false → TellsLooks [] (ends (refuses p r))
tells_bare p r e = tells_all [] (refuses p r) (ap (λ b. cond b (r.pos ∷ r.pos ∷ []) []) e)

-- ---- calls

-- a call returns the position at which it read
abbrev Finds : {A : Type 0} → (A → ℕ) → History → Act A → Type 0
Finds of h (is_refused r) = IsLooked (position h) r
Finds of h (returns a) = of a ≡ position h
Finds of h (makes e a) = of a ≡ position h

abbrev of_commit : Committed → ℕ
of_commit done = before done.pos

abbrev of_cut : CutDone → ℕ
of_cut (CutMade c span) = before c
of_cut (NothingDone at) = at

-- an event that is appended, or refused at the end of a history
made_finds : {A : Type 0} (of : A → ℕ) (h : History) (e : Event) (a : A) → of a ≡ position h → Finds of h (act_of_event h e a)
made_finds of h e a is = elim (has_room h) as (λ t. Finds of h (cond t (makes e a) (is_refused (refusal history_full h 0)))) [ true ↦ is | false ↦ looked (position h) history_full 0 refl ]

new_finds : (h : History) (snapshot_taken : Bool) (many : ℕ) (e : Event) → Finds before h (new_relation h snapshot_taken many e)
new_finds h true many e = looked (position h) name_taken 0 refl
new_finds h false many e = elim (nat_lt many most_relations) as (λ t. Finds before h (cond t (act_with_number h e) (is_refused (refusal too_many h (suc most_relations))))) [ true ↦ made_finds before h e (suc (position h)) refl | false ↦ looked (position h) too_many (suc most_relations) refl ]

hyper_finds : (t : ℕ) (hyper : Hyper) (h : History) → Finds before h (making_hyper t hyper h)
hyper_finds t hyper h = elim (is_some (hyper_of (roster h) t)) as (λ b. Finds before h (cond b (is_refused (refusal name_taken h 0)) (act_with_number h (HyperMade t hyper)))) [ true ↦ looked (position h) name_taken 0 refl | false ↦ made_finds before h (HyperMade t hyper) (suc (position h)) refl ]

over_finds : (n : ℕ) (h : History) (w : Window) → Finds of_cut h (cut_over n h w)
over_finds n h (Whole span) = made_finds of_cut h (CutEvent n span) (CutMade (suc (position h)) span) refl
over_finds n h NoBucket = looked (position h) no_bucket 0 refl
over_finds n h Nothing = refl

view_finds : (n : ℕ) (lo hi : Option ℤ) (h : History) (o : Option ViewDef) → Finds of_cut h (cut_of_view n lo hi h o)
view_finds n lo hi h None = refl
view_finds n lo hi h (Some def) = over_finds n h (window n def h lo hi)

cut_finds : (n : ℕ) (lo hi : Option ℤ) (h : History) → Finds of_cut h (act_of_cut n lo hi h)
cut_finds n lo hi h = view_finds n lo hi h (view_of (roster h) n)

pending_finds : (c at : ℕ) (h : History) (p : Pending) → Finds before h (finish_of c at h p)
pending_finds c at h (Waiting n) = made_finds before h (BuiltEvent c at) (suc (position h)) refl
pending_finds c at h (Finished f) = looked (position h) no_refresh f refl
pending_finds c at h Unknown = looked (position h) no_refresh 0 refl

finish_finds : (c at : ℕ) (h : History) → Finds before h (act_of_finish c at h)
finish_finds c at h = pending_finds c at h (pending h c)

-- a call, and what follows by its outcome
tells_call : {A : Type 0} (of : A → ℕ) (before_it : List ℕ) (h : History) (act : Act A) (then : Result A Refusal → Procedure (Turn Places)) → Finds of h act → ((r : Refusal) → IsLooked (position h) r → TellsLooks before_it (then (Err r))) → ((a : A) → of a ≡ position h → TellsLooks before_it (then (Ok a))) → TellsLooks before_it (followed_by (tries_at h act) then)
tells_call of before_it h (is_refused r) then finds refused answered = refused r finds
tells_call of before_it h (returns a) then finds refused answered = answered a finds
tells_call of before_it h (makes e a) then finds refused answered = tells_event before_it e (then (Ok a)) _ (answered a finds)

-- a call with a reply of one line
tells_said : {A : Type 0} (of : A → ℕ) (h : History) (act : Act A) (p : Places) (turn : Result A Refusal → Turn Places) → Finds of h act → ((r : Refusal) → turn (Err r) ≡ refuses p r) → ((a : A) → looks_told (turn (Ok a)).said ≡ of a ∷ []) → TellsLooks (position h ∷ []) (ending_as turn (tries_at h act))
tells_said of h act p turn finds refused answered =
    tells_call of (position h ∷ []) h act (λ r. ends (turn r)) finds (λ r l. subst (λ t. TellsLooks (position h ∷ []) (ends t)) (sym (refused r)) (tells_fault h p r l))
    (λ a at. tells_all (position h ∷ []) (turn (Ok a)) (answered a ∙ ap (λ k. k ∷ []) at))

-- ---- refreshes

-- a finish is refused with a snapshot of the same position, or its snapshot is refused
module _ (p : Places) (c : ℕ) (span : Span) (min : ℤ) (all : History) (at q : ℕ) (so_far : List (ℕ × Event)) (last : ℕ) (given : List (ℕ × Event)) (low : at ≤ q) (high : q ≤ position all) (ended : (last ≡ q) × (given ≡ so_far)) where
  -- the turn with such a reply
  record Again (procedure : Procedure (Turn Places)) (r : Refusal) : Type 0 where
    reads : ℕ
    tells : Tells all at so_far procedure (q ∷ q ∷ []) (telling last given (cut_refused p c span min r reads))

  snapshot_again : (o : Pending) (r : Refusal) → pending (prefix all q) c ≡ o → taken_of (prefix all q) c o ≡ Err r → Tells all at so_far (looks (λ h. after_snapshot p c span min (snapshot_taken c h))) (q ∷ q ∷ []) (telling last given (cut_refused p c span min r 0))
  snapshot_again o r is refused =
      let h = prefix all q in
      let told : Option (Told (Turn Places)) = telling last given (cut_refused p c span min r 0) in
      let taken_is : snapshot_taken c h ≡ Err r = ap (taken_of h c) is ∙ refused in
      inl (may_from all at (λ h. true) q low high refl, subst (λ t. Tells all q so_far (after_snapshot p c span min t) (q ∷ []) told) (sym taken_is) (same_end last q given so_far (cut_refused p c span min r 0) ended.0 ended.1))

  finish_again : (n : ℕ) → pending (prefix all q) c ≡ Waiting n → has_room (prefix all q) ≡ false → Tells all at so_far (looks (λ h. after_snapshot p c span min (snapshot_taken c h))) (q ∷ q ∷ []) (telling last given (cut_refused p c span min (refusal history_full (prefix all q) 0) (job_reads (prefix all q) c)))
  finish_again n is full =
      let h = prefix all q in
      let full_there = refusal history_full h 0 in
      let t : Taken = record { at = position h; reads = job_reads h c } in
      let end : Turn Places = cut_refused p c span min full_there (job_reads h c) in
      let told : Option (Told (Turn Places)) = telling last given end in
      let finish_is : act_of_finish c (position h) h ≡ is_refused full_there = ap (finish_of c (position h) h) is ∙ ap (λ b. cond b (makes (BuiltEvent c (position h)) (suc (position h))) (is_refused full_there)) full in
      let taken_is : snapshot_taken c h ≡ Ok t = ap (taken_of h c) is in
      let finished : Tells all q so_far (ending_as (turn_of_refresh p c span min t) (tries_at h (act_of_finish c (position h) h))) [] told =
      subst (λ a. Tells all q so_far (ending_as (turn_of_refresh p c span min t) (tries_at h a)) [] told) (sym finish_is) (same_end last q given so_far end ended.0 ended.1) in
      inl (may_from all at (λ h. true) q low high refl, subst (λ x. Tells all q so_far (after_snapshot p c span min x) (q ∷ []) told) (sym taken_is) (inl (may_from all q (λ h. true) q (omega arith) high refl, finished)))

-- a cut and then a refusal at a position
cut_told : (p : Places) (c : ℕ) (span : Span) (min : ℤ) (pos q reads : ℕ) (r : Refusal) → before c ≡ pos → IsLooked q r → looks_told (cut_refused p c span min r reads).said ≡ pos ∷ q ∷ q ∷ []
cut_told p c span min pos q reads r is l = ap (λ k. k ∷ refusal_told r []) is ∙ ap (λ ps. pos ∷ ps) (fault_told q r l)

module _ (p : Places) (c : ℕ) (span : Span) (min : ℤ) (pos : ℕ) (is : before c ≡ pos) (all : History) (at : ℕ) (so_far : List (ℕ × Event)) (last : ℕ) (given : List (ℕ × Event)) (y : Turn Places) where
  abbrev snapshot_part : Procedure (Turn Places)
  snapshot_part = looks (λ h. after_snapshot p c span min (snapshot_taken c h))

  -- the outcome of a finish that was refused
  refused_comes : (q reads reads_too : ℕ) (r : Refusal) → q ≤ position all → position (prefix all q) ≡ q → IsLooked (position (prefix all q)) r → y ≡ cut_refused p c span min r reads → Tells all at so_far snapshot_part (q ∷ q ∷ []) (telling last given (cut_refused p c span min r reads_too)) → Comes all at so_far (pos ∷ []) snapshot_part last given y
  refused_comes q reads reads_too r high there l end t = record {
    rest = q ∷ q ∷ [];
    told = ap (λ x. looks_told x.said) end ∙ cut_told p c span min pos (position (prefix all q)) reads r is l ∙ ap (λ k. pos ∷ k ∷ k ∷ []) there;
    within = (high, (high, tt));
    end = cut_refused p c span min r reads_too;
    said = sym (ap (λ x. x.said) end);
    places = sym (ap (λ x. x.places) end);
    tells = t;
  }

  -- the outcome of a finish that succeeded, with a snapshot at a position
  made_comes : (s q n : ℕ) (qs : List (Option ℕ)) (t : Taken) → pending (prefix all q) c ≡ Waiting n → has_room (prefix all q) ≡ true → at ≤ s → s ≤ q → q ≤ position all → position (prefix all s) ≡ s → position (prefix all q) ≡ q → snapshot_taken c (prefix all s) ≡ Ok t → t.at ≡ position (prefix all s) → base_position all ≤ at → Within all (pos ∷ []) → Gives all None q so_far (ending_as (turn_of_refresh p c span min t) (tries_at (prefix all q) (act_of_finish c t.at (prefix all q)))) qs last given y → Comes all at so_far (pos ∷ []) snapshot_part last given y
  made_comes s q n qs t waits room low le high there_s there_q taken_is t_at base w g =
      let h = prefix all s in
      let l = prefix all q in
      let k : ℕ = suc (position l) in
      let turn : Result ℕ Refusal → Turn Places = turn_of_refresh p c span min t in
      let looked : List ℕ = pos ∷ position h ∷ position l ∷ [] in
      let act_is : act_of_finish c t.at l ≡ makes (BuiltEvent c t.at) k = ap (finish_of c t.at l) waits ∙ ap (λ b. cond b (makes (BuiltEvent c t.at) k) (is_refused (refusal history_full l 0))) room in
      let said_is : looks_told (turn (Ok k)).said ≡ looked = ap (λ x. x ∷ t.at ∷ position l ∷ []) is ∙ ap (λ x. pos ∷ x ∷ position l ∷ []) t_at in
      let made : TellsLooks looked (ending_as turn (tries_at l (makes (BuiltEvent c t.at) k))) = tells_event looked (BuiltEvent c t.at) (ends (turn (Ok k))) _ (tells_all looked (turn (Ok k)) said_is) in
      let finish : TellsLooks looked (ending_as turn (tries_at l (act_of_finish c t.at l))) = subst (λ a. TellsLooks looked (ending_as turn (tries_at l a))) (sym act_is) made in
      let within : Within all looked = (w.0, (omega (arith, high, le, there_s), (omega (arith, high, there_q), tt))) in
      let third = finish all q so_far qs last given y (omega (arith, base, low, le)) within g in
      let second = looked_at all s q so_far (pos ∷ position h ∷ []) (λ x. true) (λ x. ending_as turn (tries_at x (act_of_finish c t.at x))) last given y le high refl there_q third in
      let snapshot : Comes all s so_far (pos ∷ position h ∷ []) (after_snapshot p c span min (snapshot_taken c h)) last given y =
      subst (λ x. Comes all s so_far (pos ∷ position h ∷ []) (after_snapshot p c span min x) last given y) (sym taken_is) second in
      looked_at all at s so_far (pos ∷ []) (λ x. true) (λ x. after_snapshot p c span min (snapshot_taken c x)) last given y low (omega (arith, le, high)) refl there_s snapshot

  ended_so : (a : Turn Places) (at_last : ℕ) (looks : List (Option ℕ)) → Gives all None at_last so_far (ends a) looks last given y → (last ≡ at_last) × (given ≡ so_far) × (y ≡ a)
  ended_so a at_last [] g = g
  ended_so a at_last (q ∷ qs) g = absurd g

  -- the outcome of a finish that was refused, after its snapshot
  module _ (s q : ℕ) (qs : List (Option ℕ)) (t : Taken) (low : at ≤ s) (le : s ≤ q) (high : q ≤ position all) (there_s : position (prefix all s) ≡ s) (there_q : position (prefix all q) ≡ q) (taken_is : snapshot_taken c (prefix all s) ≡ Ok t) (t_at : t.at ≡ position (prefix all s)) (base : base_position all ≤ at) (w : Within all (pos ∷ [])) (g : Gives all None q so_far (ending_as (turn_of_refresh p c span min t) (tries_at (prefix all q) (act_of_finish c t.at (prefix all q)))) qs last given y) where
    refused_so : (r : Refusal) → act_of_finish c t.at (prefix all q) ≡ is_refused r → (last ≡ q) × (given ≡ so_far) × (y ≡ cut_refused p c span min r t.reads)
    refused_so r act_is =
        let l = prefix all q in
        ended_so (cut_refused p c span min r t.reads) q qs (subst (λ a. Gives all None q so_far (ending_as (turn_of_refresh p c span min t) (tries_at l a)) qs last given y) act_is g)

    full_comes : (n : ℕ) → pending (prefix all q) c ≡ Waiting n → has_room (prefix all q) ≡ false → Comes all at so_far (pos ∷ []) snapshot_part last given y
    full_comes n waits full =
        let l = prefix all q in
        let r = refusal history_full l 0 in
        let act_is : act_of_finish c t.at l ≡ is_refused r = ap (finish_of c t.at l) waits ∙ ap (λ b. cond b (makes (BuiltEvent c t.at) (suc (position l))) (is_refused r)) full in
        let so = refused_so r act_is in
        refused_comes q t.reads (job_reads l c) r high there_q (looked (position l) history_full 0 refl) so.2
        (finish_again p c span min all at q so_far last given (omega (arith, low, le)) high (so.0, so.1) n waits full)

    gone_comes : (o : Pending) (r : Refusal) → pending (prefix all q) c ≡ o → finish_of c t.at (prefix all q) o ≡ is_refused r → taken_of (prefix all q) c o ≡ Err r → IsLooked (position (prefix all q)) r → Comes all at so_far (pos ∷ []) snapshot_part last given y
    gone_comes o r is_so refused not_taken l =
        let so = refused_so r (ap (finish_of c t.at (prefix all q)) is_so ∙ refused) in
        refused_comes q t.reads 0 r high there_q l so.2
        (snapshot_again p c span min all at q so_far last given (omega (arith, low, le)) high (so.0, so.1) o r is_so not_taken)

    waiting_comes : (n : ℕ) (room : Bool) → pending (prefix all q) c ≡ Waiting n → has_room (prefix all q) ≡ room → Comes all at so_far (pos ∷ []) snapshot_part last given y
    waiting_comes n true waits e = made_comes s q n qs t waits e low le high there_s there_q taken_is t_at base w g
    waiting_comes n false waits e = full_comes n waits e

    finish_comes : (o : Pending) → pending (prefix all q) c ≡ o → Comes all at so_far (pos ∷ []) snapshot_part last given y
    finish_comes (Waiting n) e = waiting_comes n (has_room (prefix all q)) e refl
    finish_comes (Finished f) e = gone_comes (Finished f) (refusal no_refresh (prefix all q) f) e refl refl (looked (position (prefix all q)) no_refresh f refl)
    finish_comes Unknown e = gone_comes Unknown (refusal no_refresh (prefix all q) 0) e refl refl (looked (position (prefix all q)) no_refresh 0 refl)

  -- the outcome of a snapshot that was taken at a position
  taken_comes : (s : ℕ) (ps : List (Option ℕ)) (t : Taken) → at ≤ s → position (prefix all s) ≡ s → snapshot_taken c (prefix all s) ≡ Ok t → t.at ≡ position (prefix all s) → base_position all ≤ at → Within all (pos ∷ []) → Gives all None s so_far (after_snapshot p c span min (Ok t)) ps last given y → Comes all at so_far (pos ∷ []) snapshot_part last given y
  taken_comes s [] t low there taken_is t_at base w g = absurd g
  taken_comes s (None ∷ qs) t low there taken_is t_at base w g = absurd (true≢false g.0)
  taken_comes s (Some q ∷ qs) t low there taken_is t_at base w g =
      let there_q = position_at all q (omega (arith, base, low, g.0)) g.1 in
      finish_comes s q qs t low g.0 g.1 there there_q taken_is t_at base w g.3 (pending (prefix all q) c) refl

-- the part of a refresh after its cut
module _ (p : Places) (c : ℕ) (span : Span) (min : ℤ) (pos : ℕ) (is : before c ≡ pos) where
  snapshot_refused : (h : History) (r : Refusal) → snapshot_taken c h ≡ Err r → IsLooked (position h) r → TellsLooks (pos ∷ position h ∷ []) (after_snapshot p c span min (snapshot_taken c h))
  snapshot_refused h r refused l =
      let t : Turn Places = cut_refused p c span min r 0 in
      subst (λ x. TellsLooks (pos ∷ position h ∷ []) (after_snapshot p c span min x)) (sym refused) (tells_end (pos ∷ position h ∷ []) (position h ∷ []) t (cut_told p c span min pos (position h) 0 r is l) (λ all w. w.1))

  snapshot_comes : (all : History) (at s : ℕ) (so_far : List (ℕ × Event)) (ps : List (Option ℕ)) (last : ℕ) (given : List (ℕ × Event)) (y : Turn Places) (o : Pending) → pending (prefix all s) c ≡ o → base_position all ≤ at → Within all (pos ∷ []) → at ≤ s → s ≤ position all → Gives all None s so_far (after_snapshot p c span min (snapshot_taken c (prefix all s))) ps last given y → Comes all at so_far (pos ∷ []) (looks (λ h. after_snapshot p c span min (snapshot_taken c h))) last given y
  snapshot_comes all at s so_far ps last given y (Waiting n) e base w low high g =
      let h = prefix all s in
      let t : Taken = record { at = position h; reads = job_reads h c } in
      let taken_is : snapshot_taken c h ≡ Ok t = ap (taken_of h c) e in
      let there = position_at all s (omega (arith, base, low)) high in
      taken_comes p c span min pos is all at so_far last given y s ps t low there taken_is refl base w (subst (λ x. Gives all None s so_far (after_snapshot p c span min x) ps last given y) taken_is g)
  snapshot_comes all at s so_far ps last given y (Finished f) e base w low high g =
      let h = prefix all s in
      let r = refusal no_refresh h f in
      looks_printed (pos ∷ []) (λ x. true) (λ x. after_snapshot p c span min (snapshot_taken c x)) all at s so_far ps last given y base w (snapshot_refused h r (ap (taken_of h c) e) (looked (position h) no_refresh f refl)) low high refl g
  snapshot_comes all at s so_far ps last given y Unknown e base w low high g =
      let h = prefix all s in
      let r = refusal no_refresh h 0 in
      looks_printed (pos ∷ []) (λ x. true) (λ x. after_snapshot p c span min (snapshot_taken c x)) all at s so_far ps last given y base w (snapshot_refused h r (ap (taken_of h c) e) (looked (position h) no_refresh 0 refl)) low high refl g

  tells_snapshot : TellsLooks (pos ∷ []) (looks (λ h. after_snapshot p c span min (snapshot_taken c h)))
  tells_snapshot all at so_far [] last given y low b g = absurd g
  tells_snapshot all at so_far (None ∷ ps) last given y low b g = absurd (true≢false g.0)
  tells_snapshot all at so_far (Some s ∷ ps) last given y low b g = snapshot_comes all at s so_far ps last given y (pending (prefix all s) c) refl low b g.0 g.1 g.3

tells_cut : (p : Places) (min : ℤ) (pos : ℕ) (done : CutDone) → of_cut done ≡ pos → TellsLooks (pos ∷ []) (after_cut p min (Ok done))
tells_cut p min pos (CutMade c span) is = tells_snapshot (cuts c p) c span min pos is
tells_cut p min pos (NothingDone q) is = tells_all (pos ∷ []) (turns p (said.Nothing q)) (ap (λ k. k ∷ []) is)

tells_refreshing : (p : Places) (n : ℕ) (lo hi : Option ℤ) (min : ℤ) (h : History) → TellsLooks (position h ∷ []) (followed_by (tries_at h (act_of_cut n lo hi h)) (after_cut p min))
tells_refreshing p n lo hi min h = tells_call of_cut (position h ∷ []) h (act_of_cut n lo hi h) (after_cut p min) (cut_finds n lo hi h) (λ r l. tells_fault h p r l) (λ done is. tells_cut p min (position h) done is)

tells_refresh : (p : Places) (n : ℕ) (lo hi : Option ℤ) (min : ℤ) → TellsLooks [] (refreshes p n lo hi min)
tells_refresh p n lo hi min = tells_look [] (λ h. followed_by (tries_at h (act_of_cut n lo hi h)) (after_cut p min)) (λ h. tells_refreshing p n lo hi min h)

tells_filled : (p : Places) (n : ℕ) (min : ℤ) (k : ℕ) (filled : Bool) (pos : ℕ) → before k ≡ pos → TellsLooks (pos ∷ []) (view_made p n min k filled)
tells_filled p n min k false pos is = tells_all (pos ∷ []) (turns p (said.View k)) (ap (λ x. x ∷ []) is)
tells_filled p n min k true pos is = subst (λ x. TellsLooks (x ∷ []) (view_made p n min k true)) is (tells_after k [] (refreshes p n None None min) (tells_refresh p n None None min))

-- ---- snapshots and finishes

tells_taken : (p : Places) (h : History) (c : ℕ) (o : Pending) → TellsLooks (position h ∷ []) (ends (snap_turn p c (taken_of h c o)))
tells_taken p h c (Waiting n) = tells_all (position h ∷ []) (snap_turn p c (taken_of h c (Waiting n))) refl
tells_taken p h c (Finished f) = tells_fault h p (refusal no_refresh h f) (looked (position h) no_refresh f refl)
tells_taken p h c Unknown = tells_fault h p (refusal no_refresh h 0) (looked (position h) no_refresh 0 refl)

tells_snaps : (p : Places) (h : History) (o : Option ℕ) → TellsLooks (position h ∷ []) (ends (snaps p h o))
tells_snaps p h None = tells_fault h p (refusal no_refresh h 0) (looked (position h) no_refresh 0 refl)
tells_snaps p h (Some c) = tells_taken p h c (pending h c)

unfinished_looked : (h : History) (o : Pending) → IsLooked (position h) (unfinished_refusal no_snapshot h o)
unfinished_looked h (Waiting n) = looked (position h) no_snapshot 0 refl
unfinished_looked h (Finished f) = looked (position h) no_refresh f refl
unfinished_looked h Unknown = looked (position h) no_refresh 0 refl

tells_held : (p : Places) (h : History) (c : ℕ) (o : Option ℕ) → TellsLooks (position h ∷ []) (finishes_held p h c o)
tells_held p h c None = tells_fault h p (unfinished_refusal no_snapshot h (pending h c)) (unfinished_looked h (pending h c))
tells_held p h c (Some at) = tells_said before h (act_of_finish c at h) p (finish_turn p c at) (finish_finds c at h) (λ r. refl) (λ k. refl)

tells_finishes : (p : Places) (h : History) (o : Option ℕ) → TellsLooks (position h ∷ []) (finishes p h o)
tells_finishes p h None = tells_fault h p (refusal no_refresh h 0) (looked (position h) no_refresh 0 refl)
tells_finishes p h (Some c) = tells_held p h c (held_for c p.held)

-- ---- statements

tells_commits : (p after : Places) (h : History) (ops : List Op) → TellsLooks (position h ∷ []) (commits p after h ops)
tells_commits p after h ops = tells_said of_commit h (act_of_commit ops h) p (turn_of_commit p after) (made_finds of_commit h (CommitEvent ops) (calls_committed ops h) refl) (λ r. refl) (λ done. refl)

tells_answer : (p : Places) (h : History) (plan : Plan) → TellsLooks (position h ∷ []) (ends (answers p h plan))
tells_answer p h plan = tells_all (position h ∷ []) (answers p h plan) refl

-- a query
abbrev Asks : Action → Type 0
Asks (actions.Ask q) = ⊤
Asks (actions.Calendar table number unit at fold) = ⊤
Asks other = ⊥

tells_query : (p : Places) (bytes : ℕ) (h : History) (a : Action) → Asks a → TellsLooks (position h ∷ []) (acts p bytes h a)
tells_query p bytes h (actions.Table def) asks = absurd asks
tells_query p bytes h (actions.Hyper t hyper) asks = absurd asks
tells_query p bytes h (actions.View def filled) asks = absurd asks
tells_query p bytes h (actions.Mode n only) asks = absurd asks
tells_query p bytes h (actions.Change op) asks = absurd asks
tells_query p bytes h (actions.Refresh n lo hi) asks = absurd asks
tells_query p bytes h (actions.Cut n lo hi) asks = absurd asks
tells_query p bytes h (actions.Snap cut) asks = absurd asks
tells_query p bytes h (actions.Finish cut) asks = absurd asks
tells_query p bytes h actions.Begin asks = absurd asks
tells_query p bytes h actions.BeginRead asks = absurd asks
tells_query p bytes h actions.Commit asks = absurd asks
tells_query p bytes h actions.Rollback asks = absurd asks
tells_query p bytes h (actions.Calendar table number unit at fold) asks = tells_answer p h (calendar_plan table (record { number = number; unit = unit_of unit; at = at; fold = fold }))
tells_query p bytes h (actions.Ask q) asks = tells_answer p h (plan_of (roster h) q)

-- a statement that resolves names at a printed read, if its action prints that position
tells_named : (h : History) (p : Places) (bytes : ℕ) (stmt : Stmt) → (refusal_of (position h) (roster h) stmt ≡ None → TellsLooks (position h ∷ []) (acts p bytes h (action_of (roster h) stmt))) → TellsLooks (position h ∷ []) (turn_of_names p bytes stmt h)
tells_named h p bytes stmt passed =
    named_holds (TellsLooks (position h ∷ [])) p bytes h stmt (λ r e. tells_fault h p r (rolled_looked (position h) (roster h) stmt r e)) (λ plan. tells_answer p h plan)
    (λ r e. tells_fault h p r (subst (Looked (position h)) e (checks_looked (position h) (roster h) stmt)))
    passed

-- ---- outside a block

-- an action that doesn't begin or end a block
abbrev Looks : Action → Type 0
Looks actions.Begin = ⊥
Looks actions.Commit = ⊥
Looks actions.Rollback = ⊥
Looks other = ⊤

tells_action : (h : History) (p : Places) (bytes : ℕ) (a : Action) → Looks a → TellsLooks (position h ∷ []) (acts (enters none p) bytes h a)
tells_action h p bytes (actions.Table def) l = let q = enters none p in tells_said before h (making_table def h) q (turn_of_line q said.Table) (new_finds h (is_taken (roster h) def.name) (length (roster h).tables) (TableMade def)) (λ r. refl) (λ k. refl)
tells_action h p bytes (actions.Hyper t hyper) l = let q = enters none p in tells_said before h (making_hyper t hyper h) q (turn_of_line q said.Hypertable) (hyper_finds t hyper h) (λ r. refl) (λ k. refl)
tells_action h p bytes (actions.View def filled) l =
    let q = enters none p in
    let n = length (roster h).views in
    tells_call before (position h ∷ []) h (making_view def h) (after_view q n def filled) (new_finds h (is_taken (roster h) def.name) n (ViewMade def)) (λ r l. tells_fault h q r l) (λ k is. tells_filled q n (first_of def.fold.width) k filled (position h) is)
tells_action h p bytes (actions.Mode n only) l = let q = enters none p in tells_said before h (setting_mode n only h) q (turn_of_line q said.Mode) (made_finds before h (ModeEvent n only) (suc (position h)) refl) (λ r. refl) (λ k. refl)
tells_action h p bytes (actions.Change op) l = let q = enters none p in tells_commits q q h (op ∷ [])
tells_action h p bytes (actions.Refresh n lo hi) l = tells_refreshing (enters none p) n lo hi (least_start (view_of (roster h) n)) h
tells_action h p bytes (actions.Cut n lo hi) l = let q = enters none p in tells_said of_cut h (act_of_cut n lo hi h) q (cut_turn q (least_start (view_of (roster h) n))) (cut_finds n lo hi h) (λ r. refl) (cut_said q (least_start (view_of (roster h) n)))
  where
    cut_said : (q : Places) (min : ℤ) (done : CutDone) → looks_told (cut_turn q min (Ok done)).said ≡ of_cut done ∷ []
    cut_said q min (CutMade c span) = refl
    cut_said q min (NothingDone at) = refl
tells_action h p bytes (actions.Snap cut) l = let q = enters none p in tells_snaps q h (refresh_meant q cut)
tells_action h p bytes (actions.Finish cut) l = let q = enters none p in tells_finishes q h (refresh_meant q cut)
tells_action h p bytes actions.Begin l = absurd l
tells_action h p bytes actions.BeginRead l = let q = enters none p in tells_all (position h ∷ []) (turns (enters (reading (position h)) q) (said.BeginRead (position h))) refl
tells_action h p bytes actions.Commit l = absurd l
tells_action h p bytes actions.Rollback l = absurd l
tells_action h p bytes (actions.Calendar table number unit at fold) l = tells_query (enters none p) bytes h (actions.Calendar table number unit at fold) tt
tells_action h p bytes (actions.Ask q) l = tells_query (enters none p) bytes h (actions.Ask q) tt

looks_outside : (r : Roster) (stmt : Stmt) → refusal_outside (kind_of stmt) ≡ None → prints none (kind_of stmt) r None ≡ true → Looks (action_of r stmt)
looks_outside r (stmts.Table name cols) pass look = tt
looks_outside r (stmts.Hyper table col interval) pass look = tt
looks_outside r (stmts.View name only filled fold) pass look = tt
looks_outside r (stmts.Mode view only) pass look = tt
looks_outside r (stmts.Insert table cols rows) pass look = tt
looks_outside r (stmts.Delete table tests) pass look = tt
looks_outside r (stmts.Drop table below) pass look = tt
looks_outside r (stmts.Refresh view lo hi) pass look = tt
looks_outside r (stmts.Cut view lo hi) pass look = tt
looks_outside r (stmts.Snap cut) pass look = tt
looks_outside r (stmts.Finish cut) pass look = tt
looks_outside r stmts.Begin pass look = absurd (true≢false (sym look))
looks_outside r stmts.BeginRead pass look = tt
looks_outside r stmts.Commit pass look = refused_here _ pass
looks_outside r stmts.Rollback pass look = refused_here _ pass
looks_outside r (stmts.Buckets fold) pass look = tt
looks_outside r (stmts.Calendar number unit fold) pass look = tt
looks_outside r (stmts.Rows table tests) pass look = tt

tells_outside : (p : Places) (bytes : ℕ) (stmt : Stmt) → refusal_outside (kind_of stmt) ≡ None → TellsLooks [] (named_here (enters none p) bytes stmt)
tells_outside p bytes stmt pass =
    let q = enters none p in
    tells_first (λ h. prints none (kind_of stmt) (roster h) (refusal_of (position h) (roster h) stmt)) (λ h. turn_of_names q bytes stmt h)
    (λ h look. tells_named h q bytes stmt (λ e. tells_action h p bytes (action_of (roster h) stmt) (looks_outside (roster h) stmt pass look)))
    (λ h hidden. inl (subst (λ s. EndsSo (λ y. looks_told y.said ≡ []) (turn_of_names q bytes s h)) (sym (only_begins stmt (not-false (begins (kind_of stmt)) hidden))) refl))

-- ---- in a write block

-- a statement that is queued: only its refusal is printed
tells_queue : (p : Places) (bytes : ℕ) (stmt : Stmt) (ops : List Op) (n : ℕ) (op : Roster → Op) → kind_of stmt ≡ kinds.Changes → ((r : Roster) → action_of r stmt ≡ actions.Change (op r)) → TellsLooks [] (named_here (enters (writing ops n) p) bytes stmt)
tells_queue p bytes stmt ops n op kind is =
    let q = enters (writing ops n) p in
    let refused : History → Option Refusal = λ h. refusal_of (position h) (roster h) stmt in
    let shown_is : (h : History) → prints_writing ops (kind_of stmt) (roster h) (refused h) ≡ is_some (refused h) = λ h. ap (λ k. prints_writing ops k (roster h) (refused h)) kind in
    tells_first (λ h. prints_writing ops (kind_of stmt) (roster h) (refused h)) (λ h. turn_of_names q bytes stmt h)
    (λ h look. tells_named h q bytes stmt (λ e. absurd (true≢false (sym look ∙ shown_is h ∙ ap is_some e))))
    (λ h hidden.
    let passes = none_there (refused h) (sym (shown_is h) ∙ hidden) in
    let y : Turn Places = turns (enters (writing (ops ++ op (roster h) ∷ []) (n + bytes)) q) said.Queued in
    let here : turn_of_names q bytes stmt h ≡ ends y = event_named q bytes h stmt (ap makes_event kind) ∙ ap (λ o. unless q o (acts q bytes h (action_of (roster h) stmt))) passes ∙ ap (acts q bytes h) (is (roster h)) in
    inl (subst (EndsSo (λ x. looks_told x.said ≡ [])) (sym here) refl))

-- operations that aren't on hypertables yet weren't on hypertables before
missing_before : (g h : History) (ops : List Op) → Begins g h → on_hypertables (roster h) ops ≡ false → on_hypertables (roster g) ops ≡ false
missing_before g h ops on missing =
    elim (on_hypertables (roster g) ops) as (λ b. on_hypertables (roster g) ops ≡ b → b ≡ false) [
      | true ↦ λ e. absurd (true≢false (sym (on_hypertables_stay g h ops on e) ∙ missing))
      | false ↦ λ e. refl
    ] refl

-- the reply prints positions of a history only
abbrev TellsWithin : History → Turn Places → Type 0
TellsWithin all y = Within all (looks_told y.said)

-- a statement that ends where its names are resolved, at a position of a history
ended_within : (all h : History) (q : Places) (bytes : ℕ) (stmt : Stmt) → position h ≤ position all → (refusal_of (position h) (roster h) stmt ≡ None → EndsSo (TellsWithin all) (acts q bytes h (action_of (roster h) stmt))) → EndsSo (TellsWithin all) (turn_of_names q bytes stmt h)
ended_within all h q bytes stmt low acted =
    let fault : (r : Refusal) → IsLooked (position h) r → Within all (refusal_told r []) = λ r l. subst (Within all) (sym (fault_told (position h) r l)) (low, (low, tt)) in
    named_holds (EndsSo (TellsWithin all)) q bytes h stmt (λ r e. fault r (rolled_looked (position h) (roster h) stmt r e)) (λ plan. (low, tt))
    (λ r e. fault r (subst (Looked (position h)) e (checks_looked (position h) (roster h) stmt))) acted

ended_query : (all : History) (p : Places) (bytes : ℕ) (h : History) (a : Action) → position h ≤ position all → Asks a → EndsSo (TellsWithin all) (acts p bytes h a)
ended_query all p bytes h (actions.Calendar table number unit at fold) low asks = (low, tt)
ended_query all p bytes h (actions.Ask q) low asks = (low, tt)
ended_query all p bytes h other low asks = absurd asks

-- a query
tells_asked : (p : Places) (bytes : ℕ) (stmt : Stmt) (ops : List Op) (n : ℕ) → kind_of stmt ≡ kinds.Asks → ((r : Roster) → Asks (action_of r stmt)) → TellsLooks [] (named_here (enters (writing ops n) p) bytes stmt)
tells_asked p bytes stmt ops n kind asks =
    let q = enters (writing ops n) p in
    let refused : History → Option Refusal = λ h. refusal_of (position h) (roster h) stmt in
    let shown : History → Bool = λ h. prints_writing ops (kind_of stmt) (roster h) (refused h) in
    let shown_is : (h : History) → shown h ≡ on_hypertables (roster h) ops = λ h. ap (λ k. prints_writing ops k (roster h) (refused h)) kind in
    tells_first shown (λ h. turn_of_names q bytes stmt h)
    (λ h look. tells_named h q bytes stmt (λ e. tells_query q bytes h (action_of (roster h) stmt) (asks (roster h))))
    (λ h hidden. inr (
      λ g on. shown_is g ∙ missing_before g h ops on (sym (shown_is h) ∙ hidden),
      ended_within h h q bytes stmt (omega arith) (λ e. ended_query h q bytes h (action_of (roster h) stmt) (omega arith) (asks (roster h))),
    ))

-- the end of the block
tells_commit : (p : Places) (bytes : ℕ) (ops : List Op) (n : ℕ) → TellsLooks [] (named_here (enters (writing ops n) p) bytes stmts.Commit)
tells_commit p bytes [] n =
    let q = enters (writing [] n) p in
    tells_first (λ h. false) (λ h. turn_of_names q bytes stmts.Commit h) (λ h look. absurd (true≢false (sym look))) (λ h hidden. inl refl)
tells_commit p bytes (op ∷ ops) n =
    let q = enters (writing (op ∷ ops) n) p in
    tells_first (λ h. true) (λ h. turn_of_names q bytes stmts.Commit h) (λ h look. tells_commits q (enters none q) h (op ∷ ops)) (λ h hidden. absurd (true≢false hidden))

tells_writing : (p : Places) (bytes : ℕ) (stmt : Stmt) (ops : List Op) (n : ℕ) → block_refusal (writing ops n) (kind_of stmt) ≡ None → TellsLooks [] (named_here (enters (writing ops n) p) bytes stmt)
tells_writing p bytes (stmts.Table name cols) ops n e = refused_here _ e
tells_writing p bytes (stmts.Hyper table col interval) ops n e = refused_here _ e
tells_writing p bytes (stmts.View name only filled fold) ops n e = refused_here _ e
tells_writing p bytes (stmts.Mode view only) ops n e = refused_here _ e
tells_writing p bytes (stmts.Insert table cols rows) ops n e = tells_queue p bytes (stmts.Insert table cols rows) ops n _ refl (λ r. refl)
tells_writing p bytes (stmts.Delete table tests) ops n e = tells_queue p bytes (stmts.Delete table tests) ops n _ refl (λ r. refl)
tells_writing p bytes (stmts.Drop table below) ops n e = tells_queue p bytes (stmts.Drop table below) ops n _ refl (λ r. refl)
tells_writing p bytes (stmts.Refresh view lo hi) ops n e = refused_here _ e
tells_writing p bytes (stmts.Cut view lo hi) ops n e = refused_here _ e
tells_writing p bytes (stmts.Snap number) ops n e = refused_here _ e
tells_writing p bytes (stmts.Finish number) ops n e = refused_here _ e
tells_writing p bytes stmts.Begin ops n e = refused_here _ e
tells_writing p bytes stmts.BeginRead ops n e = refused_here _ e
tells_writing p bytes stmts.Commit ops n e = tells_commit p bytes ops n
tells_writing p bytes stmts.Rollback ops n e =
    let q = enters (writing ops n) p in
    tells_first (λ h. prints_writing ops kinds.RollsBack (roster h) None) (λ h. turn_of_names q bytes stmts.Rollback h) (λ h look. absurd (true≢false (sym look ∙ no_rollback ops (roster h)))) (λ h hidden. inl refl)
  where
    no_rollback : (ops : List Op) (r : Roster) → prints_writing ops kinds.RollsBack r None ≡ false
    no_rollback [] r = refl
    no_rollback (op ∷ ops) r = refl
tells_writing p bytes (stmts.Buckets fold) ops n e = tells_asked p bytes (stmts.Buckets fold) ops n refl (λ r. tt)
tells_writing p bytes (stmts.Calendar number unit fold) ops n e = tells_asked p bytes (stmts.Calendar number unit fold) ops n refl (λ r. tt)
tells_writing p bytes (stmts.Rows table tests) ops n e = tells_asked p bytes (stmts.Rows table tests) ops n refl (λ r. tt)

-- ---- in a read block

-- the reply prints the position of the block only, and no read is printed
tells_read : (p : Places) (bytes : ℕ) (stmt : Stmt) (at : ℕ) → let q = enters (reading at) p in ((all h : History) → position h ≤ position all → EndsSo (TellsWithin all) (acts q bytes h (action_of (roster h) stmt))) → TellsLooks [] (named_here q bytes stmt)
tells_read p bytes stmt at acted =
    let q = enters (reading at) p in
    tells_first (λ h. false) (λ h. turn_of_names q bytes stmt (prefix h at)) (λ h look. absurd (true≢false (sym look))) (λ all hidden.
    let h = prefix all at in
    let low : position h ≤ position all = position_begins (begins_prefix all at) in
    inr (λ g on. refl, ended_within all h q bytes stmt low (λ e. acted all h low)))

tells_reading : (p : Places) (bytes : ℕ) (stmt : Stmt) (at : ℕ) → block_refusal (reading at) (kind_of stmt) ≡ None → TellsLooks [] (named_here (enters (reading at) p) bytes stmt)
tells_reading p bytes (stmts.Table name cols) at e = refused_here _ e
tells_reading p bytes (stmts.Hyper table col interval) at e = refused_here _ e
tells_reading p bytes (stmts.View name only filled fold) at e = refused_here _ e
tells_reading p bytes (stmts.Mode view only) at e = refused_here _ e
tells_reading p bytes (stmts.Insert table cols rows) at e = refused_here _ e
tells_reading p bytes (stmts.Delete table tests) at e = refused_here _ e
tells_reading p bytes (stmts.Drop table below) at e = refused_here _ e
tells_reading p bytes (stmts.Refresh view lo hi) at e = refused_here _ e
tells_reading p bytes (stmts.Cut view lo hi) at e = refused_here _ e
tells_reading p bytes (stmts.Snap number) at e = refused_here _ e
tells_reading p bytes (stmts.Finish number) at e = refused_here _ e
tells_reading p bytes stmts.Begin at e = refused_here _ e
tells_reading p bytes stmts.BeginRead at e = refused_here _ e
tells_reading p bytes stmts.Commit at e = tells_read p bytes stmts.Commit at (λ all h le. tt)
tells_reading p bytes stmts.Rollback at e = tells_read p bytes stmts.Rollback at (λ all h le. tt)
tells_reading p bytes (stmts.Buckets fold) at e = tells_read p bytes (stmts.Buckets fold) at (λ all h le. (le, tt))
tells_reading p bytes (stmts.Calendar number unit fold) at e = tells_read p bytes (stmts.Calendar number unit fold) at (λ all h le. (le, tt))
tells_reading p bytes (stmts.Rows table tests) at e = tells_read p bytes (stmts.Rows table tests) at (λ all h le. (le, tt))

-- ---- lines

-- a refusal, if there is one, has no position
abbrev Bare : Option Refusal → Type 0
Bare None = ⊤
Bare (Some r) = shows_position r.code ≡ false

block_bare : (b : Block) (kind : StatementKind) → Bare (block_refusal b kind)
block_bare none kinds.Defines = tt
block_bare none kinds.Changes = tt
block_bare none kinds.Asks = tt
block_bare none kinds.Snaps = tt
block_bare none kinds.Finishes = tt
block_bare none kinds.Begins = tt
block_bare none kinds.BeginsRead = tt
block_bare none kinds.Commits = refl
block_bare none kinds.RollsBack = refl
block_bare (writing ops n) kinds.Defines = refl
block_bare (writing ops n) kinds.Changes = tt
block_bare (writing ops n) kinds.Asks = tt
block_bare (writing ops n) kinds.Snaps = refl
block_bare (writing ops n) kinds.Finishes = refl
block_bare (writing ops n) kinds.Begins = refl
block_bare (writing ops n) kinds.BeginsRead = refl
block_bare (writing ops n) kinds.Commits = tt
block_bare (writing ops n) kinds.RollsBack = tt
block_bare (reading at) kinds.Defines = refl
block_bare (reading at) kinds.Changes = refl
block_bare (reading at) kinds.Asks = tt
block_bare (reading at) kinds.Snaps = refl
block_bare (reading at) kinds.Finishes = refl
block_bare (reading at) kinds.Begins = refl
block_bare (reading at) kinds.BeginsRead = refl
block_bare (reading at) kinds.Commits = tt
block_bare (reading at) kinds.RollsBack = tt

misread_bare : (f : Fault) → shows_position (misread f).code ≡ false
misread_bare (faults.NoToken place) = refl
misread_bare (faults.Syntax place) = refl
misread_bare (faults.BadNumber place) = refl

tells_block : (p : Places) (bytes : ℕ) (stmt : Stmt) (b : Block) → block_refusal b (kind_of stmt) ≡ None → TellsLooks [] (named_here (enters b p) bytes stmt)
tells_block p bytes stmt none e = tells_outside p bytes stmt e
tells_block p bytes stmt (writing ops n) e = tells_writing p bytes stmt ops n e
tells_block p bytes stmt (reading at) e = tells_reading p bytes stmt at e

tells_statement : (p : Places) (bytes : ℕ) (stmt : Stmt) → TellsLooks [] (replies p bytes stmt)
tells_statement p bytes stmt =
    unless_holds (TellsLooks []) p (block_refusal p.block (kind_of stmt)) (named_here p bytes stmt) (λ r e. tells_bare p r (subst Bare e (block_bare p.block (kind_of stmt))))
    (λ e. subst (λ q. TellsLooks [] (named_here q bytes stmt)) (sym (block_is p p.block refl)) (tells_block p bytes stmt p.block e))

tells_reply : (p : Places) (text : List ℕ) (skip : ℕ) → TellsLooks [] (reply_to p text skip)
tells_reply p text skip =
    read_holds (TellsLooks []) p (replies p (length text)) (statement (stream text skip)) (λ f. tells_bare p (misread f) (misread_bare f)) (tells_statement p (length text))

pub replies_tell : RepliesTellTheirLooks reply_to
replies_tell all at p text skip ps last given y low g =
    let c = tells_reply p text skip all at [] ps last given y low tt g in
    let procedure = reply_to p text skip in
    record {
      end = c.end;
      said = c.said;
      places = c.places;
      within = subst (Within all) (sym c.told) c.within;
      tells = subst (λ told. Tells all at [] procedure told (telling last given c.end)) (sym c.told) c.tells;
    }
