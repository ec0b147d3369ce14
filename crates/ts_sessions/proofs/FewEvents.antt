-- A line of a session appends at most three events.
use Rattle.std.proofs.Common.{◌≡◌, ℕ, zero, suc, ◌+◌, ◌≤◌, Bool, true, false, List, [], ◌∷◌, length, Option, Some, None, inl, inr, refl, ap, ◌∙◌, subst, arith}
use Rattle.std.specs.Prelude.{Result, Ok, Err, ℤ}
use Rattle.std.proofs.lemmas.List.{length-append}
use Rattle.ts_bucket.specs.Bucket.{first_of}
use Rattle.ts_bucket.specs.declared.spans.Span.{Span}
use Rattle.ts_model.specs.declared.events.Op.{Op}
use Rattle.ts_model.specs.declared.outcomes.CutDone.{CutDone}
use Rattle.ts_model.specs.declared.outcomes.CutDone.TheVariants.{Cut as CutMade, Nothing as NothingDone}
use Rattle.ts_model.specs.declared.outcomes.Refusal.{Refusal}
use Rattle.ts_model.specs.declared.views.ViewDef.{ViewDef}
use Rattle.ts_model.specs.Calls.{Act, refuses as refuses_call, returns, makes, act_of_commit, act_of_cut, act_of_finish, making_hyper, making_table, making_view, setting_mode}
use Rattle.ts_model.specs.History.{History, position}
use Rattle.ts_model.specs.Roster.{roster, view_of}
use Rattle.ts_model.specs.States.{State}
use Rattle.stmt_reader.specs.declared.faults.Fault.{Fault}
use Rattle.stmt_syntax.specs.declared.statements.Stmt.{Stmt}
use Rattle.stmt_syntax.specs.declared.statements.Stmt.TheVariants as stmts
use Rattle.stmt_reader.specs.Reading.{statement}
use Rattle.stmt_tokens.specs.Streams.{Stream, stream}
use Rattle.stmt_check.specs.declared.actions.Action.{Action}
use Rattle.stmt_check.specs.declared.actions.Action.TheVariants as actions
use Rattle.stmt_check.specs.Check.{action_of, refusal_of}
use Rattle.result_text.specs.declared.replies.Said.TheVariants as said
use Rattle.ts_sessions.specs.LineLaws.{AtMost, LinesMakeFewEvents, OnlyCommitsMakeEvents}
use Rattle.ts_sessions.specs.Made.{made_in}
use Rattle.ts_sessions.specs.Places.{Block, none, writing, reading, Places, Turn, enters, held_for}
use Rattle.ts_sessions.specs.Procedures.{Procedure, sees, adds, ends, followed_by, ending_as, tries_at, looks}
use Rattle.ts_sessions.specs.Step.{Taken, acts, after_cut, after_line, after_snapshot, after_view, block_refusal, changes, closes, commits, turn_of_commit, cut_turn, finish_turn, finishes, finishes_held, kind_of, least_start, turn_of_names, named_first, named_here, read_at, refresh_meant, turn_of_refresh, refreshes, turn_of_line, step, snapshot_taken, view_made, as_read, passes_block, performs}
use Rattle.ts_sessions.specs.Steady.{IsEnded}
use Rattle.ts_sessions.specs.Walks.{Walks, Sees}
use Rattle.ts_sessions.proofs.MadeLaws.{step_made}
use Rattle.ts_sessions.proofs.NamedLaws.{named_holds, performs_holds, read_holds, unless_holds}
use Rattle.ts_sessions.proofs.SteadyLaws.{ended_named}

-- ---- the events appended

seen_made : (alone : Bool) (old mid : State) → Sees alone old mid → mid.made ≡ old.made
seen_made alone old mid (inl e) = ap (λ s. s.made) e
seen_made alone old mid (inr f) = f.made

walk_made : {A : Type 0} (n : ℕ) (alone failed : Bool) (old : State) (procedure : Procedure A) (new : State) (y : A) → AtMost n procedure → Walks alone failed old procedure new y → length new.made ≤ length old.made + n
walk_made n alone failed old (sees shown f) new y t w =
    subst (λ ks. length new.made ≤ length ks + n) (seen_made alone old w.mid w.first) (walk_made n alone failed w.mid (f w.mid.history) new y (t w.mid.history) w.rest)
walk_made zero alone failed old (adds e next stop) new y t w = absurd t
walk_made (suc n) alone failed old (adds e next stop) new y t (inl w) =
    let up = walk_made n alone failed old stop new y t.1 w.1 in omega (arith, up)
walk_made (suc n) alone failed old (adds e next stop) new y t (inr (inl w)) =
    let more : length w.mid.made ≡ length old.made + 1 = ap length w.first.made ∙ length-append old.made (suc (position old.history) ∷ []) in
    let up = walk_made n alone failed w.mid next new y t.0 w.rest in
    omega (arith, more, up)
walk_made (suc n) alone failed old (adds e next stop) new y t (inr (inr w)) =
    let same : length w.1.mid.made ≡ length old.made = ap length w.1.first.made in
    let up = walk_made n alone false w.1.mid stop new y t.1 w.1.rest in
    omega (arith, same, up)
walk_made n alone failed old (ends a) new y t w =
    let same : length new.made ≡ length old.made = ap (λ s. length s.made) w.1 in omega (arith, same)

-- ---- procedures

more : {A : Type 0} (n : ℕ) (procedure : Procedure A) → AtMost n procedure → AtMost (suc n) procedure
more n (sees shown f) t = λ h. more n (f h) (t h)
more zero (adds e next stop) t = absurd t
more (suc n) (adds e next stop) t = (more n next t.0, more n stop t.1)
more n (ends a) t = tt

most_call : {A B : Type 0} (n : ℕ) (h : History) (act : Act A) (k : Result A Refusal → Procedure B) → ((r : Result A Refusal) → AtMost n (k r)) → AtMost (suc n) (followed_by (tries_at h act) k)
most_call n h (refuses_call r) k t = more n (k (Err r)) (t (Err r))
most_call n h (returns a) k t = more n (k (Ok a)) (t (Ok a))
most_call n h (makes e a) k t = (t (Ok a), t (Err _))

most_as : {A B : Type 0} (n : ℕ) (g : A → B) (procedure : Procedure A) → AtMost n procedure → AtMost n (ending_as g procedure)
most_as n g (sees shown f) t = λ h. most_as n g (f h) (t h)
most_as zero g (adds e next stop) t = absurd t
most_as (suc n) g (adds e next stop) t = (most_as n g next t.0, most_as n g stop t.1)
most_as n g (ends a) t = tt

one : {A : Type 0} (h : History) (act : Act A) (g : Result A Refusal → Turn Places) → AtMost 1 (ending_as g (tries_at h act))
one h act g = most_call 0 h act (λ r. ends (g r)) (λ r. tt)

to_three : {A : Type 0} (procedure : Procedure A) → AtMost 1 procedure → AtMost 3 procedure
to_three procedure t = more 2 procedure (more 1 procedure t)

-- ---- refreshes

few_snapshot : (p : Places) (c : ℕ) (span : Span) (min : ℤ) (t : Result Taken Refusal) → AtMost 1 (after_snapshot p c span min t)
few_snapshot p c span min (Ok t) = λ h. one h (act_of_finish c t.at h) (turn_of_refresh p c span min t)
few_snapshot p c span min (Err r) = tt

few_cut : (p : Places) (min : ℤ) (r : Result CutDone Refusal) → AtMost 1 (after_cut p min r)
few_cut p min (Ok (CutMade c span)) = λ h. few_snapshot _ c span min (snapshot_taken c h)
few_cut p min (Ok (NothingDone at)) = tt
few_cut p min (Err r) = tt

few_refresh : (p : Places) (n : ℕ) (lo hi : Option ℤ) (min : ℤ) (h : History) → AtMost 2 (followed_by (tries_at h (act_of_cut n lo hi h)) (after_cut p min))
few_refresh p n lo hi min h = most_call 1 h (act_of_cut n lo hi h) (after_cut p min) (few_cut p min)

few_filled : (p : Places) (n : ℕ) (min : ℤ) (k : ℕ) (filled : Bool) → AtMost 2 (view_made p n min k filled)
few_filled p n min k false = tt
few_filled p n min k true = most_as 2 (after_line (said.View k)) (refreshes p n None None min) (few_refresh p n None None min)

few_view : (p : Places) (n : ℕ) (def : ViewDef) (filled : Bool) (r : Result ℕ Refusal) → AtMost 2 (after_view p n def filled r)
few_view p n def filled (Ok k) = few_filled p n (first_of def.fold.width) k filled
few_view p n def filled (Err r) = tt

-- ---- actions

few_commits : (p after : Places) (h : History) (ops : List Op) → AtMost 3 (commits p after h ops)
few_commits p after h ops = to_three (commits p after h ops) (one h (act_of_commit ops h) (turn_of_commit p after))

few_changes : (p : Places) (bytes : ℕ) (h : History) (op : Op) (b : Block) → AtMost 3 (changes p bytes h op b)
few_changes p bytes h op none = few_commits p p h (op ∷ [])
few_changes p bytes h op (writing ops n) = tt
few_changes p bytes h op (reading at) = few_commits p p h (op ∷ [])

few_closes : (p : Places) (h : History) (b : Block) → AtMost 3 (closes p h b)
few_closes p h none = tt
few_closes p h (writing [] n) = tt
few_closes p h (writing (op ∷ ops) n) = few_commits p (enters none p) h (op ∷ ops)
few_closes p h (reading at) = tt

few_held : (p : Places) (h : History) (c : ℕ) (o : Option ℕ) → AtMost 3 (finishes_held p h c o)
few_held p h c None = tt
few_held p h c (Some at) = to_three (finishes_held p h c (Some at)) (one h (act_of_finish c at h) (finish_turn p c at))

few_finishes : (p : Places) (h : History) (o : Option ℕ) → AtMost 3 (finishes p h o)
few_finishes p h None = tt
few_finishes p h (Some c) = few_held p h c (held_for c p.held)

few_acts : (p : Places) (bytes : ℕ) (h : History) (a : Action) → AtMost 3 (acts p bytes h a)
few_acts p bytes h (actions.Table def) = to_three (acts p bytes h (actions.Table def)) (one h (making_table def h) (turn_of_line p said.Table))
few_acts p bytes h (actions.Hyper t hyper) = to_three (acts p bytes h (actions.Hyper t hyper)) (one h (making_hyper t hyper h) (turn_of_line p said.Hypertable))
few_acts p bytes h (actions.View def filled) = let n = length (roster h).views in most_call 2 h (making_view def h) (after_view p n def filled) (few_view p n def filled)
few_acts p bytes h (actions.Mode n only) = to_three (acts p bytes h (actions.Mode n only)) (one h (setting_mode n only h) (turn_of_line p said.Mode))
few_acts p bytes h (actions.Change op) = few_changes p bytes h op p.block
few_acts p bytes h (actions.Refresh n lo hi) = more 2 (acts p bytes h (actions.Refresh n lo hi)) (few_refresh p n lo hi (least_start (view_of (roster h) n)) h)
few_acts p bytes h (actions.Cut n lo hi) = to_three (acts p bytes h (actions.Cut n lo hi)) (one h (act_of_cut n lo hi h) (cut_turn p (least_start (view_of (roster h) n))))
few_acts p bytes h (actions.Snap cut) = tt
few_acts p bytes h (actions.Finish cut) = few_finishes p h (refresh_meant p cut)
few_acts p bytes h actions.Begin = tt
few_acts p bytes h actions.BeginRead = tt
few_acts p bytes h actions.Commit = few_closes p h p.block
few_acts p bytes h actions.Rollback = tt
few_acts p bytes h (actions.Calendar table number unit at fold) = tt
few_acts p bytes h (actions.Ask q) = tt

-- ---- statements

few_here : (p : Places) (bytes : ℕ) (stmt : Stmt) → AtMost 3 (named_here p bytes stmt)
few_here p bytes stmt = λ h. let at = read_at p.block h in named_holds (AtMost 3) p bytes at stmt (λ r e. tt) (λ plan. tt) (λ r e. tt) (λ e. few_acts p bytes at (action_of (roster at) stmt))

few_first : (p : Places) (bytes : ℕ) (stmt : Stmt) → AtMost 3 (named_first p bytes stmt)
few_first p bytes stmt = λ g. unless_holds (AtMost 3) p (refusal_of (position g) (roster g) stmt) (looks (λ h. acts p bytes h (action_of (roster g) stmt))) (λ r e. tt) (λ e h. few_acts p bytes h (action_of (roster g) stmt))

few_statement : (p : Places) (bytes : ℕ) (stmt : Stmt) → AtMost 3 (passes_block p bytes stmt)
few_statement p bytes stmt =
    unless_holds (AtMost 3) p (block_refusal p.block (kind_of stmt)) (performs p bytes stmt) (λ r e. tt)
    (λ e. performs_holds (AtMost 3) p bytes stmt (λ twice. few_first p bytes stmt) (λ once. few_here p bytes stmt))

few_read : (p : Places) (bytes : ℕ) (r : Result (Stmt × Stream) Fault) → AtMost 3 (as_read p (passes_block p bytes) r)
few_read p bytes r = read_holds (AtMost 3) p (passes_block p bytes) r (λ f. tt) (few_statement p bytes)

pub lines_make_few_events : LinesMakeFewEvents
lines_make_few_events alone failed old p text skip new y w =
    let bound = walk_made 3 alone failed old (step p text skip) new y (few_read p (length text) (statement (stream text skip))) w in
    let both : length new.made ≡ length old.made + length (made_in y.said) = ap length (step_made alone failed old p text skip new y w) ∙ length-append old.made (made_in y.said) in
    omega (arith, bound, both)

-- ---- in a write block

ended_few : {A : Type 0} (procedure : Procedure A) → IsEnded procedure → AtMost 0 procedure
ended_few (sees shown f) i = absurd i
ended_few (adds e next stop) i = absurd i
ended_few (ends a) i = tt

-- a statement that queues an operation, gives up its block, or asks a query has no event
ended_here : (p : Places) (ops : List Op) (n bytes : ℕ) (stmt : Stmt) → ((h : History) → IsEnded (acts (enters (writing ops n) p) bytes h (action_of (roster h) stmt))) → AtMost 0 (named_here (enters (writing ops n) p) bytes stmt)
ended_here p ops n bytes stmt i = λ h. let q = enters (writing ops n) p in ended_few (turn_of_names q bytes stmt h) (ended_named q bytes stmt h (i h))

pub only_commits_make_events : OnlyCommitsMakeEvents
only_commits_make_events p ops n bytes (stmts.Table name cols) c = tt
only_commits_make_events p ops n bytes (stmts.Hyper table col interval) c = tt
only_commits_make_events p ops n bytes (stmts.View name only filled fold) c = tt
only_commits_make_events p ops n bytes (stmts.Mode view only) c = tt
only_commits_make_events p ops n bytes (stmts.Insert table cols rows) c = ended_here p ops n bytes (stmts.Insert table cols rows) (λ h. tt)
only_commits_make_events p ops n bytes (stmts.Delete table tests) c = ended_here p ops n bytes (stmts.Delete table tests) (λ h. tt)
only_commits_make_events p ops n bytes (stmts.Drop table below) c = ended_here p ops n bytes (stmts.Drop table below) (λ h. tt)
only_commits_make_events p ops n bytes (stmts.Refresh view lo hi) c = tt
only_commits_make_events p ops n bytes (stmts.Cut view lo hi) c = tt
only_commits_make_events p ops n bytes (stmts.Snap number) c = tt
only_commits_make_events p ops n bytes (stmts.Finish number) c = tt
only_commits_make_events p ops n bytes stmts.Begin c = tt
only_commits_make_events p ops n bytes stmts.BeginRead c = tt
only_commits_make_events p ops n bytes stmts.Commit c = absurd (c refl)
only_commits_make_events p ops n bytes stmts.Rollback c = ended_here p ops n bytes stmts.Rollback (λ h. tt)
only_commits_make_events p ops n bytes (stmts.Buckets fold) c = ended_here p ops n bytes (stmts.Buckets fold) (λ h. tt)
only_commits_make_events p ops n bytes (stmts.Calendar number unit fold) c = ended_here p ops n bytes (stmts.Calendar number unit fold) (λ h. tt)
only_commits_make_events p ops n bytes (stmts.Rows table tests) c = ended_here p ops n bytes (stmts.Rows table tests) (λ h. tt)
