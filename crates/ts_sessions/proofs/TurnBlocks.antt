-- Properties of the block of a session after its statements.
use Rattle.std.proofs.Common.{ℕ, Bool, true, false, List, Option, Some, None, inl, inr, subst, sym}
use Rattle.std.specs.Prelude.{Result, Ok, Err, ℤ}
use Rattle.ts_bucket.specs.Bucket.{first_of}
use Rattle.ts_bucket.specs.declared.spans.Span.{Span}
use Rattle.ts_model.specs.declared.events.Op.{Op}
use Rattle.ts_model.specs.declared.outcomes.Committed.{Committed}
use Rattle.ts_model.specs.declared.outcomes.CutDone.{CutDone}
use Rattle.ts_model.specs.declared.outcomes.CutDone.TheVariants.{Cut as CutMade, Nothing as NothingDone}
use Rattle.ts_model.specs.declared.outcomes.Refusal.{Refusal}
use Rattle.ts_model.specs.declared.views.ViewDef.{ViewDef}
use Rattle.ts_model.specs.Calls.{Act, refuses as refuses_call, returns, makes, act_of_commit, act_of_cut, act_of_finish}
use Rattle.ts_model.specs.History.{History, Begins}
use Rattle.ts_model.specs.States.{State}
use Rattle.ts_model.proofs.HistoryLaws.{begins_trans}
use Rattle.result_text.specs.declared.replies.Said.{Said}
use Rattle.result_text.specs.declared.replies.Said.TheVariants as said
use Rattle.ts_sessions.specs.Places.{Block, Places, Turn, held_for}
use Rattle.ts_sessions.specs.Procedures.{Procedure, sees, adds, ends, followed_by, ending_as, tries_at}
use Rattle.ts_sessions.specs.Step.{Taken, after_cut, after_line, after_snapshot, after_view, commits, turn_of_commit, cut_turn, finish_turn, finishes, finishes_held, turn_of_refresh, refreshes, turn_of_line, snap_turn, snaps, snapshot_taken, view_made}
use Rattle.ts_sessions.specs.Walks.{Walks}
use Rattle.ts_sessions.proofs.WalkLaws.{goes_walks}

-- ---- procedures

-- this is true of the end of a procedure, whatever earlier histories it reads
abbrev pub EndsBy : {A : Type 0} → (A → Type 0) → History → Procedure A → Type 0
EndsBy N all (sees shown f) = (h : History) → Begins h all → EndsBy N all (f h)
EndsBy N all (adds e next stop) = EndsBy N all next × EndsBy N all stop
EndsBy N all (ends a) = N a

pub walks_by : {A : Type 0} (N : A → Type 0) (all : History) (alone failed : Bool) (old : State) (procedure : Procedure A) (new : State) (y : A) → Begins new.history all → EndsBy N all procedure → Walks alone failed old procedure new y → N y
walks_by N all alone failed old (sees shown f) new y on t w =
    let up = (goes_walks alone failed w.mid (f w.mid.history) new y w.rest).begins in
    walks_by N all alone failed w.mid (f w.mid.history) new y on (t w.mid.history (begins_trans up on)) w.rest
walks_by N all alone failed old (adds e next stop) new y on t (inl w) = walks_by N all alone failed old stop new y on t.1 w.1
walks_by N all alone failed old (adds e next stop) new y on t (inr (inl w)) = walks_by N all alone failed w.mid next new y on t.0 w.rest
walks_by N all alone failed old (adds e next stop) new y on t (inr (inr w)) = walks_by N all alone false w.1.mid stop new y on t.1 w.1.rest
walks_by N all alone failed old (ends a) new y on t w = subst N (sym w.2) t

pub call_by : {A B : Type 0} (N : B → Type 0) (all : History) (h : History) (act : Act A) (k : Result A Refusal → Procedure B) → ((r : Result A Refusal) → EndsBy N all (k r)) → EndsBy N all (followed_by (tries_at h act) k)
call_by N all h (refuses_call r) k t = t (Err r)
call_by N all h (returns a) k t = t (Ok a)
call_by N all h (makes e a) k t = (t (Ok a), t (Err _))

pub one_by : {A B : Type 0} (N : B → Type 0) (all : History) (h : History) (act : Act A) (g : Result A Refusal → B) → ((r : Result A Refusal) → N (g r)) → EndsBy N all (ending_as g (tries_at h act))
one_by N all h act g t = call_by N all h act (λ r. ends (g r)) t

as_by : {A B : Type 0} (N : A → Type 0) (M : B → Type 0) (all : History) (g : A → B) (procedure : Procedure A) → ((a : A) → N a → M (g a)) → EndsBy N all procedure → EndsBy M all (ending_as g procedure)
as_by N M all g (sees shown f) k t = λ h on. as_by N M all g (f h) k (t h on)
as_by N M all g (adds e next stop) k t = (as_by N M all g next k t.0, as_by N M all g stop k t.1)
as_by N M all g (ends a) k t = k a t

-- ---- turns

-- a property of blocks, whatever earlier histories a statement reads
module _ (Holds : Block → Type 0) (all : History) where
  -- the property of the block after a turn
  abbrev pub InTurn : Turn Places → Type 0
  InTurn y = Holds y.places.block

  -- the state before a turn, whose block has the property
  module _ (p : Places) (held : Holds p.block) where
    pub by_reported : {A : Type 0} (line : A → Said) (r : Result A Refusal) → InTurn (turn_of_line p line r)
    by_reported line (Ok a) = held
    by_reported line (Err r) = held

    by_refreshed : (c : ℕ) (span : Span) (min : ℤ) (t : Taken) (r : Result ℕ Refusal) → InTurn (turn_of_refresh p c span min t r)
    by_refreshed c span min t (Ok k) = held
    by_refreshed c span min t (Err r) = held

    by_snapshot : (c : ℕ) (span : Span) (min : ℤ) (t : Result Taken Refusal) → EndsBy InTurn all (after_snapshot p c span min t)
    by_snapshot c span min (Ok t) = λ h on. one_by InTurn all h (act_of_finish c t.at h) (turn_of_refresh p c span min t) (by_refreshed c span min t)
    by_snapshot c span min (Err r) = held

  module _ (p : Places) (held : Holds p.block) where
    pub by_cut_turn : (min : ℤ) (r : Result CutDone Refusal) → InTurn (cut_turn p min r)
    by_cut_turn min (Ok (CutMade c span)) = held
    by_cut_turn min (Ok (NothingDone at)) = held
    by_cut_turn min (Err r) = held

    pub by_cut : (min : ℤ) (r : Result CutDone Refusal) → EndsBy InTurn all (after_cut p min r)
    by_cut min (Ok (CutMade c span)) = λ h on. by_snapshot _ held c span min (snapshot_taken c h)
    by_cut min (Ok (NothingDone at)) = held
    by_cut min (Err r) = held

    by_filled : (k : ℕ) (min : ℤ) (number : ℕ) (filled : Bool) → EndsBy InTurn all (view_made p k min number filled)
    by_filled k min number false = held
    by_filled k min number true = as_by InTurn InTurn all (after_line (said.View number)) (refreshes p k None None min) (λ t w. w) (λ h on. call_by InTurn all h (act_of_cut k None None h) (after_cut p min) (by_cut min))

    pub by_view : (k : ℕ) (def : ViewDef) (filled : Bool) (r : Result ℕ Refusal) → EndsBy InTurn all (after_view p k def filled r)
    by_view k def filled (Ok number) = by_filled k (first_of def.fold.width) number filled
    by_view k def filled (Err r) = held

    by_snap_turn : (c : ℕ) (t : Result Taken Refusal) → InTurn (snap_turn p c t)
    by_snap_turn c (Ok t) = held
    by_snap_turn c (Err r) = held

    pub by_snaps : (h : History) (m : Option ℕ) → InTurn (snaps p h m)
    by_snaps h None = held
    by_snaps h (Some c) = by_snap_turn c (snapshot_taken c h)

    by_finish_turn : (c at : ℕ) (r : Result ℕ Refusal) → InTurn (finish_turn p c at r)
    by_finish_turn c at (Ok k) = held
    by_finish_turn c at (Err r) = held

    by_held : (h : History) (c : ℕ) (o : Option ℕ) → EndsBy InTurn all (finishes_held p h c o)
    by_held h c None = held
    by_held h c (Some at) = one_by InTurn all h (act_of_finish c at h) (finish_turn p c at) (by_finish_turn c at)

    pub by_finishes : (h : History) (m : Option ℕ) → EndsBy InTurn all (finishes p h m)
    by_finishes h None = held
    by_finishes h (Some c) = by_held h c (held_for c p.held)

    by_committed : (after : Places) → Holds after.block → (r : Result Committed Refusal) → InTurn (turn_of_commit p after r)
    by_committed after w (Ok done) = w
    by_committed after w (Err r) = held

    pub by_commits : (after : Places) → Holds after.block → (h : History) (ops : List Op) → EndsBy InTurn all (commits p after h ops)
    by_commits after w h ops = one_by InTurn all h (act_of_commit ops h) (turn_of_commit p after) (by_committed after w)
