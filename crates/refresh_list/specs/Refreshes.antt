-- Refreshes in order of their cuts, compared with a history.
use Rattle.std.specs.Prelude.{◌≡◌, ℕ, suc, ◌<◌, ◌≤◌, cond, nat_lt, ◌==◌, List, [], ◌∷◌, ◌++◌, length, map, take, drop, slice_index_or, Option, Some, None}
use Rattle.std.specs.List.{AllByRecursion}
use Rattle.ts_bucket.specs.declared.spans.Span.{Span}
use Rattle.ts_model.specs.declared.refreshes.Pending.{Pending}
use Rattle.ts_model.specs.declared.refreshes.Pending.TheVariants.{Waiting, Finished, Unknown}
use Rattle.ts_model.specs.declared.refreshes.Waiting.{Waiting as WaitingRefresh}
use Rattle.ts_model.specs.declared.images.Finished.{Finished as FinishedRefresh}
use Rattle.ts_model.specs.History.{History, position}
use Rattle.ts_model.specs.Pending.{pending, waiting}
use Rattle.ts_model.specs.Refreshes.{span_of_cut}
use Rattle.refresh_list.specs.declared.refreshes.Refresh.{Refresh}
use Rattle.refresh_list.specs.declared.refreshes.Stage.{Stage}
use Rattle.refresh_list.specs.declared.refreshes.Stage.TheVariants.{Waits, Done}

-- a refresh that was cut and isn't finished
abbrev pub newly_cut : ℕ → ℕ → Span → Refresh
newly_cut cut view span = record { cut = cut; stage = Waits view span }

-- whether a refresh is pending or finished, by its stage
abbrev pub state_by : Stage → Pending
state_by (Waits view span) = Waiting view
state_by (Done k) = Finished k

-- whether the refresh with a number is pending, finished or unknown
abbrev pub pending_in : List Refresh → ℕ → Pending
pending_in [] k = Unknown
pending_in (r ∷ rs) k = cond (k == r.cut) (state_by r.stage) (pending_in rs k)

-- a refresh, if it isn't finished, before other waiting ones
abbrev pub with_waiting : ℕ → Stage → List WaitingRefresh → List WaitingRefresh
with_waiting cut (Waits view span) rs = record { cut = cut; view = view; span = span } ∷ rs
with_waiting cut (Done k) rs = rs

-- those that aren't finished
abbrev pub waiting_in : List Refresh → List WaitingRefresh
waiting_in [] = []
waiting_in (r ∷ rs) = with_waiting r.cut r.stage (waiting_in rs)

-- a refresh, if it is finished, before other finished ones
abbrev pub with_done : ℕ → Stage → List FinishedRefresh → List FinishedRefresh
with_done cut (Waits view span) fs = fs
with_done cut (Done k) fs = record { cut = cut; built = k } ∷ fs

-- those that are finished
abbrev pub done_in : List Refresh → List FinishedRefresh
done_in [] = []
done_in (r ∷ rs) = with_done r.cut r.stage (done_in rs)

-- a refresh that waits, and one that was finished
abbrev pub of_waiting : WaitingRefresh → Refresh
of_waiting w = newly_cut w.cut w.view w.span

abbrev pub of_done : FinishedRefresh → Refresh
of_done f = record { cut = f.cut; stage = Done f.built }

-- the number of these before the first with a cut at or after n
abbrev pub count_below : ℕ → List FinishedRefresh → ℕ
count_below n [] = 0
count_below n (f ∷ fs) = cond (nat_lt f.cut n) (suc (count_below n fs)) 0

-- pending refreshes and finished ones, merged: before each pending one come the finished ones with earlier cuts
abbrev pub together : List WaitingRefresh → List FinishedRefresh → List Refresh
together [] fs = map of_done fs
together (w ∷ ws) fs =
    map of_done (take (count_below w.cut fs) fs) ++ (of_waiting w ∷ together ws (drop (count_below w.cut fs) fs))

-- the refresh with a number, if there is one
abbrev pub refresh_in : List Refresh → ℕ → Option Refresh
refresh_in [] k = None
refresh_in (r ∷ rs) k = cond (k == r.cut) (Some r) (refresh_in rs k)

-- a refresh, if it isn't finished
abbrev pub as_waiting : ℕ → Stage → Option WaitingRefresh
as_waiting cut (Waits view span) = Some (record { cut = cut; view = view; span = span })
as_waiting cut (Done k) = None

-- the refresh with a number, if it isn't finished
abbrev pub waits_in : List Refresh → ℕ → Option WaitingRefresh
waits_in [] k = None
waits_in (r ∷ rs) k = cond (k == r.cut) (as_waiting r.cut r.stage) (waits_in rs k)

-- each cut is after the one before it, and the first after n
abbrev pub CutsRise : ℕ → List Refresh → Type 0
CutsRise n [] = Unit {0}
CutsRise n (r ∷ rs) = (n < r.cut) × CutsRise r.cut rs

-- each cut is before n
abbrev pub CutsBelow : ℕ → List Refresh → Type 0
CutsBelow n rs = AllByRecursion (λ r. r.cut < n) rs

-- each cut is at or after n
abbrev pub CutsFrom : ℕ → List Refresh → Type 0
CutsFrom n rs = AllByRecursion (λ r. n ≤ r.cut) rs

-- a stage after event number k finished the refresh, unless it was finished before
abbrev pub stage_after : ℕ → Stage → Stage
stage_after k (Waits view span) = Done k
stage_after k (Done f) = Done f

abbrev pub finished_one : ℕ → Refresh → Refresh
finished_one k r = record { cut = r.cut; stage = stage_after k r.stage }

-- the same, if it has this number
abbrev pub finished_at : ℕ → ℕ → Refresh → Refresh
finished_at cut k r = cond (cut == r.cut) (finished_one k r) r

-- a refresh that isn't finished has the span of its cut
abbrev pub IsCut : History → ℕ → Stage → Type 0
IsCut h cut (Waits view span) = span_of_cut view h cut ≡ Some span
IsCut h cut (Done k) = Unit {0}

-- the refreshes are those of a history: the state of each, which are pending, the span of each of these, and
-- none is after the history
pub record RefreshesStand (h : History) (refreshes : List Refresh) : Type 0 where
  pub pending : (k : ℕ) → pending_in refreshes k ≡ pending h k
  pub waiting : waiting_in refreshes ≡ waiting h
  pub spans : AllByRecursion (λ r. IsCut h r.cut r.stage) refreshes
  pub past : CutsBelow (suc (position h)) refreshes

-- the refresh with number k is at place p
pub record StandsAt (rs : List Refresh) (k p : ℕ) : Type 0 where
  pub within : p < length rs
  pub named : (d : Refresh) → (slice_index_or rs p d).cut ≡ k
  pub found : (d : Refresh) → refresh_in rs k ≡ Some (slice_index_or rs p d)

-- the place of the refresh with number k, if it exists
abbrev pub IsPlace : List Refresh → ℕ → Option ℕ → Type 0
IsPlace rs k None = refresh_in rs k ≡ None
IsPlace rs k (Some p) = StandsAt rs k p
