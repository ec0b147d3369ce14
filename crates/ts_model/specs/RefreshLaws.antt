-- Laws of refreshes, each in one sentence: cuts, last refreshes, pending ones, and marks.
use Rattle.std.specs.Prelude.{◌≡◌, ◌≢◌, ◌⊎◌, IfSome, ℕ, ◌≤◌, Bool, true, false, ◌==◌, List, [], ◌∷◌, map, filter, ℤ, ◌+ℤ◌, Option, Some, None, is_some}
use Rattle.std.specs.Ordering.{nat_cmp}
use Rattle.ts_num.specs.Aggregates.{greater}
use Rattle.ts_bucket.specs.Positions.{is_before}
use Rattle.ts_bucket.specs.Spans.{in_span}
use Rattle.ts_bucket.specs.declared.spans.Span.{Span}
use Rattle.partial_agg.specs.declared.groups.Group.{Group}
use Rattle.ts_model.specs.declared.events.Event.TheVariants.{Built}
use Rattle.ts_model.specs.declared.refreshes.Pending.{Pending}
use Rattle.ts_model.specs.declared.refreshes.Pending.TheVariants.{Waiting, Finished, Unknown}
use Rattle.ts_model.specs.declared.refreshes.Waiting.{Waiting as WaitingRefresh}
use Rattle.ts_model.specs.declared.views.ViewDef.{ViewDef}
use Rattle.ts_model.specs.History.{History, Begins, ◌▸◌, prefix, root}
use Rattle.ts_model.specs.Roster.{roster, view_of, set_only}
use Rattle.ts_model.specs.Scratch.{scratch}
use Rattle.ts_model.specs.Groups.{groups_at}
use Rattle.ts_model.specs.Refreshes.{span_of_cut, was_cut, last, was_refreshed, last_touch, watermark, invalid, stale}
use Rattle.ts_model.specs.Pending.{pending, waiting}
use Rattle.ts_model.specs.Sound.{span_fits}
use Rattle.ts_model.specs.Allowed.{all_consistent}
use Rattle.ts_model.specs.Jobs.{Fits}
use Rattle.ts_model.specs.Laws.{Rises}

-- the span of a cut of a consistent history is one of whole buckets of its aggregate, from the first on
abbrev pub CutsFit : Type 0
CutsFit =
    (n : ℕ) (def : ViewDef) (h : History) (k : ℕ) (span : Span) → all_consistent h ≡ true
    → view_of (roster h) n ≡ Some def → span_of_cut n h k ≡ Some span → span_fits span (Some def) ≡ true

-- a bucket of the span of a cut was cut, and so was one with a last refresh, by a cut at or before that one's snapshot
pub record BucketsWereCut : Type 0 where
  pub spans :
      (n : ℕ) (h : History) (k s : ℕ) (span : Span) (b : ℤ) → span_of_cut n h k ≡ Some span → in_span span b ≡ true
      → k ≤ s → was_cut n h b s ≡ true
  pub lasts :
      (n : ℕ) (h : History) (b : ℤ) (s : ℕ) → all_consistent h ≡ true → last n h b ≡ Some s → was_cut n h b s ≡ true

-- a bucket was refreshed at its last refresh, and its last refresh is at or after each snapshot at which it was
-- refreshed
pub record LastsAreLast : Type 0 where
  pub refreshed : (n : ℕ) (h : History) (b : ℤ) (s : ℕ) → last n h b ≡ Some s → was_refreshed n h b s ≡ true
  pub latest : (n : ℕ) (h : History) (b : ℤ) (r : ℕ) → was_refreshed n h b r ≡ true → is_before r (last n h b) ≡ false

-- the waiting refresh with a number, if there is one: its aggregate is what pending says, and its span that of
-- its cut
abbrev pub waiting_over : ℕ → ℕ → Option Span → List WaitingRefresh
waiting_over k n None = []
waiting_over k n (Some span) = record { cut = k; view = n; span = span } ∷ []

abbrev pub waiting_as : History → ℕ → Pending → List WaitingRefresh
waiting_as h k (Waiting n) = waiting_over k n (span_of_cut n h k)
waiting_as h k (Finished f) = []
waiting_as h k Unknown = []

-- there is a span of its cut
abbrev pub has_span : History → ℕ → Pending → Bool
has_span h k (Waiting n) = is_some (span_of_cut n h k)
has_span h k (Finished f) = true
has_span h k Unknown = true

-- for each number, the waiting refreshes are what pending says of it; they are in rising order of their cuts,
-- and each has a span
pub record WaitingIsPending : Type 0 where
  pub exact : (h : History) (k : ℕ) → all_consistent h ≡ true
      → filter (λ r. r.cut == k) (waiting h) ≡ waiting_as h k (pending h k)
  pub rising : (h : History) → all_consistent h ≡ true → Rises nat_cmp (map (λ (r : WaitingRefresh). r.cut) (waiting h))
  pub spans : (h : History) (k : ℕ) → has_span h k (pending h k) ≡ true

-- a finish of a job that fits raises the watermark to the job's top
abbrev pub FinishesMark : Type 0
FinishesMark =
    (n : ℕ) (def : ViewDef) (h : History) (cut snap : ℕ) (span : Span) (spans : List Span) (groups : List Group)
    (top : Option ℤ)
    → all_consistent h ≡ true → view_of (roster h) n ≡ Some def → Fits n def h cut snap span spans groups top
    → watermark n def (h ▸ Built cut snap) ≡ greater (watermark n def h) top

-- m is the end of a bucket that a finished refresh covers and that had a result row at its snapshot; this is
-- the history before its finish
pub record EndsARow (n : ℕ) (def : ViewDef) (h : History) (m : ℤ) : Type 0 where
  pub before : History
  pub cut : ℕ
  pub snap : ℕ
  pub span : Span
  pub bucket : ℤ
  pub finished : Begins (before ▸ Built cut snap) h
  pub cut_over : span_of_cut n before cut ≡ Some span
  pub covered : in_span span bucket ≡ true
  pub had_row : scratch def (prefix before snap) bucket ≢ []
  pub ends : bucket +ℤ def.fold.width.step ≡ m

-- the watermark is the one with which the history begins, or the end of such a bucket
abbrev pub MarksEndRows : Type 0
MarksEndRows =
    (n : ℕ) (def : ViewDef) (h : History) → all_consistent h ≡ true → view_of (roster h) n ≡ Some def
    → IfSome (watermark n def h) (λ m. (watermark n def (root h) ≡ Some m) ⊎ EndsARow n def h m)

-- whether an aggregate shows materialized rows only has no effect on stale buckets, or on the groups of a
-- bucket
pub record ModePlaysNoPart : Type 0 where
  pub marks :
      (n : ℕ) (def : ViewDef) (only : Bool) (h : History) → watermark n (set_only only def) h ≡ watermark n def h
  pub touches : (n : ℕ) (def : ViewDef) (only : Bool) (h : History) (b : ℤ)
      → last_touch n (set_only only def) h b ≡ last_touch n def h b
  pub invalid :
      (n : ℕ) (def : ViewDef) (only : Bool) (h : History) (b : ℤ)
      → invalid n (set_only only def) h b ≡ invalid n def h b
  pub stale :
      (n : ℕ) (def : ViewDef) (only : Bool) (h : History) (b : ℤ) → stale n (set_only only def) h b ≡ stale n def h b
  pub cells : (def : ViewDef) (only : Bool) (h : History) (b : ℤ) → scratch (set_only only def) h b ≡ scratch def h b
  pub groups : (n : ℕ) (def : ViewDef) (only : Bool) (h : History) (s : ℕ) (b : ℤ)
      → groups_at n (set_only only def) h s b ≡ groups_at n def h s b
