-- Checkpoint images: what an image keeps, table by table, aggregate by aggregate and bucket by bucket.
use Rattle.std.specs.Prelude.{ℕ, Bool, ◌&&◌, cond, ◌==◌, List, [], ◌∷◌, ◌++◌, map, filter, slice_get, ℤ, Option, Some, None, unwrap_or}
use Rattle.std.specs.Ordering.{int_eq}
use Rattle.ts_num.specs.Aggregates.{greater}
use Rattle.ts_bucket.specs.Ranges.{lies_in}
use Rattle.ts_bucket.specs.Spans.{in_span}
use Rattle.ts_bucket.specs.declared.spans.Span.{Span}
use Rattle.partial_agg.specs.Summaries.{Summary}
use Rattle.partial_agg.specs.declared.groups.Group.{Group}
use Rattle.ts_schema.specs.declared.rows.Row.{Row}
use Rattle.ts_model.specs.declared.events.Event.{Event}
use Rattle.ts_model.specs.declared.events.Event.TheVariants.{Commit}
use Rattle.ts_model.specs.declared.events.Op.{Op}
use Rattle.ts_model.specs.declared.events.Op.TheVariants.{Insert, Delete}
use Rattle.ts_model.specs.declared.images.Finished.{Finished as FinishedRefresh}
use Rattle.ts_model.specs.declared.images.Image.{Image}
use Rattle.ts_model.specs.declared.images.SavedGroup.{SavedGroup}
use Rattle.ts_model.specs.declared.images.SavedLast.{SavedLast}
use Rattle.ts_model.specs.declared.images.SavedView.{SavedView}
use Rattle.ts_model.specs.declared.images.Sums.{Sums}
use Rattle.ts_model.specs.declared.refreshes.Pending.{Pending}
use Rattle.ts_model.specs.declared.refreshes.Pending.TheVariants.{Waiting, Finished, Unknown}
use Rattle.ts_model.specs.declared.refreshes.Waiting.{Waiting as WaitingRefresh}

-- ---- rows

-- the rows that an operation appends to table t
abbrev pub appended_by : ℕ → Op → List Row
appended_by t (Insert u new) = cond (u == t) new []
appended_by t (Delete u tests) = []

-- the rows that these operations append to table t
abbrev pub all_appended : ℕ → List Op → List Row
all_appended t [] = []
all_appended t (op ∷ ops) = appended_by t op ++ all_appended t ops

-- the rows that these events append to table t
abbrev pub appended_over : ℕ → List Event → List Row
appended_over t [] = []
appended_over t (Commit ops ∷ es) = all_appended t ops ++ appended_over t es
appended_over t (e ∷ es) = appended_over t es

-- ---- refreshes

-- the span of refresh number k, if it is one of these and of aggregate n
abbrev pub span_among : ℕ → List WaitingRefresh → ℕ → Option Span
span_among n [] k = None
span_among n (r ∷ rs) k = cond (k == r.cut && r.view == n) (Some r.span) (span_among n rs k)

-- the outcome of refresh number k, by those that were finished
abbrev pub finished_among : List FinishedRefresh → ℕ → Pending
finished_among [] k = Unknown
finished_among (f ∷ fs) k = cond (k == f.cut) (Finished f.built) (finished_among fs k)

-- and by those that wait
abbrev pub pending_among : List WaitingRefresh → List FinishedRefresh → ℕ → Pending
pending_among [] fs k = finished_among fs k
pending_among (r ∷ rs) fs k = cond (k == r.cut) (Waiting r.view) (pending_among rs fs k)

-- ---- buckets

-- what is kept of an aggregate of which nothing is kept
abbrev pub nothing_saved : SavedView
nothing_saved = record { lasts = []; dirty = []; groups = []; mark = None }

-- what an image keeps of aggregate n
abbrev pub saved_view : ℕ → Image → SavedView
saved_view n i = unwrap_or (slice_get i.views n) nothing_saved

-- the position of the range that holds b
abbrev pub pos_in : List SavedLast → ℤ → Option ℕ
pos_in [] b = None
pos_in (l ∷ ls) b = cond (in_span l.span b) (Some l.pos) (pos_in ls b)

-- the last refresh of a bucket
abbrev pub saved_last : ℕ → Image → ℤ → Option ℕ
saved_last n i b = pos_in (saved_view n i).lasts b

-- a bucket was touched after its last refresh
abbrev pub is_dirty : ℕ → Image → ℤ → Bool
is_dirty n i b = lies_in (saved_view n i).dirty b

-- what is kept of a column, as a summary; and a saved group as a group
abbrev pub summary_of : Sums → Summary
summary_of s = record { count = s.count; values = s.values; sum = s.sum; least = s.least; most = s.most }

abbrev pub group_of : SavedGroup → Group
group_of g = record { start = g.start; keys = g.keys; parts = map summary_of g.parts }

-- the saved groups of a bucket, as groups
abbrev pub groups_among : List SavedGroup → ℤ → List Group
groups_among gs b = map group_of (filter (λ g. int_eq g.start b) gs)

-- what the last refresh of a dirty bucket stored
abbrev pub saved_groups : ℕ → Image → ℤ → List Group
saved_groups n i b = groups_among (saved_view n i).groups b

-- the greatest end of these ranges
abbrev pub last_hi : List SavedLast → Option ℤ
last_hi [] = None
last_hi (l ∷ ls) = greater (Some l.span.hi) (last_hi ls)
