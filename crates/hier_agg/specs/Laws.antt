-- Laws of roll-ups, each in one sentence.
use Rattle.std.specs.Prelude.{◌≡◌, ℕ, true, false, ℤ, pos, ◌+ℤ◌, ◌-ℤ◌, List, Some}
use Rattle.std.specs.List.{list_all}
use Rattle.ts_num.specs.declared.values.Datum.{Datum}
use Rattle.ts_bucket.specs.Bucket.{IsWidth, bucket_of, first_of, holds, is_bucket, is_time}
use Rattle.ts_bucket.specs.Ranges.{lies_in}
use Rattle.ts_bucket.specs.WholeSpans.{is_below}
use Rattle.ts_bucket.specs.declared.spans.Span.{Span}
use Rattle.ts_bucket.specs.declared.widths.Width.{Width}
use Rattle.ts_schema.specs.declared.rows.Row.{Row}
use Rattle.ts_model.specs.declared.queries.Answer.{Answer}
use Rattle.ts_model.specs.declared.views.Fold.{Fold}
use Rattle.ts_model.specs.declared.views.ViewDef.{ViewDef}
use Rattle.ts_model.specs.Allowed.{all_consistent}
use Rattle.ts_model.specs.Answers.{answer_of_view}
use Rattle.ts_model.specs.History.{History}
use Rattle.ts_model.specs.Refreshes.{watermark}
use Rattle.ts_model.specs.Roster.{roster, view_of}
use Rattle.ts_model.specs.Rows.{rows}
use Rattle.ts_model.specs.Groups.{groups_of}
use Rattle.ts_model.specs.Scratch.{fold_rows, scratch_of}
use Rattle.hier_agg.specs.declared.plans.UpperPlan.{UpperPlan}
use Rattle.hier_agg.specs.Choices.{chosen_answer, takes_groups}
use Rattle.hier_agg.specs.Plans.{PlanFits, all_starts, composed_fold, nests}
use Rattle.hier_agg.specs.Regroup.{regroup}
use Rattle.hier_agg.specs.Stale.{AreUpperRanges, AreWholeRanges, holds_stale}
use Rattle.hier_agg.specs.Upper.{rows_within, upper_answer, upper_rows}
use Rattle.hier_agg.specs.Wholes.{AreRowsOf, takes_all}

-- ---- buckets

-- if widths nest, the bucket of a time's bucket is the bucket of the time, and the first bucket lies in the
-- first
pub record BucketsNest : Type 0 where
  pub buckets :
      (lower upper : Width) (t : ℤ) → IsWidth lower → IsWidth upper → nests lower upper ≡ true
      → bucket_of upper (bucket_of lower t) ≡ bucket_of upper t
  pub first :
      (lower upper : Width) → IsWidth lower → IsWidth upper → nests lower upper ≡ true
      → bucket_of upper (first_of lower) ≡ first_of upper

-- ---- rows

-- the groups of rows, grouped more coarsely, are the groups of the rows under the composed fold
abbrev pub GroupingInTwoSteps : Type 0
GroupingInTwoSteps =
    (lower : Fold) (plan : UpperPlan) (rows : List Row) → PlanFits lower plan
    → regroup lower plan (groups_of lower rows) ≡ groups_of (composed_fold lower plan) rows

-- a roll-up over the rows of the lower fold shows the rows of the composed fold
abbrev pub RollUpsShowTheComposedFold : Type 0
RollUpsShowTheComposedFold =
    (lower : Fold) (plan : UpperPlan) (rows : List Row) → PlanFits lower plan
    → upper_rows lower plan (fold_rows lower rows) ≡ fold_rows (composed_fold lower plan) rows

-- a wider bucket in which an answer shows the rows of the lower fold shows the aggregation from scratch under
-- the composed fold, for any answer elsewhere
abbrev pub WiderBucketsShowTheComposedFold : Type 0
WiderBucketsShowTheComposedFold =
    (lower : Fold) (plan : UpperPlan) (rows : List Row) (found : List (List Datum)) (b : ℤ) → PlanFits lower plan
    → is_bucket plan.width b ≡ true
    → rows_within plan.width b found ≡ rows_within plan.width b (fold_rows lower rows)
    → rows_within plan.width b (upper_rows lower plan found) ≡ scratch_of (composed_fold lower plan) b rows

-- a roll-up with the lower width, all keys and columns and no test has the lower fold as its composed fold. So
-- it shows for each bucket what the lower answer shows, for any rows, and names the same ranges stale
pub record WholeRollUpsShowTheLowerAnswer : Type 0 where
  pub rows :
      (lower : Fold) (plan : UpperPlan) (rows : List Row) (found : List (List Datum)) (b : ℤ) → PlanFits lower plan
      → composed_fold lower plan ≡ lower → is_bucket lower.width b ≡ true
      → rows_within lower.width b found ≡ scratch_of lower b rows
      → rows_within lower.width b (upper_rows lower plan found) ≡ rows_within lower.width b found
  pub stale :
      (w : Width) (stale found : List Span) → IsWidth w → AreWholeRanges w stale → AreUpperRanges w stale found
      → found ≡ stale

-- ---- stale buckets

-- the stale ranges of an aggregate's answer are ranges of whole buckets that rise and don't touch
abbrev pub AnswersHaveWholeRanges : Type 0
AnswersHaveWholeRanges =
    (n : ℕ) (h : History) (starts : Span) (def : ViewDef) → IsWidth def.fold.width
    → AreWholeRanges def.fold.width (answer_of_view n h starts (Some def)).stale

-- a stale bucket of the lower width that lies in a wider one
pub record IsHeld (lower upper : Width) (ranges : List Span) (b x : ℤ) : Type 0 where
  pub bucket : is_bucket lower x ≡ true
  pub within : holds upper b x ≡ true
  pub stale : lies_in ranges x ≡ true

-- a wider bucket holds a stale one if and only if there is a stale bucket in it
pub record StaleBucketsAreHeld : Type 0 where
  pub there :
      (lower upper : Width) (stale : List Span) (b : ℤ) → IsWidth lower → IsWidth upper → nests lower upper ≡ true
      → AreWholeRanges lower stale → is_bucket upper b ≡ true → holds_stale upper stale b ≡ true
      → (x : ℤ) × IsHeld lower upper stale b x
  pub held :
      (lower upper : Width) (stale : List Span) (b x : ℤ) → IsHeld lower upper stale b x
      → holds_stale upper stale b ≡ true

-- an answer is rolled up from a lower one by a plan: its rows are the roll-up, and its stale ranges the wider ones
pub record IsRolledUp (lower : Fold) (plan : UpperPlan) (shown upper : Answer) : Type 0 where
  pub rows : upper.rows ≡ upper_rows lower plan shown.rows
  pub stale : AreUpperRanges plan.width shown.stale upper.stale

-- the upper answer of an answer with ranges of whole buckets is rolled up from it
abbrev pub UpperAnswersAreRolledUp : Type 0
UpperAnswersAreRolledUp =
    (lower : Fold) (plan : UpperPlan) (shown : Answer) → IsWidth plan.width → AreWholeRanges lower.width shown.stale
    → IsRolledUp lower plan shown (upper_answer lower plan shown)

-- ---- whole answers

-- the rows of an aggregate's answer show groups of its fold, in order
abbrev pub AnswersShowGroups : Type 0
AnswersShowGroups =
    (n : ℕ) (h : History) (starts : Span) (def : ViewDef) → all_consistent h ≡ true → view_of (roster h) n ≡ Some def
    → AreRowsOf def.fold (answer_of_view n h starts (Some def)).rows

-- so the roll-up by a plan that takes all of an aggregate is the aggregate's answer
abbrev pub WholeRollUpsAreTheLowerAnswer : Type 0
WholeRollUpsAreTheLowerAnswer =
    (lower : Fold) (plan : UpperPlan) (shown : Answer) → IsWidth lower.width → takes_all lower plan ≡ true
    → AreRowsOf lower shown.rows → AreWholeRanges lower.width shown.stale → upper_answer lower plan shown ≡ shown

-- and the roll-up by a plan that keeps its groups is that answer with cells chosen
abbrev pub RollUpsOfGroupsChooseCells : Type 0
RollUpsOfGroupsChooseCells =
    (lower : Fold) (plan : UpperPlan) (shown : Answer) → IsWidth lower.width → takes_groups lower plan ≡ true
    → AreRowsOf lower shown.rows → AreWholeRanges lower.width shown.stale
    → upper_answer lower plan shown ≡ chosen_answer plan shown

-- ---- at every history

-- all of a wider bucket is shown up to date: if the aggregate shows only materialized rows, the last number of the
-- bucket is below the watermark
abbrev pub IsShownWhole : ℕ → ViewDef → History → Width → ℤ → Type 0
IsShownWhole n def h w b = def.only ≡ true → is_below ((b +ℤ w.step) -ℤ pos 1) (watermark n def h) ≡ true

-- at every history, take the roll-up of the answer of an aggregate over all its buckets. A wider bucket that it
-- doesn't name stale and shows whole shows the aggregation from scratch of the table's rows under the composed
-- fold
abbrev pub FreshBucketsShowTheComposedFold : Type 0
FreshBucketsShowTheComposedFold =
    (n : ℕ) (def : ViewDef) (h : History) (plan : UpperPlan) (upper : Answer) (b : ℤ) → PlanFits def.fold plan
    → list_all (λ row. is_time row.at) (rows def.table h) ≡ true
    → IsRolledUp def.fold plan (answer_of_view n h all_starts (Some def)) upper → is_bucket plan.width b ≡ true
    → lies_in upper.stale b ≡ false → IsShownWhole n def h plan.width b
    → rows_within plan.width b upper.rows ≡ scratch_of (composed_fold def.fold plan) b (rows def.table h)
