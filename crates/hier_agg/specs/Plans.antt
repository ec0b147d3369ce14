-- Plans of roll-ups: the columns that exist, the functions that add up, the widths that fit, and the composed
-- fold.
use Rattle.std.specs.Prelude.{◌≡◌, ℕ, ◌-◌, ◌<◌, ◌≤◌, Bool, true, false, ◌&&◌, pos, ◌-ℤ◌, ◌++◌, length, map, slice_index_or}
use Rattle.std.specs.Int.{int_rem_euclid}
use Rattle.std.specs.List.{AllByRecursion}
use Rattle.std.specs.Ordering.{int_eq}
use Rattle.ts_num.specs.declared.values.Fun.{Fun}
use Rattle.ts_num.specs.declared.values.Fun.TheVariants.{CountAll, Count, Sum, Min, Max, Avg}
use Rattle.ts_bucket.specs.Bucket.{WidthValue, IsWidth}
use Rattle.ts_bucket.specs.WholeSpans.{greatest, least}
use Rattle.ts_bucket.specs.declared.spans.Span.{Span}
use Rattle.ts_schema.specs.declared.conditions.Test.{Test}
use Rattle.ts_model.specs.declared.queries.Query.{Query}
use Rattle.ts_model.specs.declared.queries.Query.TheVariants.{Aggregate}
use Rattle.ts_model.specs.declared.views.Agg.{Agg}
use Rattle.ts_model.specs.declared.views.Fold.{Fold}
use Rattle.hier_agg.specs.declared.plans.UpperPlan.{UpperPlan}

-- ---- what a plan is over

-- the numbers of 64 bits, in which the starts of all buckets lie
abbrev pub all_starts : Span
all_starts = record { lo = least; hi = greatest }

-- the query whose answer a roll-up groups: the aggregate over all its buckets
abbrev pub lower_query : UpperPlan → Query
lower_query plan = Aggregate plan.view all_starts

-- the table's column that is a key of the aggregate
abbrev pub key_at : Fold → ℕ → ℕ
key_at lower k = slice_index_or lower.keys k 0

-- the number of rows, the default for a missing aggregate
abbrev pub row_count : Agg
row_count = record { fun = CountAll; col = 0 }

-- the aggregate of a column after the keys
abbrev pub agg_at : Fold → ℕ → Agg
agg_at lower c = slice_index_or lower.aggs (c - length lower.keys) row_count

-- ---- what adds up

-- the values of a function can be added up
abbrev pub is_additive : Fun → Bool
is_additive CountAll = true
is_additive Count = true
is_additive Sum = true
is_additive Min = true
is_additive Max = true
is_additive Avg = false

-- the function that adds up the values of a function; an average has none, and gets the sum as a placeholder
abbrev pub added_by : Fun → Fun
added_by CountAll = Sum
added_by Count = Sum
added_by Sum = Sum
added_by Min = Min
added_by Max = Max
added_by Avg = Sum

-- ---- what fits

-- the buckets of one width each lie in one bucket of another: one step divides the other, and the difference of
-- the offsets
abbrev pub nests : WidthValue → WidthValue → Bool
nests lower upper =
    int_eq (int_rem_euclid upper.step lower.step) (pos 0)
    && int_eq (int_rem_euclid (upper.shift -ℤ lower.shift) lower.step) (pos 0)

-- a column is an aggregate's, and can be added up
pub record IsAdditive (lower : Fold) (c : ℕ) : Type 0 where
  pub behind_keys : length lower.keys ≤ c
  pub within : c - length lower.keys < length lower.aggs
  pub additive : is_additive (agg_at lower c).fun ≡ true

-- a plan over the fold of an aggregate: its keys and tests are on keys, its columns can be added up, the widths fit
pub record PlanFits (lower : Fold) (plan : UpperPlan) : Type 0 where
  pub lower_width : IsWidth lower.width
  pub width : IsWidth plan.width
  pub nested : nests lower.width plan.width ≡ true
  pub keys : AllByRecursion (λ k. k < length lower.keys) plan.keys
  pub cols : AllByRecursion (IsAdditive lower) plan.cols
  pub tests : AllByRecursion (λ t. t.col < length lower.keys) plan.tests

-- ---- the composed fold

-- a test on a key, as a test on the column of the table
abbrev pub table_test : Fold → Test → Test
table_test lower t = record { col = key_at lower t.col; cmp = t.cmp; num = t.num }

-- the composed fold: the wider buckets, the chosen keys, the tests of both, and each function as it adds up
abbrev pub composed_fold : Fold → UpperPlan → Fold
composed_fold lower plan = record {
  width = plan.width;
  keys = map (key_at lower) plan.keys;
  aggs = map (agg_at lower) plan.cols;
  tests = lower.tests ++ map (table_test lower) plan.tests;
}
