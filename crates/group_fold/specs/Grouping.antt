-- The groups of rows: one for each bucket and each list of keys that occurs in it.
use Rattle.std.specs.Prelude.{◌≡◌, List, [], ◌∷◌, ◌++◌, map, filter, ℤ, ◌+ℤ◌, ◌≤ℤ◌, ◌<ℤ◌, IsTrue}
use Rattle.std.specs.List.{AllByRecursion}
use Rattle.std.specs.Ordering.{int_eq}
use Rattle.ts_schema.specs.declared.rows.Row.{Row}
use Rattle.ts_schema.specs.Rows.{field_of}
use Rattle.ts_bucket.specs.Bucket.{WidthValue, is_time, is_bucket, bucket_of, min_time, max_time}
use Rattle.ts_model.specs.declared.views.Agg.{Agg}
use Rattle.ts_model.specs.declared.views.Fold.{Fold}
use Rattle.ts_model.specs.Scratch.{keys_of, scratch_of, fold_rows}
use Rattle.ts_model.specs.Groups.{cells_of, groups_of}
use Rattle.partial_agg.specs.declared.groups.Group.{Group}
use Rattle.partial_agg.specs.Summaries.{Summary, summary}
use Rattle.std.specs.List.Sorted.{IsPermutation}

-- ---- what groups show

-- the groups of rows show the aggregation from scratch: those of a bucket show that of the bucket, and all in order
-- show that of all buckets
pub record ShowScratch (fold : Fold) (rows : List Row) (groups : List Group) : Type 0 where
  pub of_bucket : (b : ℤ) → IsTrue (is_bucket fold.width b)
      → map (cells_of fold) (filter (λ g. int_eq g.start b) groups) ≡ scratch_of fold b rows
  pub of_all : map (cells_of fold) groups ≡ fold_rows fold rows

-- these are the groups of the rows, in any order of the rows
abbrev pub AreGroupsInAnyOrder : Fold → List Row → List Group → Type 0
AreGroupsInAnyOrder fold rows groups = (others : List Row) → IsPermutation rows others → groups ≡ groups_of fold others

-- ---- one row

-- the parts of the group of one row
abbrev pub row_parts : List Agg → Row → List Summary
row_parts aggs row = map (λ agg. summary (field_of row agg.col ∷ [])) aggs

-- the group of one row, in bucket b
abbrev pub row_at : Fold → ℤ → Row → Group
row_at fold b row = record { start = b; keys = keys_of fold.keys row; parts = row_parts fold.aggs row }

-- the group of one row, in its bucket
abbrev pub row_group : Fold → Row → Group
row_group fold row = row_at fold (bucket_of fold.width row.at) row

-- ---- rows in pieces

-- the rows of all pieces, in order
abbrev pub all_rows : List (List Row) → List Row
all_rows [] = []
all_rows (piece ∷ pieces) = piece ++ all_rows pieces

-- ---- what rows must have

-- each of these rows has a time
abbrev pub AreTimes : List Row → Type 0
AreTimes rows = AllByRecursion (λ row. IsTrue (is_time row.at)) rows

abbrev pub PiecesAreTimes : List (List Row) → Type 0
PiecesAreTimes pieces = AllByRecursion AreTimes pieces

-- ---- what groups have

-- a group of a bucket that holds a time
abbrev pub IsOfTime : WidthValue → Group → Type 0
IsOfTime w g = (g.start ≤ℤ max_time) × (min_time <ℤ (g.start +ℤ w.step))
