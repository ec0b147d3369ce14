-- Groups: the rows of a bucket with the same keys, aggregated, and what they show.
use Rattle.std.specs.Prelude.{ℕ, ◌&&◌, cond, nat_lt, ◌≤◌, List, [], ◌∷◌, ◌++◌, map, flat_map, length, Option, ℤ, IsTrue}
use Rattle.std.specs.List.{AllByRecursion}
use Rattle.ts_num.specs.Aggregates.{shown_or_null}
use Rattle.ts_num.specs.declared.values.Datum.{Datum}
use Rattle.ts_num.specs.declared.values.Datum.TheVariants.{Int}
use Rattle.ts_schema.specs.declared.rows.Row.{Row}
use Rattle.ts_schema.specs.Rows.{field_of}
use Rattle.ts_bucket.specs.Bucket.{is_time}
use Rattle.partial_agg.specs.declared.groups.Group.{Group}
use Rattle.partial_agg.specs.Summaries.{Summary, summary, datum_of}
use Rattle.ts_model.specs.declared.views.Agg.{Agg}
use Rattle.ts_model.specs.declared.views.Fold.{Fold}
use Rattle.ts_model.specs.declared.views.ViewDef.{ViewDef}
use Rattle.ts_model.specs.History.{History, start, resumed, ◌▸◌, prefix}
use Rattle.ts_model.specs.Rows.{rows}
use Rattle.ts_model.specs.Saved.{is_dirty, saved_groups}
use Rattle.ts_model.specs.Scratch.{bucket_rows, key_lists, with_keys, occurring_buckets}

-- ---- what rows are grouped into

-- the column that an aggregate reads, of these rows
abbrev pub column : List Row → Agg → List (Option ℤ)
column rows agg = map (λ row. field_of row agg.col) rows

-- the group of a bucket with these keys, over the rows of the bucket
abbrev pub group_at : Fold → ℤ → List Row → List (Option ℤ) → Group
group_at fold b found keys = record {
  start = b;
  keys = keys;
  parts = map (λ agg. summary (column (with_keys fold keys found) agg)) fold.aggs;
}

-- the groups of a bucket over its rows: one for each list of keys, in order
abbrev pub bucket_groups : Fold → ℤ → List Row → List Group
bucket_groups fold b found = map (group_at fold b found) (key_lists fold found)

-- the groups of a bucket over the rows of a table
abbrev pub groups_in : Fold → List Row → ℤ → List Group
groups_in fold rows b = bucket_groups fold b (bucket_rows fold b rows)

-- the groups of all buckets over the rows of a table, in order
abbrev pub groups_of : Fold → List Row → List Group
groups_of fold rows = flat_map (groups_in fold rows) (occurring_buckets fold rows)

-- ---- what groups show

-- what each aggregate shows of its partial aggregate
abbrev pub shown_each : List Agg → List Summary → List Datum
shown_each [] parts = []
shown_each (agg ∷ aggs) [] = []
shown_each (agg ∷ aggs) (part ∷ parts) = datum_of agg.fun part ∷ shown_each aggs parts

-- the result row of a group: the bucket, the keys, and each of these aggregates
abbrev pub cells_by : List Agg → Group → List Datum
cells_by aggs group = Int group.start ∷ (map shown_or_null group.keys ++ shown_each aggs group.parts)

-- the same of the aggregates of a fold
abbrev pub cells_of : Fold → Group → List Datum
cells_of fold group = cells_by fold.aggs group

-- ---- what rows must have

-- a row has a time, and the columns that a fold reads
pub record RowFits (fold : Fold) (row : Row) : Type 0 where
  pub time : IsTrue (is_time row.at)
  pub keys : AllByRecursion (λ k. k ≤ length row.vals) fold.keys
  pub aggs : AllByRecursion (λ agg. agg.col ≤ length row.vals) fold.aggs
  pub tests : AllByRecursion (λ t. t.col ≤ length row.vals) fold.tests

abbrev pub RowsFit : Fold → List Row → Type 0
RowsFit fold rows = AllByRecursion (RowFits fold) rows

-- ---- what was in a bucket

-- the groups of a bucket at position s, if a history was last at that position or begins above it. Below an
-- image, these are the saved groups of a dirty bucket, and the present groups of any other
abbrev pub groups_at_last : ℕ → ViewDef → History → ℕ → ℤ → List Group
groups_at_last n def (resumed i) s b =
    cond (nat_lt s i.pos && is_dirty n i b) (saved_groups n i b) (groups_in def.fold (rows def.table (resumed i)) b)
groups_at_last n def h s b = groups_in def.fold (rows def.table h) b

-- what was in a bucket at position s of a history
abbrev pub groups_at : ℕ → ViewDef → History → ℕ → ℤ → List Group
groups_at n def h s b = groups_at_last n def (prefix h s) s b

-- what these groups show
abbrev pub scratch_at : ℕ → ViewDef → History → ℕ → ℤ → List (List Datum)
scratch_at n def h s b = map (cells_of def.fold) (groups_at n def h s b)
