-- The upper answer: its rows are the aggregation from scratch of the rows of the lower one, and its stale ranges the
-- wider ones.
use Rattle.std.specs.Prelude.{ℕ, suc, ℤ, pos, List, [], ◌∷◌, map, filter, unwrap_or}
use Rattle.ts_num.specs.declared.values.Datum.{Datum}
use Rattle.ts_bucket.specs.Bucket.{holds}
use Rattle.ts_bucket.specs.declared.widths.Width.{Width}
use Rattle.ts_schema.specs.declared.conditions.Test.{Test}
use Rattle.ts_schema.specs.declared.rows.Row.{Row}
use Rattle.partial_agg.specs.Summaries.{value_of}
use Rattle.ts_model.specs.declared.queries.Answer.{Answer}
use Rattle.ts_model.specs.declared.views.Agg.{Agg}
use Rattle.ts_model.specs.declared.views.Fold.{Fold}
use Rattle.ts_model.specs.Scratch.{fold_rows}
use Rattle.hier_agg.specs.declared.plans.UpperPlan.{UpperPlan}
use Rattle.hier_agg.specs.Plans.{added_by, agg_at}
use Rattle.hier_agg.specs.Stale.{upper_stale}

-- a row of an answer as a row of a table: its bucket is the time, its keys and aggregates are the other columns
abbrev pub row_of : List Datum → Row
row_of [] = record { at = pos 0; vals = [] }
row_of (b ∷ cells) = record { at = unwrap_or (value_of b) (pos 0); vals = map value_of cells }

-- the aggregate that adds up a column: in the rows of the answer, column c after the bucket is the one after c
abbrev pub adds_up : Fold → ℕ → Agg
adds_up lower c = record { fun = added_by (agg_at lower c).fun; col = suc c }

-- the aggregates that add up columns
abbrev pub all_added : Fold → List ℕ → List Agg
all_added lower cols = map (adds_up lower) cols

-- a test on a key, as a test on that column of the answer's rows
abbrev pub answer_test : Test → Test
answer_test t = record { col = suc t.col; cmp = t.cmp; num = t.num }

-- the fold over the rows of the lower answer
abbrev pub upper_fold : Fold → UpperPlan → Fold
upper_fold lower plan = record {
  width = plan.width;
  keys = map suc plan.keys;
  aggs = all_added lower plan.cols;
  tests = map answer_test plan.tests;
}

-- the rows of the upper answer
abbrev pub upper_rows : Fold → UpperPlan → List (List Datum) → List (List Datum)
upper_rows lower plan rows = fold_rows (upper_fold lower plan) (map row_of rows)

-- the upper answer of a plan over a lower answer
abbrev pub upper_answer : Fold → UpperPlan → Answer → Answer
upper_answer lower plan shown = record {
  rows = upper_rows lower plan shown.rows;
  stale = upper_stale plan.width shown.stale;
}

-- the rows of an answer whose buckets start in the bucket that starts at b
abbrev pub rows_within : Width → ℤ → List (List Datum) → List (List Datum)
rows_within w b rows = filter (λ cells. holds w b (row_of cells).at) rows
