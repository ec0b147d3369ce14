-- The answer of a query by buckets of the calendar.
use Rattle.std.specs.Prelude.{◌&&◌, List, map, filter, flat_map, ℤ}
use Rattle.std.specs.Ordering.{int_cmp, int_eq}
use Rattle.ts_num.specs.declared.values.Datum.{Datum}
use Rattle.ts_schema.specs.declared.rows.Row.{Row}
use Rattle.ts_schema.specs.Conditions.{passes_all}
use Rattle.ts_model.specs.declared.views.Fold.{Fold}
use Rattle.ts_model.specs.Scratch.{once, group_rows}
use Rattle.cal_bucket.specs.declared.plans.CalPlan.{CalPlan}
use Rattle.cal_bucket.specs.Places.{name_of}
use Rattle.cal_bucket.specs.Rows.{row_shown}

-- the rows of the bucket with name b that pass every test, with each time's bucket given by its name
abbrev pub rows_named : (ℤ → ℤ) → Fold → ℤ → List Row → List Row
rows_named name fold b rows = filter (λ row. int_eq (name row.at) b && passes_all row fold.tests) rows

-- the names of the buckets that hold a row which passes every test, each once, in order
abbrev pub occurring_names : (ℤ → ℤ) → Fold → List Row → List ℤ
occurring_names name fold rows =
    once int_cmp (map (λ row. name row.at) (filter (λ row. passes_all row fold.tests) rows))

-- the aggregation from scratch, with a name for each time's bucket instead of a width
abbrev pub named_rows : (ℤ → ℤ) → Fold → List Row → List (List Datum)
named_rows name fold rows =
    flat_map (λ b. group_rows fold b (rows_named name fold b rows)) (occurring_names name fold rows)

-- the result rows of a plan over the rows of a table
abbrev pub rows_of_plan : CalPlan → List Row → List (List Datum)
rows_of_plan plan rows = named_rows (name_of plan.unit plan.number) plan.fold rows

-- and over rows that show them
abbrev pub plan_rows : CalPlan → List (List Datum) → List (List Datum)
plan_rows plan lower = rows_of_plan plan (map (row_shown plan.at) lower)
