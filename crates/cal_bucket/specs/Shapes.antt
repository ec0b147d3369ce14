-- Grouping by the cells of a row, as the code does it: each column has its place among them.
use Rattle.std.specs.Prelude.{ℕ, ◌-◌, ◌==◌, nat_le, if◌then◌else◌, cond, List, map}
use Rattle.ts_num.specs.declared.values.Datum.{Datum}
use Rattle.partial_agg.specs.declared.groups.Group.{Group}
use Rattle.ts_schema.specs.declared.conditions.Test.{Test}
use Rattle.ts_model.specs.declared.views.Agg.{Agg}
use Rattle.ts_model.specs.declared.views.Fold.{Fold}
use Rattle.cell_groups.specs.declared.shapes.Shape.{Shape}
use Rattle.cell_groups.specs.Groups.{cells_at}
use Rattle.cal_bucket.specs.declared.plans.CalPlan.{CalPlan}
use Rattle.cal_bucket.specs.Places.{name_of}
use Rattle.cal_bucket.specs.Rows.{row_shown}

-- the place of a column, if the time is at this place: column 0 is the time, the others count from 1
abbrev pub place_among : ℕ → ℕ → ℕ
place_among at c = if c == 0 then at else cond (nat_le c at) (c - 1) c

-- an aggregate and a test of the cell at the place of its column
abbrev pub agg_among : ℕ → Agg → Agg
agg_among at agg = record { fun = agg.fun; col = place_among at agg.col }

abbrev pub test_among : ℕ → Test → Test
test_among at test = record { col = place_among at test.col; cmp = test.cmp; num = test.num }

-- the grouping of cells
abbrev pub shape_of : ℕ → Fold → Shape
shape_of at fold = record { keys = map (place_among at) fold.keys; aggs = map (agg_among at) fold.aggs }

-- the needed parts of the group of one row, in the bucket with this name
abbrev pub named_group : CalPlan → Shape → List Datum → Group
named_group plan shape cells = cells_at shape (name_of plan.unit plan.number (row_shown plan.at cells).at) cells
