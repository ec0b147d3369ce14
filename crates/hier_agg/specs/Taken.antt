-- Grouping of the rows of an answer, as the code does it: by the cells after their buckets.
use Rattle.std.specs.Prelude.{ℕ, Bool, List, drop, map}
use Rattle.ts_num.specs.declared.values.Datum.{Datum}
use Rattle.ts_bucket.specs.Bucket.{bucket_of}
use Rattle.ts_model.specs.declared.views.Agg.{Agg}
use Rattle.ts_model.specs.declared.views.Fold.{Fold}
use Rattle.partial_agg.specs.declared.groups.Group.{Group}
use Rattle.cell_groups.specs.declared.shapes.Shape.{Shape}
use Rattle.cell_groups.specs.Cells.{cells_pass}
use Rattle.cell_groups.specs.Groups.{cells_at}
use Rattle.hier_agg.specs.declared.plans.UpperPlan.{UpperPlan}
use Rattle.hier_agg.specs.Plans.{added_by, agg_at}
use Rattle.hier_agg.specs.Upper.{row_of}

-- the cells of a row after its bucket
abbrev pub columns_of : List Datum → List Datum
columns_of cells = drop 1 cells

-- the aggregate that adds up the column at this place
abbrev pub added_at : Fold → ℕ → Agg
added_at lower c = record { fun = added_by (agg_at lower c).fun; col = c }

-- the grouping of these cells
abbrev pub shape_of : Fold → UpperPlan → Shape
shape_of lower plan = record { keys = plan.keys; aggs = map (added_at lower) plan.cols }

-- a row passes every test on its keys
abbrev pub row_passes : UpperPlan → List Datum → Bool
row_passes plan cells = cells_pass plan.tests (columns_of cells)

-- the needed parts of the group of a row, in its wider bucket
abbrev pub row_group_of : UpperPlan → Shape → List Datum → Group
row_group_of plan shape cells = cells_at shape (bucket_of plan.width (row_of cells).at) (columns_of cells)
