-- Cells chosen from a row by their places.
use Rattle.std.specs.Prelude.{ℕ, List, map, slice_index_or, Option, None, Some}
use Rattle.ts_num.specs.declared.values.Datum.{Datum}
use Rattle.ts_num.specs.declared.values.Datum.TheVariants.{Null}
use Rattle.partial_agg.specs.declared.groups.Group.{Group}
use Rattle.ts_model.specs.declared.views.Agg.{Agg}
use Rattle.ts_model.specs.Groups.{cells_by}

-- the cell of a row at a place, and NULL if there is none
abbrev pub cell_or_null : List Datum → ℕ → Datum
cell_or_null cells place = slice_index_or cells place Null

-- the cells of a row at these places, in the order of the places
abbrev pub chosen_cells : List ℕ → List Datum → List Datum
chosen_cells places cells = map (cell_or_null cells) places

-- what is shown of the cells of a row: all of them, or those at these places
abbrev pub cells_shown : Option (List ℕ) → List Datum → List Datum
cells_shown None cells = cells
cells_shown (Some places) cells = chosen_cells places cells

-- the same of the result row of a group that shows these aggregates
abbrev pub group_shown : Option (List ℕ) → List Agg → Group → List Datum
group_shown places aggs group = cells_shown places (cells_by aggs group)
