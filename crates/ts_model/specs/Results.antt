-- Rows of an answer, and their cells read as values.
use Rattle.std.specs.Prelude.{ℕ, List, map, slice_index_or, ℤ, Option, None}
use Rattle.ts_num.specs.declared.values.Datum.{Datum}
use Rattle.partial_agg.specs.Summaries.{value_of}
use Rattle.ts_model.specs.declared.cells.GroupRow.{GroupRow}
use Rattle.ts_model.specs.declared.results.ResultRow.{ResultRow}
use Rattle.ts_model.specs.declared.results.ResultRow.TheVariants.{Cells, Chosen, Group}
use Rattle.ts_model.specs.Chosen.{chosen_cells}
use Rattle.ts_model.specs.Groups.{cells_by}

-- the cells of the result row of a group with these keys and parts
abbrev pub group_cells : GroupRow → List Datum
group_cells row = cells_by row.aggs.now (record { start = row.start; keys = row.keys.now; parts = row.parts.now })

-- the cells of a row: those that are stored, or those that its group shows, or the chosen ones of these
abbrev pub row_cells : ResultRow → List Datum
row_cells (Cells cells) = cells.now
row_cells (Group row) = group_cells row
row_cells (Chosen places row) = chosen_cells places.now (group_cells row)

-- the value of the cell at a place
abbrev pub cell_at : List Datum → ℕ → Option ℤ
cell_at cells c = slice_index_or (map value_of cells) c None
