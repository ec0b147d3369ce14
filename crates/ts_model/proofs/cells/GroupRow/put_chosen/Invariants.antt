use Rattle.std.proofs.Common.{◌≡◌, ◌++◌, map, take}
use Rattle.ts_model.specs.Chosen.{cell_or_null}
use Rattle.ts_model.specs.Results.{group_cells}
use Rattle.ts_model.proofs.cells.GroupRow.put_chosen.Given as goal

abbrev pub invariant-loop-place : goal.invariant-loop-place
invariant-loop-place l = l.cells.items ≡ l.initial.cells.items ++ map (cell_or_null (group_cells l.self)) (take l.place-index l.places)
