use Rattle.std.proofs.Common.{◌≡◌, ◌++◌, map, take}
use Rattle.cell_groups.specs.KeptSummaries.{cell_shown}
use Rattle.cell_groups.proofs.results.put_row.Given as goal

abbrev pub invariant-loop-agg : goal.invariant-loop-agg
invariant-loop-agg l = l.cells.items ≡ l.initial.cells.items ++ map (cell_shown l.row) (take l.agg-index l.aggs)
