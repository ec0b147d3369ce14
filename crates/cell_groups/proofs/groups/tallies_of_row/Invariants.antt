use Rattle.std.proofs.Common.{◌≡◌, take}
use Rattle.cell_groups.specs.KeptSummaries.{row_tallies}
use Rattle.cell_groups.proofs.groups.tallies_of_row.Given as goal

abbrev pub invariant-loop-agg : goal.invariant-loop-agg
invariant-loop-agg l = l.tallies.items ≡ row_tallies (take l.agg-index l.aggs) l.cells
