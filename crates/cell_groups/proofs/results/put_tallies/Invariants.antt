use Rattle.std.proofs.Common.{◌≡◌, ◌++◌, length}
use Rattle.cell_groups.specs.KeptSummaries.{tallies_shown}
use Rattle.cell_groups.proofs.results.put_tallies.Given as goal

abbrev pub invariant-loop-aggs_left : goal.invariant-loop-aggs_left
invariant-loop-aggs_left l =
    l.cells.items ++ tallies_shown l.aggs_left l.tallies_left ≡ l.initial.cells.items ++ tallies_shown l.aggs l.tallies

abbrev pub decreases-loop-aggs_left : goal.decreases-loop-aggs_left
decreases-loop-aggs_left l = length l.aggs_left
