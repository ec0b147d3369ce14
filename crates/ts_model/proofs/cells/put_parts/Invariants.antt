use Rattle.std.proofs.Common.{◌≡◌, ◌++◌, length}
use Rattle.ts_model.specs.Groups.{shown_each}
use Rattle.ts_model.proofs.cells.put_parts.Given as goal

abbrev pub invariant-loop-aggs_left : goal.invariant-loop-aggs_left
invariant-loop-aggs_left l = l.cells.items ++ shown_each l.aggs_left l.parts_left ≡ l.initial.cells.items ++ shown_each l.aggs l.parts

abbrev pub decreases-loop-aggs_left : goal.decreases-loop-aggs_left
decreases-loop-aggs_left l = length l.aggs_left
