use Rattle.std.proofs.Common.{◌+◌, length}
use Rattle.span_map.proofs.CombineLaws.{IsCombining}
use Rattle.span_map.proofs.combine.combine.Given as goal

abbrev pub invariant-loop-from : goal.invariant-loop-from
invariant-loop-from l = IsCombining l.rule l.first l.second l.edges.items l.mine l.left l.other l.right

abbrev pub decreases-loop-from : goal.decreases-loop-from
decreases-loop-from l = length l.left + length l.right
