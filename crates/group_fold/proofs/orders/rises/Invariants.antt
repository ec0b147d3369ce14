use Rattle.std.proofs.Common.{length}
use Rattle.partial_agg.specs.Groups.{AreInOrder}
use Rattle.group_fold.proofs.orders.rises.Given as goal

abbrev pub invariant-loop-left : goal.invariant-loop-left
invariant-loop-left l = AreInOrder l.left → AreInOrder l.groups

abbrev pub decreases-loop-left : goal.decreases-loop-left
decreases-loop-left l = length l.left
