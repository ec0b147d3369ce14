use Rattle.std.proofs.Common.{◌≡◌, ◌+◌, length}
use Rattle.refresh_list.specs.Refreshes.{count_below}
use Rattle.refresh_list.proofs.lists.count_below.Given as goal

abbrev pub invariant-loop-left : goal.invariant-loop-left
invariant-loop-left l = (l.count + count_below l.cut l.left ≡ count_below l.cut l.fn.done) × (l.count + length l.left ≡ length l.fn.done)

abbrev pub decreases-loop-left : goal.decreases-loop-left
decreases-loop-left l = length l.left
