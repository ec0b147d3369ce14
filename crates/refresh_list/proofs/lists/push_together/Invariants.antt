use Rattle.std.proofs.Common.{◌≡◌, ◌++◌, length}
use Rattle.refresh_list.specs.Refreshes.{together}
use Rattle.refresh_list.proofs.lists.push_together.Given as goal

abbrev pub invariant-loop-left : goal.invariant-loop-left
invariant-loop-left l = l.list.items ++ together l.left l.finished ≡ l.fn.list.items ++ together l.fn.waiting l.fn.done

abbrev pub decreases-loop-left : goal.decreases-loop-left
decreases-loop-left l = length l.left
