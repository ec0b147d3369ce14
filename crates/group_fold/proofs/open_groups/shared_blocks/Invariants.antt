use Rattle.std.proofs.Common.{◌≡◌, ◌++◌}
use Rattle.std.specs.VecDeque.{deque_len}
use Rattle.group_fold.proofs.open_groups.shared_blocks.Given as goal

abbrev pub invariant-loop-block : goal.invariant-loop-block
invariant-loop-block l = l.shared.items ++ l.left.items ≡ l.fn.blocks.items

abbrev pub decreases-loop-block : goal.decreases-loop-block
decreases-loop-block l = deque_len l.left
