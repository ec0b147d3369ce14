use Rattle.std.proofs.Common.{◌≡◌, ◌++◌}
use Rattle.std.specs.VecDeque.{deque_len}
use Rattle.mat_rows.proofs.making.in_blocks.Given as goal

abbrev pub invariant-loop-group : goal.invariant-loop-group
invariant-loop-group l = l.made ++ l.left.items ≡ l.fn.groups.items

abbrev pub decreases-loop-group : goal.decreases-loop-group
decreases-loop-group l = deque_len l.left
