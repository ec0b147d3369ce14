use Rattle.std.proofs.Common.{◌≡◌, ◌+◌, ◌++◌}
use Rattle.std.specs.VecDeque.{deque_len}
use Rattle.group_fold.specs.Merging.{CanJoin, with_groups}
use Rattle.group_fold.proofs.joins.join_lists.Given as goal

abbrev pub invariant-loop-theirs : goal.invariant-loop-theirs
invariant-loop-theirs l = (l.groups.items ++ with_groups l.mine.items l.theirs.items ≡ with_groups l.fn.a.items l.fn.b.items) × CanJoin l.mine.items l.theirs.items

abbrev pub decreases-loop-theirs : goal.decreases-loop-theirs
decreases-loop-theirs l = deque_len l.mine + deque_len l.theirs
