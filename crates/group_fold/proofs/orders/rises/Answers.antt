use Rattle.group_fold.proofs.Gathers.{none_in_order}
use Rattle.group_fold.proofs.orders.rises.Goals as goal

pub returns : goal.returns
returns c e = c.loop-left.invariant (none_in_order c.loop-left.left.now c.in_default.len_below)
