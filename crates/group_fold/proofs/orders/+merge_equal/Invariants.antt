use Rattle.std.proofs.Common.{length}
use Rattle.group_fold.proofs.orders.+merge_equal.Given as goal

abbrev pub decreases-merge_equal : goal.decreases-merge_equal
decreases-merge_equal l = length l.groups.items
