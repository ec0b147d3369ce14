use Rattle.std.proofs.Common.{◌+◌, ◌*◌}
use Rattle.group_fold.proofs.pieces.+halves.Given as goal

abbrev pub decreases-fold_in_threads : goal.decreases-fold_in_threads
decreases-fold_in_threads g l = 2 * l.halvings + 1

abbrev pub decreases-left : goal.decreases-left
decreases-left g l = 2 * l.halvings

abbrev pub decreases-right : goal.decreases-right
decreases-right g l = 2 * l.halvings
