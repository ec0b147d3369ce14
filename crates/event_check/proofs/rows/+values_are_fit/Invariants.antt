use Rattle.std.proofs.Common.{length}
use Rattle.event_check.proofs.rows.+values_are_fit.Given as goal

abbrev pub decreases-values_are_fit : goal.decreases-values_are_fit
decreases-values_are_fit l = length l.cols.now
