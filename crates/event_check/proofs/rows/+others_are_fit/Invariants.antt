use Rattle.std.proofs.Common.{length}
use Rattle.event_check.proofs.rows.+others_are_fit.Given as goal

abbrev pub decreases-others_are_fit : goal.decreases-others_are_fit
decreases-others_are_fit l = length l.cols.now
