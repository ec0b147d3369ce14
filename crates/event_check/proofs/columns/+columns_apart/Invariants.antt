use Rattle.std.proofs.Common.{length}
use Rattle.event_check.proofs.columns.+columns_apart.Given as goal

abbrev pub decreases-columns_apart : goal.decreases-columns_apart
decreases-columns_apart l = length l.cols.now
