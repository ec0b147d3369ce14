use Rattle.std.proofs.Common.{length}
use Rattle.event_check.proofs.columns.+names_column.Given as goal

abbrev pub decreases-names_column : goal.decreases-names_column
decreases-names_column l = length l.cols.now
