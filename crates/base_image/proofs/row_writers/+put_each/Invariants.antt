use Rattle.std.proofs.Common.{length}
use Rattle.base_image.proofs.row_writers.+put_each.Given as goal

abbrev pub decreases-put_each : goal.decreases-put_each
decreases-put_each g l = length l.each.now
