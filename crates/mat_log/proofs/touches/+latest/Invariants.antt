use Rattle.std.proofs.Common.{length}
use Rattle.mat_log.proofs.touches.+latest.Given as goal

abbrev pub decreases-latest : goal.decreases-latest
decreases-latest l = length l.entries.now
