use Rattle.std.proofs.Common.{length}
use Rattle.par_workers.proofs.passes.+share_passes.Given as goal

abbrev pub decreases-share_passes : goal.decreases-share_passes
decreases-share_passes g l = length l.slots.now
