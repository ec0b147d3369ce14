use Rattle.std.proofs.Common.{length}
use Rattle.par_workers.proofs.passes.+collect.Given as goal

abbrev pub decreases-collect : goal.decreases-collect
decreases-collect g l = length l.slots.now
