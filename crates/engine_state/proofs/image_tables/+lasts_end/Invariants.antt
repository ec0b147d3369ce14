use Rattle.std.proofs.Common.{length}
use Rattle.engine_state.proofs.image_tables.+lasts_end.Given as goal

abbrev pub decreases-lasts_end : goal.decreases-lasts_end
decreases-lasts_end l = length l.defs.now
