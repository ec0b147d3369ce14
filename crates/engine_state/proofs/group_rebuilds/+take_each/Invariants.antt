use Rattle.std.proofs.Common.{length}
use Rattle.engine_state.proofs.group_rebuilds.+take_each.Given as goal

abbrev pub decreases-take_each : goal.decreases-take_each
decreases-take_each l = length l.refolds.now
