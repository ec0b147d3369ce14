use Rattle.std.proofs.Common.{length}
use Rattle.engine_state.proofs.group_rebuilds.+take_events.Given as goal

abbrev pub decreases-take_events : goal.decreases-take_events
decreases-take_events g l = length l.events.now
