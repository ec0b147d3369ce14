use Rattle.ts_sessions.proofs.OutsideLaws.{stays_outside}
use Rattle.ts_sessions.proofs.actors.SessionActor.stays_outside.Goals as goal

pub returns : goal.returns
returns g c = stays_outside
