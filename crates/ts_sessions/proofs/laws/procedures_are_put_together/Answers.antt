use Rattle.ts_sessions.proofs.WalkLaws.{put_together}
use Rattle.ts_sessions.proofs.laws.procedures_are_put_together.Goals as goal

pub returns : goal.returns
returns g c = put_together
