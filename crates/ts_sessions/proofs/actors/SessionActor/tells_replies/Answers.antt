use Rattle.ts_sessions.proofs.ActorLaws.{sessions_tell}
use Rattle.ts_sessions.proofs.actors.SessionActor.tells_replies.Goals as goal

pub returns : goal.returns
returns g c = sessions_tell
