use Rattle.ts_sessions.proofs.ReplyLaws.{names_stay}
use Rattle.ts_sessions.proofs.laws.names_are_as_at_the_event.Goals as goal

pub returns : goal.returns
returns c = names_stay
