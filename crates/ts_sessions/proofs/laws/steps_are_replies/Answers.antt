use Rattle.ts_sessions.proofs.ReplyLaws.{steps_are_replies}
use Rattle.ts_sessions.proofs.laws.steps_are_replies.Goals as goal

pub returns : goal.returns
returns c = steps_are_replies
