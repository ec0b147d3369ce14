use Rattle.answer_laws.proofs.RollUpReplies.{roll_ups_reply}
use Rattle.answer_laws.proofs.laws.roll_ups_reply.Goals as goal

pub returns : goal.returns
returns c = roll_ups_reply
