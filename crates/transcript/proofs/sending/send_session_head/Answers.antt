use Rattle.std.proofs.Common.{subst}
use Rattle.transcript.specs.Sending.{Sends}
use Rattle.transcript.proofs.PieceTexts.{talk_head_put}
use Rattle.transcript.proofs.sending.send_session_head.Goals as goal

pub returns-clause-sent : goal.returns-clause-sent
returns-clause-sent g c = subst (Sends c.send_pieces.result _ _ _ _) (talk_head_put c.args.name.now c.args.later _ c.comma.ensures) c.send_pieces.ensures.sent
