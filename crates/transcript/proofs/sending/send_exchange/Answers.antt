use Rattle.std.proofs.Common.{subst}
use Rattle.transcript.specs.Sending.{Sends}
use Rattle.transcript.proofs.PieceTexts.{exchange_put}
use Rattle.transcript.proofs.sending.send_exchange.Goals as goal

pub returns-clause-sent : goal.returns-clause-sent
returns-clause-sent g c = subst (Sends c.send_pieces.result _ _ _ _) (exchange_put c.args.exchange.now c.args.later _ _ _ c.comma.ensures c.items.ensures.items c.items-2.ensures.items) c.send_pieces.ensures.sent
