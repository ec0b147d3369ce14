use Rattle.std.proofs.Common.{◌∙◌}
use Rattle.transcript.proofs.SendingLists.{piece_next, piece_failed}
use Rattle.transcript.proofs.pieces.send_pieces.Goals as goal

pub returns-in-Err-clause-sent : goal.returns-in-Err-clause-sent
returns-in-Err-clause-sent g c = piece_failed _ _ _ _ _ c.args.pieces.now c.loop-piece.piece-index _ c.loop-piece-test.true c.loop-piece.invariant.sent c.in-Err.ensures.sent

pub loop-piece-preserved : goal.loop-piece-preserved
loop-piece-preserved g c = record {
  sent = piece_next _ _ _ _ _ c.args.pieces.now c.loop-piece.piece-index _ c.loop-piece-test.true c.loop-piece.invariant.sent _ c.in-Ok.ensures.sent;
  counted = c.in-Ok.ensures.counted ∙ c.loop-piece.invariant.counted;
}
