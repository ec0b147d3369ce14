use Rattle.std.proofs.Common.{arith}
use Rattle.group_fold.proofs.CutRows.{length-more}
use Rattle.group_fold.proofs.pieces.count_rows.Goals as goal

pub loop-piece-preserved : goal.loop-piece-preserved
loop-piece-preserved c =
    let more = length-more c.args.pieces.now c.loop-piece.piece-index c.piece-item.result c.loop-piece-test.true c.piece-item.is in
    omega (arith, more, c.saturating_add-count.ensures, c.len.ensures.len, c.loop-piece.invariant)
