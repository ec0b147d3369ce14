-- One more piece has its numbers.
use Rattle.std.proofs.Common.{◌≡◌, ◌∙◌, Some, cond, sym, ap, add-one, take}
use Rattle.ts_bucket.specs.Spans.{in_span}
use Rattle.span_map.specs.Pieces.{piece_at}
use Rattle.mat_log.proofs.LastLaws.{piece_more}
use Rattle.mat_log.proofs.lasts.of_pieces.Goals as goal

pub loop-piece-preserved : goal.loop-piece-preserved
loop-piece-preserved c = λ t.
    let i = c.loop-piece.piece-index in
    let p = c.piece-item.result in
    c.assign.ensures.values t
    ∙ ap (cond (in_span p.span t) (Some p.pos)) (c.reserve.ensures.values t ∙ c.loop-piece.invariant t)
    ∙ piece_more c.requires.rise.0 c.requires.rise.1 c.args.pieces.now i p t c.requires.rise.2 c.loop-piece-test.true c.piece-item.is
    ∙ ap (λ n. piece_at (take n c.args.pieces.now) t) (sym (add-one i))
