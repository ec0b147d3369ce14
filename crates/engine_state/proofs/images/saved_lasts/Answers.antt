use Rattle.std.proofs.Common.{◌∷◌, ◌++◌, [], ap, ◌∙◌}
use Rattle.engine_state.specs.Images.{last_of}
use Rattle.engine_state.proofs.ImageFacts.{mapped_more}
use Rattle.engine_state.proofs.images.saved_lasts.Goals as goal

pub loop-piece-preserved : goal.loop-piece-preserved
loop-piece-preserved c =
    c.in_ok-push.ensures.pushed ∙ ap (λ ls. ls ++ (last_of c.piece-item.result ∷ [])) c.loop-piece.invariant
    ∙ mapped_more last_of c.args.pieces.now c.loop-piece.piece-index c.piece-item.result c.loop-piece-test.true c.piece-item.is
