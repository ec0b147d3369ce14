use Rattle.std.proofs.Common.{◌∷◌, ◌++◌, [], ap, ◌∙◌}
use Rattle.engine_state.specs.Images.{piece_of}
use Rattle.engine_state.proofs.ImageFacts.{mapped_more}
use Rattle.engine_state.proofs.image_views.pieces_of.Goals as goal

pub loop-last-preserved : goal.loop-last-preserved
loop-last-preserved c =
    c.in_ok-push.ensures.pushed ∙ ap (λ ps. ps ++ (piece_of c.last-item.result ∷ [])) c.loop-last.invariant
    ∙ mapped_more piece_of c.args.lasts.now c.loop-last.last-index c.last-item.result c.loop-last-test.true c.last-item.is
