use Rattle.std.proofs.Common.{◌≡◌, map, take}
use Rattle.engine_state.specs.Images.{piece_of}
use Rattle.engine_state.proofs.image_views.pieces_of.Given as goal

abbrev pub invariant-loop-last : goal.invariant-loop-last
invariant-loop-last l = l.pieces ≡ map piece_of (take l.last-index l.lasts)
