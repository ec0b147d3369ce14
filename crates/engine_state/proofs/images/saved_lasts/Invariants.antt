use Rattle.std.proofs.Common.{◌≡◌, map, take}
use Rattle.engine_state.specs.Images.{last_of}
use Rattle.engine_state.proofs.images.saved_lasts.Given as goal

abbrev pub invariant-loop-piece : goal.invariant-loop-piece
invariant-loop-piece l = l.lasts ≡ map last_of (take l.piece-index l.pieces)
