use Rattle.std.proofs.Common.{◌≡◌, ℤ, take}
use Rattle.span_map.specs.Maps.{at}
use Rattle.span_map.specs.Pieces.{piece_at}
use Rattle.mat_log.proofs.lasts.of_pieces.Given as goal

abbrev pub invariant-loop-piece : goal.invariant-loop-piece
invariant-loop-piece l = (t : ℤ) → at l.map t ≡ piece_at (take l.piece-index l.pieces) t
