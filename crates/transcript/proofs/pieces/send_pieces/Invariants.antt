use Rattle.std.proofs.Common.{◌≡◌, take}
use Rattle.std.specs.List.{flat_map}
use Rattle.transcript.specs.Pieces.{piece_text}
use Rattle.transcript.specs.Sending.{Gathers}
use Rattle.transcript.proofs.pieces.send_pieces.Given as goal

abbrev pub invariant-loop-piece : goal.invariant-loop-piece
invariant-loop-piece g l = record {
  sent : Gathers (g.K.Sink.written l.initial.sink) (g.K.Sink.written l.sink) l.initial.page.items l.page.items (flat_map piece_text (take l.piece-index l.pieces));
  counted : g.K.Sink.faults l.sink ≡ g.K.Sink.faults l.initial.sink;
}
