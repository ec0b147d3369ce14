use Rattle.std.proofs.Common.{◌≡◌, ◌++◌, drop}
use Rattle.span_map.specs.Pieces.{pieces_from}
use Rattle.span_map.proofs.pieces.pieces_between.Given as goal

abbrev pub invariant-loop-edge : goal.invariant-loop-edge
invariant-loop-edge l = l.pieces.items ++ pieces_from l.last.from l.end.from l.last.value (drop l.edge-index l.edges) ≡ pieces_from l.initial.last.from l.end.from l.initial.last.value l.edges
