-- The parts of a state that an image keeps.
use Rattle.std.specs.Prelude.{map}
use Rattle.span_map.specs.declared.pieces.Piece.{Piece}
use Rattle.partial_agg.specs.Summaries.{Summary}
use Rattle.partial_agg.specs.declared.groups.Group.{Group}
use Rattle.ts_model.specs.declared.images.SavedGroup.{SavedGroup}
use Rattle.ts_model.specs.declared.images.SavedLast.{SavedLast}
use Rattle.ts_model.specs.declared.images.Sums.{Sums}

-- a range of a last refresh, and the piece of a log that says the same
abbrev pub last_of : Piece → SavedLast
last_of p = record { span = p.span; pos = p.pos }

abbrev pub piece_of : SavedLast → Piece
piece_of l = record { span = l.span; pos = l.pos }

-- a group as a saved group
abbrev pub sums_of : Summary → Sums
sums_of s = record { count = s.count; values = s.values; sum = s.sum; least = s.least; most = s.most }

abbrev pub saved_group : Group → SavedGroup
saved_group g = record { start = g.start; keys = g.keys; parts = map sums_of g.parts }
