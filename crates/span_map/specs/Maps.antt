-- A map as a partial function from whole numbers to positions, and its room.
use Rattle.std.specs.Prelude.{ℕ, ℤ, List, Option, None}
use Rattle.span_map.specs.declared.edges.Edge.{Edge}
use Rattle.span_map.specs.Edges.{value_from, piece_count}

-- the value of a `SpanMap` in contracts: its edges, and how many more fit
pub record MapValue : Type 0 where
  pub edges : List Edge
  pub room : ℕ

-- the value of the map at t, if it has one
abbrev pub at : MapValue → ℤ → Option ℕ
at m t = value_from None m.edges t

-- the number of pieces of the map
abbrev pub piece_count_of : MapValue → ℕ
piece_count_of m = piece_count m.edges
