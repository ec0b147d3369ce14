-- Pieces joined to ranges, in order.
use Rattle.std.specs.Prelude.{cond, List, [], ◌∷◌, ◌++◌, Option, Some, None}
use Rattle.std.specs.Ordering.{int_eq}
use Rattle.ts_bucket.specs.Spans.{SpanValue}
use Rattle.span_map.specs.declared.pieces.Piece.{Piece}

-- the range that is open, if there is one, after a piece
abbrev pub open_after : Option SpanValue → SpanValue → SpanValue
open_after None t = t
open_after (Some s) t = cond (int_eq s.hi t.lo) (record { lo = s.lo; hi = t.hi }) t

-- the ranges that a piece closes
abbrev pub closed_by : Option SpanValue → SpanValue → List SpanValue
closed_by None t = []
closed_by (Some s) t = cond (int_eq s.hi t.lo) [] (s ∷ [])

-- the open range, as a list
abbrev pub still_open : Option SpanValue → List SpanValue
still_open None = []
still_open (Some s) = s ∷ []

-- the ranges of the open range and of pieces
abbrev pub ranges_joined : Option SpanValue → List Piece → List SpanValue
ranges_joined open_range [] = still_open open_range
ranges_joined open_range (p ∷ ps) = closed_by open_range p.span ++ ranges_joined (Some (open_after open_range p.span)) ps
