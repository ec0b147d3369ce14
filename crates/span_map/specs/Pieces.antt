-- Pieces: spans with one value each.
use Rattle.std.specs.Prelude.{ℕ, cond, ℤ, ◌≤ℤ◌, ◌<ℤ◌, List, [], ◌∷◌, ◌++◌, Option, Some, None, int_lt}
use Rattle.ts_bucket.specs.Spans.{in_span}
use Rattle.span_map.specs.declared.edges.Edge.{Edge}
use Rattle.span_map.specs.declared.pieces.Piece.{Piece}

-- the value of the first piece that holds t
abbrev pub piece_at : List Piece → ℤ → Option ℕ
piece_at [] t = None
piece_at (p ∷ ps) t = cond (in_span p.span t) (Some p.pos) (piece_at ps t)

-- the pieces lie within lo and hi, have numbers, and each ends before the next one begins or where it begins
abbrev pub ArePieces : ℤ → ℤ → List Piece → Type 0
ArePieces lo hi [] = Unit {0}
ArePieces lo hi (p ∷ ps) = (lo ≤ℤ p.span.lo) × (p.span.lo <ℤ p.span.hi) × (p.span.hi ≤ℤ hi) × ArePieces p.span.hi hi ps

-- the piece from lo on and below hi, if it has numbers and a value
abbrev pub piece_of : ℤ → ℤ → Option ℕ → List Piece
piece_of lo hi None = []
piece_of lo hi (Some pos) = cond (int_lt lo hi) (record { span = record { lo = lo; hi = hi }; pos = pos } ∷ []) []

-- the pieces from lo on and below hi, if the value at lo is v, and the edges are those between the two
abbrev pub pieces_from : ℤ → ℤ → Option ℕ → List Edge → List Piece
pieces_from lo hi v [] = piece_of lo hi v
pieces_from lo hi v (e ∷ es) = piece_of lo e.from v ++ pieces_from e.from hi e.value es
