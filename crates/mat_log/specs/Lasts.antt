-- Last refreshes as pieces: ranges of buckets with one position each.
use Rattle.std.specs.Prelude.{◌≡◌, ◌≢◌, ℕ, Bool, true, ◌&&◌, ◌==◌, cond, List, [], ◌∷◌, ℤ, ◌≤ℤ◌, Option, None}
use Rattle.std.specs.List.{AllByRecursion}
use Rattle.std.specs.Ordering.{int_eq}
use Rattle.ts_bucket.specs.Bucket.{WidthValue, is_bucket}
use Rattle.ts_bucket.specs.Ranges.{IsWholeRange}
use Rattle.ts_bucket.specs.Spans.{in_span}
use Rattle.ts_bucket.specs.WholeSpans.{whole_span}
use Rattle.span_map.specs.declared.pieces.Piece.{Piece}
use Rattle.span_map.specs.Pieces.{piece_at}

-- a piece is above another, and if it begins where that ends, it has another position
pub record Follows (p q : Piece) : Type 0 where
  pub above : p.span.hi ≤ℤ q.span.lo
  pub other : p.span.hi ≡ q.span.lo → p.pos ≢ q.pos

-- pieces rise, and if one begins where another ends, their positions differ
abbrev pub PiecesRise : List Piece → Type 0
PiecesRise [] = Unit {0}
PiecesRise (p ∷ []) = Unit {0}
PiecesRise (p ∷ q ∷ ps) = Follows p q × PiecesRise (q ∷ ps)

-- the maximal ranges of buckets of the whole span at which a function has the same value
pub record AreLasts (w : WidthValue) (f : ℤ → Option ℕ) (pieces : List Piece) : Type 0 where
  pub whole : AllByRecursion (λ (p : Piece). IsWholeRange w p.span) pieces
  pub rise : PiecesRise pieces
  pub exact : (b : ℤ) → is_bucket w b ≡ true → piece_at pieces b ≡ cond (in_span (whole_span w) b) (f b) None

-- ---- adjacent pieces with the same position

-- a piece begins where another ends, with the same position
abbrev pub goes_on : Piece → Piece → Bool
goes_on p q = int_eq p.span.hi q.span.lo && p.pos == q.pos

-- a piece with another at its end
abbrev pub longer : Piece → Piece → Piece
longer p q = record { span = record { lo = p.span.lo; hi = q.span.hi }; pos = p.pos }

-- a piece and those after it, with adjacent pieces of the same position merged
abbrev pub pieces_merged : Piece → List Piece → List Piece
pieces_merged p [] = p ∷ []
pieces_merged p (q ∷ qs) = cond (goes_on p q) (pieces_merged (longer p q) qs) (p ∷ pieces_merged q qs)

abbrev pub all_merged : List Piece → List Piece
all_merged [] = []
all_merged (p ∷ ps) = pieces_merged p ps
