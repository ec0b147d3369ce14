-- Partial functions from whole numbers to positions, and their changes within a span.
use Rattle.std.specs.Prelude.{◌≡◌, ℕ, ◌&&◌, cond, ℤ, Option, Some, None}
use Rattle.ts_bucket.specs.Positions.{is_before}
use Rattle.ts_bucket.specs.Spans.{SpanValue, in_span}

-- within the span each new value is the image of the old one, and elsewhere it is the old one
abbrev pub ChangesWithin : SpanValue → (Option ℕ → Option ℕ) → (ℤ → Option ℕ) → (ℤ → Option ℕ) → Type 0
ChangesWithin s made_of old new = (t : ℤ) → new t ≡ cond (in_span s t) (made_of (old t)) (old t)

-- each new value is the position where the span holds the number and the floor has no value or a lower one, and
-- elsewhere it is the old one
abbrev pub AssignsAbove : SpanValue → ℕ → (ℤ → Option ℕ) → (ℤ → Option ℕ) → (ℤ → Option ℕ) → Type 0
AssignsAbove s pos floor old new = (t : ℤ) → new t ≡ cond (in_span s t && is_before pos (floor t)) (Some pos) (old t)

-- the part of a function within a span
abbrev pub IsPart : SpanValue → (ℤ → Option ℕ) → (ℤ → Option ℕ) → Type 0
IsPart s whole part = (t : ℤ) → part t ≡ cond (in_span s t) (whole t) None
