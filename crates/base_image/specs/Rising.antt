-- Spans that rise.
use Rattle.std.specs.Prelude.{Bool, ◌&&◌, ◌||◌, not, ℤ, int_le, int_lt, List, [], ◌∷◌, map}
use Rattle.std.specs.Int.{int_max}
use Rattle.std.specs.List.{list_all}
use Rattle.ts_bucket.specs.declared.spans.Span.{Span}
use Rattle.ts_model.specs.declared.images.SavedLast.{SavedLast}
use Rattle.ts_model.specs.Valid.{spans_rise}

-- none is empty, and each ends at or below the start of the next
abbrev pub are_rising : List Span → Bool
are_rising ss = list_all (λ s. int_lt s.lo s.hi) ss && spans_rise ss

-- the spans of these last refreshes
abbrev pub spans_of : List SavedLast → List Span
spans_of ls = map (λ (l : SavedLast). l.span) ls

-- spans that rise hold all numbers from one on and below another, checked from left to right
abbrev pub cover_from : ℤ → ℤ → List Span → Bool
cover_from from until [] = int_le until from
cover_from from until (s ∷ ss) =
    int_le until from || (not (int_lt from s.lo) && cover_from (int_max from s.hi) until ss)
