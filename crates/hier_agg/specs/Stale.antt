-- Stale buckets of the upper answer.
use Rattle.std.specs.Prelude.{◌≡◌, true, Bool, cond, ℤ, pos, ◌+ℤ◌, ◌-ℤ◌, ◌<ℤ◌, int_lt, ◌&&◌, List, [], ◌∷◌}
use Rattle.std.specs.Int.{int_max}
use Rattle.std.specs.List.{AllByRecursion, list_any}
use Rattle.ts_bucket.specs.Bucket.{bucket_of, is_bucket}
use Rattle.ts_bucket.specs.Ranges.{IsWholeRange, RiseApart, lies_in}
use Rattle.ts_bucket.specs.declared.spans.Span.{Span}
use Rattle.ts_bucket.specs.declared.widths.Width.{Width}

-- ranges of whole buckets that aren't empty, rise and don't touch, like those of every answer
pub record AreWholeRanges (w : Width) (ranges : List Span) : Type 0 where
  pub whole : AllByRecursion (IsWholeRange w) ranges
  pub rising : RiseApart ranges

-- ranges that aren't empty, rise and don't touch
pub record AreApart (ranges : List Span) : Type 0 where
  pub some : AllByRecursion (λ s. s.lo <ℤ s.hi) ranges
  pub rising : RiseApart ranges

-- the bucket that starts at b overlaps a range
abbrev pub reaches : Width → ℤ → Span → Bool
reaches w b range = int_lt range.lo (b +ℤ w.step) && int_lt b range.hi

-- the wider bucket that starts at b holds a stale one
abbrev pub holds_stale : Width → List Span → ℤ → Bool
holds_stale w stale b = list_any (reaches w b) stale

-- these are the maximal ranges of the wider buckets that hold a stale one
pub record AreUpperRanges (w : Width) (stale found : List Span) : Type 0 where
  pub whole : AllByRecursion (IsWholeRange w) found
  pub rising : RiseApart found
  pub exact : (b : ℤ) → is_bucket w b ≡ true → lies_in found b ≡ holds_stale w stale b

-- ---- how they are made

-- the whole wider buckets that overlap a range
abbrev pub widened_range : Width → Span → Span
widened_range w range = record { lo = bucket_of w range.lo; hi = bucket_of w (range.hi -ℤ pos 1) +ℤ w.step }

-- ranges with one before them, merged with the first of them if it reaches that
abbrev pub with_range : Span → List Span → List Span
with_range r [] = r ∷ []
with_range r (t ∷ ts) = cond (int_lt r.hi t.lo) (r ∷ t ∷ ts) (record { lo = r.lo; hi = int_max r.hi t.hi } ∷ ts)

-- ranges with the widened ones of a list before them
abbrev pub widened_onto : Width → List Span → List Span → List Span
widened_onto w [] found = found
widened_onto w (s ∷ ss) found = with_range (widened_range w s) (widened_onto w ss found)

-- the maximal ranges of the wider buckets that hold a stale one
abbrev pub upper_stale : Width → List Span → List Span
upper_stale w stale = widened_onto w stale []
