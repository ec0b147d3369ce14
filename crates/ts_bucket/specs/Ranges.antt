-- Ranges: the buckets that pass a test, as spans of whole buckets of maximal length.
use Rattle.std.specs.Prelude.{◌≡◌, Bool, true, ◌&&◌, ℤ, ◌<ℤ◌, int_le, List, [], ◌∷◌}
use Rattle.std.specs.List.{list_any, AllByRecursion}
use Rattle.ts_bucket.specs.Bucket.{WidthValue, is_bucket, first_of}
use Rattle.ts_bucket.specs.Spans.{SpanValue, in_span}

-- a number lies in one of these spans
abbrev pub lies_in : List SpanValue → ℤ → Bool
lies_in spans b = list_any (λ span. in_span span b) spans

-- a requested bucket: it is at or above the first one, and its start lies in the span
abbrev pub is_asked : WidthValue → SpanValue → ℤ → Bool
is_asked w starts b = in_span starts b && (is_bucket w b && int_le (first_of w) b)

-- a range of whole buckets that isn't empty
pub record IsWholeRange (w : WidthValue) (range : SpanValue) : Type 0 where
  pub starts : is_bucket w range.lo ≡ true
  pub ends : is_bucket w range.hi ≡ true
  pub some : range.lo <ℤ range.hi

-- ranges rise and don't touch: the end of each is less than the start of the next
abbrev pub RiseApart : List SpanValue → Type 0
RiseApart [] = Unit {0}
RiseApart (s ∷ []) = Unit {0}
RiseApart (s ∷ t ∷ ss) = (s.hi <ℤ t.lo) × RiseApart (t ∷ ss)

-- these are the maximal ranges of the buckets requested that pass a test
pub record AreRanges (w : WidthValue) (starts : SpanValue) (test : ℤ → Bool) (found : List SpanValue) : Type 0 where
  pub whole : AllByRecursion (IsWholeRange w) found
  pub rising : RiseApart found
  -- a bucket is in one of them if and only if it is requested and passes
  pub exact : (b : ℤ) → is_bucket w b ≡ true → lies_in found b ≡ (is_asked w starts b && test b)
