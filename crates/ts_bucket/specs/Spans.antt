-- Spans and hulls: ranges of numbers, without and with their greatest end.
use Rattle.std.specs.Prelude.{Bool, ◌&&◌, ℤ, ◌+ℤ◌, ◌≤ℤ◌, ◌<ℤ◌, int_le, int_lt}
use Rattle.ts_bucket.specs.Bucket.{WidthValue, bucket_of}

-- what contracts see of a `Span`: the numbers from `lo` on and below `hi`
pub record SpanValue : Type 0 where
  pub lo : ℤ
  pub hi : ℤ

-- what contracts see of a `Hull`: the numbers from `least` to `most`, both included
pub record HullValue : Type 0 where
  pub least : ℤ
  pub most : ℤ

-- the span holds t
abbrev pub in_span : SpanValue → ℤ → Bool
in_span s t = int_le s.lo t && int_lt t s.hi

-- the hull holds t
abbrev pub in_hull : HullValue → ℤ → Bool
in_hull h t = int_le h.least t && int_le t h.most

-- the span has no number
abbrev pub is_empty : SpanValue → Bool
is_empty s = int_le s.hi s.lo

-- the numbers of the bucket that starts at b
abbrev pub bucket_span : WidthValue → ℤ → SpanValue
bucket_span w b = record { lo = b; hi = b +ℤ w.step }

-- the hull meets the bucket that starts at b
abbrev pub meets : WidthValue → ℤ → HullValue → Bool
meets w b h = int_lt h.least (b +ℤ w.step) && int_le b h.most

-- the hull and the span have a number in common
abbrev pub overlaps : HullValue → SpanValue → Bool
overlaps h s = int_lt h.least s.hi && int_le s.lo h.most && int_lt s.lo s.hi

-- some number is in both
abbrev pub SharesTime : HullValue → SpanValue → Type 0
SharesTime h s = (t : ℤ) × (h.least ≤ℤ t) × (t ≤ℤ h.most) × (s.lo ≤ℤ t) × (t <ℤ s.hi)

-- the buckets that a hull meets, from the bucket of its least time to that of its greatest
abbrev pub touched_span : WidthValue → HullValue → SpanValue
touched_span w h = record { lo = bucket_of w h.least; hi = bucket_of w h.most +ℤ w.step }
