-- Spans of whole buckets.
use Rattle.std.specs.Prelude.{◌≡◌, true, false, Bool, ◌-◌, ◌^◌, ℤ, pos, negsuc, ◌+ℤ◌, ◌-ℤ◌, ◌≤ℤ◌, ◌<ℤ◌, int_lt, Option, Some, None}
use Rattle.ts_bucket.specs.Bucket.{WidthValue, is_bucket, bucket_of, first_of, min_time, max_time}
use Rattle.ts_bucket.specs.Spans.{SpanValue, HullValue}

-- the least and the greatest number of 64 bits
abbrev pub least : ℤ
least = negsuc (2 ^ 63 - 1)

abbrev pub greatest : ℤ
greatest = pos (2 ^ 63 - 1)

-- the range of buckets: those from the first one on that end at or below the greatest number
abbrev pub whole_span : WidthValue → SpanValue
whole_span w = record { lo = first_of w; hi = bucket_of w greatest }

-- a span of whole buckets, from the first on
pub record IsWholeSpan (w : WidthValue) (s : SpanValue) : Type 0 where
  pub starts : is_bucket w s.lo ≡ true
  pub ends : is_bucket w s.hi ≡ true
  pub from_first : first_of w ≤ℤ s.lo

-- the hull begins at a time or above, and the bucket of its greatest number ends at or below the greatest number
pub record IsWithin (w : WidthValue) (h : HullValue) : Type 0 where
  pub from_times : min_time ≤ℤ h.least
  pub ends : (bucket_of w h.most +ℤ w.step) ≤ℤ greatest

-- a mark is the end of a bucket that holds a time
pub record IsMark (w : WidthValue) (mark : ℤ) : Type 0 where
  pub ends : is_bucket w mark ≡ true
  pub above_a_time : min_time <ℤ mark
  pub starts_at_or_below_a_time : (mark -ℤ w.step) ≤ℤ max_time

-- there is a mark, and b is below it
abbrev pub is_below : ℤ → Option ℤ → Bool
is_below b None = false
is_below b (Some mark) = int_lt b mark
