-- The whole buckets of a window.
use Rattle.std.specs.Prelude.{◌≡◌, Bool, true, false, cond, ◌&&◌, ℤ, pos, ◌+ℤ◌, ◌-ℤ◌, ◌<ℤ◌, int_le, int_lt, Option, Some, None}
use Rattle.std.specs.Int.{int_max}
use Rattle.ts_bucket.specs.Bucket.{WidthValue, is_bucket, bucket_of, first_of}
use Rattle.ts_bucket.specs.Spans.{SpanValue, in_span}

-- t is at or above the start of a window; a window with no start goes down without end
abbrev pub is_from : Option ℤ → ℤ → Bool
is_from None t = true
is_from (Some lo) t = int_le lo t

-- the bucket that starts at b, from the first on, lies whole in the window from lo on and below hi
abbrev pub is_whole_in : WidthValue → Option ℤ → ℤ → ℤ → Bool
is_whole_in w lo hi b = is_bucket w b && int_le (first_of w) b && is_from lo b && int_le (b +ℤ w.step) hi

-- the span starts and ends where buckets do, and its buckets are exactly those that lie whole in the window
pub record IsInscribed (w : WidthValue) (lo : Option ℤ) (hi : ℤ) (s : SpanValue) : Type 0 where
  pub starts : is_bucket w s.lo ≡ true
  pub ends : is_bucket w s.hi ≡ true
  pub some : s.lo <ℤ s.hi
  pub exact : (b : ℤ) → is_bucket w b ≡ true → in_span s b ≡ is_whole_in w lo hi b

-- no bucket lies whole in the window
abbrev pub HasNoBucket : WidthValue → Option ℤ → ℤ → Type 0
HasNoBucket w lo hi = (b : ℤ) → is_whole_in w lo hi b ≡ false

-- the first start of a bucket at or above t
abbrev pub start_from : WidthValue → ℤ → ℤ
start_from w t = bucket_of w (t +ℤ (w.step -ℤ pos 1))

-- where the buckets of a window start: at the first bucket, or above it at the first start from lo on
abbrev pub window_start : WidthValue → Option ℤ → ℤ
window_start w None = first_of w
window_start w (Some lo) = int_max (first_of w) (start_from w lo)

-- the span from lo on and below hi, if it has a number
abbrev pub nonempty_span : ℤ → ℤ → Option SpanValue
nonempty_span lo hi = cond (int_lt lo hi) (Some (record { lo = lo; hi = hi })) None

-- the span of the whole buckets of a window, if there are any
abbrev pub inscribed : WidthValue → Option ℤ → ℤ → Option SpanValue
inscribed w lo hi = nonempty_span (window_start w lo) (bucket_of w hi)
