-- Buckets of time: what a width and a bucket are.
use Rattle.std.specs.Prelude.{◌≡◌, Bool, ◌&&◌, ◌+◌, ◌-◌, ◌^◌, ℤ, pos, negsuc, ◌+ℤ◌, ◌-ℤ◌, ◌≤ℤ◌, ◌<ℤ◌, int_le, int_lt}
use Rattle.std.specs.Int.{int_rem_euclid}
use Rattle.std.specs.Ordering.{int_eq}

-- what contracts see of a `Width`: buckets are `step` long, and one of them starts at `shift`
pub record WidthValue : Type 0 where
  pub step : ℤ
  pub shift : ℤ

-- the greatest step, 2 ^ 40
abbrev pub max_step : ℤ
max_step = pos (2 ^ 40)

-- the least and the greatest time, -2 ^ 62 and 2 ^ 62 - 1
abbrev pub min_time : ℤ
min_time = negsuc (2 ^ 62 - 1)

abbrev pub max_time : ℤ
max_time = pos (2 ^ 62 - 1)

-- a step is from 1 to 2 ^ 40, and a shift from 0 to one less than the step
pub record IsWidth (w : WidthValue) : Type 0 where
  pub positive : pos 0 <ℤ w.step
  pub bounded : w.step ≤ℤ max_step
  pub from_zero : pos 0 ≤ℤ w.shift
  pub below_step : w.shift <ℤ w.step

-- these four conditions as one test
abbrev pub is_width : WidthValue → Bool
is_width w = int_lt (pos 0) w.step && int_le w.step max_step && int_le (pos 0) w.shift && int_lt w.shift w.step

-- t is a time
abbrev pub is_time : ℤ → Bool
is_time t = int_le min_time t && int_le t max_time

-- t lies within 2 ^ 41 of the range of times
pub record IsNearTimes (t : ℤ) : Type 0 where
  pub low : negsuc (2 ^ 62 + 2 ^ 41 - 1) ≤ℤ t
  pub high : t ≤ℤ pos (2 ^ 62 - 1 + 2 ^ 41)

-- t lies at most 2 ^ 42 below the range of times
abbrev pub IsInReach : ℤ → Type 0
IsInReach t = negsuc (2 ^ 62 + 2 ^ 42 - 1) ≤ℤ t

-- the bucket that starts at b holds t: it is at or below t, and t is below its end
abbrev pub holds : WidthValue → ℤ → ℤ → Bool
holds w b t = int_le b t && int_lt t (b +ℤ w.step)

-- a bucket starts at b: the step divides b minus the shift
abbrev pub is_bucket : WidthValue → ℤ → Bool
is_bucket w b = int_eq (int_rem_euclid (b -ℤ w.shift) w.step) (pos 0)

-- the start of the bucket that holds t
abbrev pub bucket_of : WidthValue → ℤ → ℤ
bucket_of w t = t -ℤ int_rem_euclid (t -ℤ w.shift) w.step

-- the start of the first bucket, which holds the least time
abbrev pub first_of : WidthValue → ℤ
first_of w = bucket_of w min_time

-- b is the start of the bucket that holds t, by its three conditions
pub record IsBucketOf (w : WidthValue) (t b : ℤ) : Type 0 where
  pub at_or_below : b ≤ℤ t
  pub end_above : t <ℤ (b +ℤ w.step)
  pub divided : int_rem_euclid (b -ℤ w.shift) w.step ≡ pos 0
