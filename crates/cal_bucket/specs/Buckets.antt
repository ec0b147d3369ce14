-- Buckets of the calendar: their starts for each unit, and the bucket that holds a time.
use Rattle.std.specs.Prelude.{◌≡◌, ℕ, ◌*◌, ◌≤◌, ℤ, pos, ◌+ℤ◌, ◌*ℤ◌, ◌≤ℤ◌, ◌<ℤ◌}
use Rattle.ts_bucket.specs.Bucket.{min_time, max_time}
use Rattle.cal_bucket.specs.declared.plans.CalUnit.{CalUnit}
use Rattle.cal_bucket.specs.declared.plans.CalUnit.TheVariants.{Day, Week, Month, Year}
use Rattle.cal_bucket.specs.Calendar.{start_of}

-- the allowed numbers of units of a bucket
abbrev pub IsNumber : ℕ → Type 0
IsNumber n = (1 ≤ n) × (n ≤ 1200)

-- the start of Monday 2000-01-03
abbrev pub monday : ℤ
monday = pos 946857600

-- the start of bucket p of this many seconds, counted from that Monday
abbrev pub seconds_start : ℕ → ℤ → ℤ
seconds_start seconds p = monday +ℤ (p *ℤ pos seconds)

-- the start of bucket p of this many months, counted from January 2000
abbrev pub months_start : ℕ → ℤ → ℤ
months_start months p = start_of (p *ℤ pos months)

-- the start of bucket p of n units
abbrev pub start_at : CalUnit → ℕ → ℤ → ℤ
start_at Day n = seconds_start (n * 86400)
start_at Week n = seconds_start (n * 604800)
start_at Month n = months_start n
start_at Year n = months_start (n * 12)

-- of the buckets with these starts, bucket p holds t
pub record Holds (start : ℤ → ℤ) (t p : ℤ) : Type 0 where
  pub at_or_below : start p ≤ℤ t
  pub end_above : t <ℤ start (p +ℤ pos 1)

-- bucket p holds a time
pub record HoldsATime (start : ℤ → ℤ) (p : ℤ) : Type 0 where
  pub starts : start p ≤ℤ max_time
  pub ends : min_time <ℤ start (p +ℤ pos 1)

-- b names the bucket of n units that holds t
pub record IsCalendarBucket (unit : CalUnit) (n : ℕ) (t b : ℤ) : Type 0 where
  pub place : ℤ
  pub held : Holds (start_at unit n) t place
  pub named : b ≡ start_at unit n place
