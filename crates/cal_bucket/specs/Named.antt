-- A known bucket, which names the times that it holds.
use Rattle.std.specs.Prelude.{◌≡◌, ℕ, ℤ, ◌≤ℤ◌, ◌<ℤ◌, IsTrue}
use Rattle.ts_bucket.specs.Bucket.{is_time}
use Rattle.cal_bucket.specs.declared.buckets.Bucket.{Bucket}
use Rattle.cal_bucket.specs.declared.plans.CalUnit.{CalUnit}
use Rattle.cal_bucket.specs.Places.{name_of}

-- the bucket's start is the name of the bucket of n units of each time in it
abbrev pub NamesItsTimes : CalUnit → ℕ → Bucket → Type 0
NamesItsTimes unit n bucket =
    (t : ℤ) → IsTrue (is_time t) → bucket.start ≤ℤ t → t <ℤ bucket.end → name_of unit n t ≡ bucket.start
