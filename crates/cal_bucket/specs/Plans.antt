-- The buckets of a plan.
use Rattle.std.specs.Prelude.{ℤ}
use Rattle.cal_bucket.specs.declared.plans.CalPlan.{CalPlan}
use Rattle.cal_bucket.specs.Buckets.{start_at}
use Rattle.cal_bucket.specs.Places.{place_at}

-- the start of bucket p of a plan
abbrev pub starts : CalPlan → ℤ → ℤ
starts plan = start_at plan.unit plan.number

-- the place of the bucket that holds t
abbrev pub places : CalPlan → ℤ → ℤ
places plan = place_at plan.unit plan.number
