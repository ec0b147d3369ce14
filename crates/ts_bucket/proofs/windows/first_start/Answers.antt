-- What is near the times is within reach, and below the end of the range of buckets.
use Rattle.std.proofs.Common.{◌≤ℤ◌, arith}
use Rattle.std.proofs.lemmas.Int.{ints}
use Rattle.ts_bucket.specs.Bucket.{IsNearTimes}
use Rattle.ts_bucket.specs.WholeSpans.{whole_span}
use Rattle.ts_bucket.proofs.WholeSpanLaws.{near_below_range_end}
use Rattle.ts_bucket.proofs.windows.first_start.Goals as goal

pub next_start-requires-clause-low : goal.next_start-requires-clause-low
next_start-requires-clause-low c =
    let near : IsNearTimes c.in-Some.lo = c.requires c.in-Some.lo c.in-Some.is in
    omega (arith, ints)

pub next_start-requires-clause-high : goal.next_start-requires-clause-high
next_start-requires-clause-high c =
    let near : IsNearTimes c.in-Some.lo = c.requires c.in-Some.lo c.in-Some.is in
    let below : c.in-Some.lo ≤ℤ (whole_span c.args.w).hi = near_below_range_end c.args.w c.in-Some.lo c.first.ensures.bounds near in
    omega (arith, ints)
