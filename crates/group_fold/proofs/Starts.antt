-- Starts of buckets, as rows come in order of time.
use Rattle.std.proofs.Common.{◌≡◌, ℕ, zero, suc, ◌<◌, true, List, [], ◌∷◌, length, get_or, ℤ, sym, subst, arith}
use Rattle.std.specs.Prelude.{◌≤ℤ◌, IsTrue}
use Rattle.std.proofs.lemmas.Int.{ints}
use Rattle.ts_bucket.specs.Bucket.{WidthValue, IsNearTimes, IsWidth, holds, is_time, bucket_of, min_time, max_time}
use Rattle.ts_bucket.proofs.BucketLaws.{holds-one, bucket_of_meets, is_bucket-bucket_of}
use Rattle.ts_schema.specs.declared.rows.Row.{Row}
use Rattle.group_fold.specs.Gathering.{IsStart}
use Rattle.group_fold.specs.Grouping.{AreTimes}

-- a bucket that holds a time is its own
pub own_start : (w : WidthValue) (b t : ℤ) → IsWidth w → IsStart w b → holds w b t ≡ true → b ≡ bucket_of w t
own_start w b t h p held = holds-one w b t h p.0 held

-- a time lies near the times
pub near_of_time : (t : ℤ) → IsTrue (is_time t) → IsNearTimes t
near_of_time t time =
    let low : min_time ≤ℤ t = grind (arith, ints, time) in
    let high : t ≤ℤ max_time = grind (arith, ints, time) in
    record { low = omega (arith, ints, low); high = omega (arith, ints, high) }

-- the bucket of a time is one that starts at or below the greatest time
pub start_of_time : (w : WidthValue) (t : ℤ) → IsWidth w → IsTrue (is_time t) → IsStart w (bucket_of w t)
start_of_time w t h time =
    let m = bucket_of_meets w t h in
    let low : bucket_of w t ≤ℤ t = m.at_or_below in
    let most : t ≤ℤ max_time = grind (arith, ints, time) in
    (is_bucket-bucket_of w t h, omega (arith, ints, low, most))

-- each of rows with times has one
pub time_at : (rows : List Row) (i : ℕ) (row : Row) → AreTimes rows → i < length rows → row ≡ get_or rows i row → IsTrue (is_time row.at)
time_at [] i row times lt is = absurd (omega arith)
time_at (r ∷ rows) zero row times lt is = subst (λ (x : Row). IsTrue (is_time x.at)) (sym is) times.0
time_at (r ∷ rows) (suc i) row times lt is = time_at rows i row times.1 (omega arith) is
