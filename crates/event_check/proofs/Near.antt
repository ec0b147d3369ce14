-- Times, marks and the ends of buckets that hold a time lie near the range of times.
use Rattle.std.proofs.Common.{◌≡◌, true, ℤ, ◌+ℤ◌, ◌-ℤ◌, ◌≤ℤ◌, ◌<ℤ◌, int_le, Option, Some, None, refl, sym, subst, arith}
use Rattle.std.specs.Prelude.{IsTrue}
use Rattle.std.specs.Int.{int_max}
use Rattle.std.specs.Option.{ForSome}
use Rattle.std.proofs.lemmas.Bool.{and_parts}
use Rattle.std.proofs.lemmas.Int.{ints}
use Rattle.std.proofs.lemmas.Option.{same_Some}
use Rattle.ts_num.specs.Aggregates.{greater}
use Rattle.ts_bucket.specs.Bucket.{IsWidth, IsNearTimes, bucket_of, is_time, max_step, max_time, min_time}
use Rattle.ts_bucket.specs.WholeSpans.{IsMark}
use Rattle.ts_bucket.specs.declared.widths.Width.{Width}
use Rattle.ts_bucket.proofs.BucketLaws.{bucket_of_meets}
use Rattle.event_check.specs.Windows.{end_of}

pub near_time : (t : ℤ) → is_time t ≡ true → IsNearTimes t
near_time t e = record { low = grind (arith, ints); high = grind (arith, ints) }

near_mark : (w : Width) (mark : ℤ) → IsWidth w → IsMark w mark → IsNearTimes mark
near_mark w mark width is =
    let above : min_time <ℤ mark = is.above_a_time in
    let start : (mark -ℤ w.step) ≤ℤ max_time = is.starts_at_or_below_a_time in
    let step : w.step ≤ℤ max_step = width.bounded in
    record { low = omega (arith, ints); high = omega (arith, ints) }

between_ends : (t b d : ℤ) → is_time t ≡ true → b ≤ℤ t → t <ℤ (b +ℤ d) → d ≤ℤ max_step → IsNearTimes (b +ℤ d)
between_ends t b d is below above step =
    let parts = and_parts (int_le min_time t) (int_le t max_time) is in
    let from : min_time ≤ℤ t = from_times t parts.0 in
    let upto : t ≤ℤ max_time = upto_times t parts.1 in
    record { low = omega (arith, ints); high = omega (arith, ints) }
  where
    from_times : (t : ℤ) → int_le min_time t ≡ true → min_time ≤ℤ t
    from_times t e = grind (arith, ints)

    upto_times : (t : ℤ) → int_le t max_time ≡ true → t ≤ℤ max_time
    upto_times t e = grind (arith, ints)

near_end : (w : Width) (t : ℤ) → IsWidth w → is_time t ≡ true → IsNearTimes (bucket_of w t +ℤ w.step)
near_end w t width is =
    let held = bucket_of_meets w t width in
    between_ends t (bucket_of w t) w.step is held.at_or_below held.end_above width.bounded

-- the greater of two numbers near the range of times is near it
near_greater : (a b : Option ℤ) → ForSome a IsNearTimes → ForSome b IsNearTimes → ForSome (greater a b) IsNearTimes
near_greater None b near also = also
near_greater (Some x) None near also = near
near_greater (Some x) (Some y) near also = λ z e. subst IsNearTimes (same_Some _ z e) (between x y (near x refl) (also y refl))
  where
    between : (x y : ℤ) → IsNearTimes x → IsNearTimes y → IsNearTimes (int_max x y)
    between x y p q =
        let a = p.low in let b = p.high in let c = q.low in let d = q.high in
        record { low = grind (arith, ints); high = grind (arith, ints) }

near_ends : (w : Width) (latest : Option ℤ) → IsWidth w → ForSome latest (λ t. IsTrue (is_time t)) → ForSome (end_of w latest) IsNearTimes
near_ends w None width times = λ z e. absurd (cc)
near_ends w (Some t) width times = λ z e. subst IsNearTimes (same_Some _ z e) (near_end w t width (times t refl))

-- where a window without an end ends
pub near_window_end : (w : Width) (mark latest end : Option ℤ) → IsWidth w → ForSome mark (IsMark w) → ForSome latest (λ t. IsTrue (is_time t)) → end ≡ greater mark (end_of w latest) → ForSome end IsNearTimes
near_window_end w mark latest end width marks times is =
    subst (λ o. ForSome o IsNearTimes) (sym is) (near_greater mark (end_of w latest) (λ x e. near_mark w x width (marks x e)) (near_ends w latest width times))
