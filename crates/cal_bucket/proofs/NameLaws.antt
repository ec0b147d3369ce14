-- The times of a bucket have its name.
use Rattle.std.proofs.Common.{◌≡◌, ℕ, ◌<◌, sym, ap, subst, ◌∙◌, arith, ℤ, pos, ◌+ℤ◌, ◌≤ℤ◌, ◌<ℤ◌, IsTrue}
use Rattle.std.proofs.lemmas.Int.{ints, by_lt_z}
use Rattle.jiff_core.proofs.SignedLemmas.{signed_arith}
use Rattle.ts_bucket.specs.Bucket.{is_time, max_time}
use Rattle.cal_bucket.specs.declared.buckets.Bucket.{Bucket}
use Rattle.cal_bucket.specs.declared.plans.CalUnit.{CalUnit}
use Rattle.cal_bucket.specs.Buckets.{Holds, HoldsATime, start_at}
use Rattle.cal_bucket.specs.Named.{NamesItsTimes}
use Rattle.cal_bucket.specs.Places.{name_of}
use Rattle.cal_bucket.proofs.BucketLaws.{Rises, start_at-rises}
use Rattle.cal_bucket.proofs.MonthLaws.{time_bounds}
use Rattle.cal_bucket.proofs.PlaceLaws.{place_is}

-- a bucket that holds a time has its name
pub name_is : (unit : CalUnit) (n : ℕ) (t p : ℤ) → 0 < n → Holds (start_at unit n) t p → start_at unit n p ≡ name_of unit n t
name_is unit n t p some held = ap (start_at unit n) (place_is unit n t p some held)

pub names_its_times : (unit : CalUnit) (n : ℕ) (p : ℤ) (b : Bucket) → 0 < n → b.start ≡ start_at unit n p → ((t : ℤ) → IsTrue (is_time t) → t <ℤ b.end → t <ℤ start_at unit n (p +ℤ pos 1)) → NamesItsTimes unit n b
names_its_times unit n p b some start end t time low high =
    let held : Holds (start_at unit n) t p = record { at_or_below = subst (λ s. s ≤ℤ t) start low; end_above = end t time high } in
    sym (name_is unit n t p some held) ∙ sym start

-- places up to that of a bucket that holds a time
not_above : (start : ℤ → ℤ) → Rises start → (p q : ℤ) → p ≤ℤ q → start p ≤ℤ start q
not_above start rises p q h =
    by_lt_z p q
    (λ lt. let up = rises p q lt in omega (arith, ints, up))
    (λ ge. let same : p ≡ q = omega (arith, signed_arith) in subst (λ x. start p ≤ℤ start x) same (omega (arith, ints)))

-- the bucket after one that is below the last
pub next_holds : (unit : CalUnit) (n : ℕ) (p q : ℤ) → 0 < n → p <ℤ q → HoldsATime (start_at unit n) p → Holds (start_at unit n) max_time q → HoldsATime (start_at unit n) (p +ℤ pos 1)
next_holds unit n p q some below own last =
    let start = start_at unit n in
    let rises = start_at-rises unit n some in
    let next : (p +ℤ pos 1) ≤ℤ q = omega (arith, signed_arith, below) in
    let up = not_above start rises (p +ℤ pos 1) q next in
    let further : (p +ℤ pos 1) <ℤ ((p +ℤ pos 1) +ℤ pos 1) = omega (arith, signed_arith) in
    let above = rises (p +ℤ pos 1) ((p +ℤ pos 1) +ℤ pos 1) further in
    let top = last.at_or_below in
    let bottom = own.ends in
    record { starts = omega (arith, ints, up, top); ends = omega (arith, ints, above, bottom) }

-- no time is after the last bucket
pub last_holds_all : (unit : CalUnit) (n : ℕ) (p q t : ℤ) → 0 < n → q ≤ℤ p → Holds (start_at unit n) max_time q → IsTrue (is_time t) → t <ℤ start_at unit n (p +ℤ pos 1)
last_holds_all unit n p q t some above last time =
    let start = start_at unit n in
    let next : (q +ℤ pos 1) ≤ℤ (p +ℤ pos 1) = omega (arith, signed_arith, above) in
    let up = not_above start (start_at-rises unit n some) (q +ℤ pos 1) (p +ℤ pos 1) next in
    let end = last.end_above in
    let most : t ≤ℤ max_time = (time_bounds t time).1 in
    omega (arith, ints, up, end, most)
