-- Buckets and spans below a mark.
use Rattle.std.proofs.Common.{◌≡◌, Bool, true, false, ◌&&◌, ℤ, ◌-ℤ◌, ◌≤ℤ◌, ◌<ℤ◌, int_le, int_lt, Option, Some, None, refl, ap, ◌∙◌, arith}
use Rattle.std.specs.Int.{int_min, int_max}
use Rattle.std.specs.Option.{ForSome}
use Rattle.std.proofs.lemmas.Int.{ints, clamps}
use Rattle.std.proofs.lemmas.Bool.Decides.{same_from_decides}
use Rattle.ts_bucket.specs.Bucket.{WidthValue, IsWidth, IsNearTimes, first_of, min_time, max_time, max_step}
use Rattle.ts_bucket.specs.Spans.{in_span}
use Rattle.ts_bucket.specs.WholeSpans.{IsMark, is_below, whole_span}
use Rattle.ts_bucket.proofs.SpanLaws.{in_span-ends, in_span-from_ends}
use Rattle.ts_bucket.proofs.WholeSpanLaws.{near_below_range_end}

-- below both the end of a span and a mark
pub below_mark : (lo hi mark m n b : ℤ) → m ≡ int_min hi mark → n ≡ int_max m lo → in_span (record { lo = lo; hi = n }) b ≡ (int_le lo b && int_lt b hi && int_lt b mark)
below_mark lo hi mark m n b e f =
    same_from_decides {P = (lo ≤ℤ b) × (b <ℤ hi) × (b <ℤ mark)} (in_span (record { lo = lo; hi = n }) b) (int_le lo b && int_lt b hi && int_lt b mark)
    ((λ t. let ends = in_span-ends (record { lo = lo; hi = n }) b t in let low : lo ≤ℤ b = ends.0 in let high : b <ℤ n = ends.1 in (low, omega (arith, ints, clamps), omega (arith, ints, clamps))), (λ ends. let low : lo ≤ℤ b = ends.0 in let one : b <ℤ hi = ends.1 in let two : b <ℤ mark = ends.2 in in_span-from_ends (record { lo = lo; hi = n }) b low (omega (arith, ints, clamps))))
    ((λ t. (grind (arith, ints), grind (arith, ints), grind (arith, ints))), (λ ends. let low : lo ≤ℤ b = ends.0 in let one : b <ℤ hi = ends.1 in let two : b <ℤ mark = ends.2 in grind (arith, ints)))

-- a mark is near the times
near_mark : (w : WidthValue) (m : ℤ) → IsWidth w → IsMark w m → IsNearTimes m
near_mark w m h mark =
    let bounded : w.step ≤ℤ max_step = h.bounded in
    let late : (m -ℤ w.step) ≤ℤ max_time = mark.starts_at_or_below_a_time in
    let early : min_time <ℤ m = mark.above_a_time in
    record { low = omega (arith, ints); high = omega (arith, ints) }

-- a bucket below a mark is in the range of buckets, from the first one on
pub below_in_range : (w : WidthValue) (mark : Option ℤ) (a c : Bool) (b : ℤ) → IsWidth w → ForSome mark (IsMark w) → first_of w ≤ℤ b → c ≡ (a && is_below b mark) → (in_span (whole_span w) b && c) ≡ (a && is_below b mark)
below_in_range w mark a c b h are first e = ap (λ x. in_span (whole_span w) b && x) e ∙ by mark are a
  where
    none : (x y : Bool) → (x && (y && false)) ≡ (y && false)
    none true y = refl
    none false true = refl
    none false false = refl

    by : (o : Option ℤ) → ForSome o (IsMark w) → (a : Bool) → (in_span (whole_span w) b && (a && is_below b o)) ≡ (a && is_below b o)
    by None f a = none (in_span (whole_span w) b) a
    by (Some m) f a = below (int_lt b m) refl
      where
        below : (l : Bool) → int_lt b m ≡ l → (in_span (whole_span w) b && (a && l)) ≡ (a && l)
        below false e = none (in_span (whole_span w) b) a
        below true e =
            let end : m ≤ℤ (whole_span w).hi = near_below_range_end w m h (near_mark w m h (f m refl)) in
            let less : b <ℤ m = grind (arith, ints) in
            ap (λ x. x && (a && true)) (in_span-from_ends (whole_span w) b first (omega (arith, ints)))
