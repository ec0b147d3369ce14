-- What the code computes for the bucket of a time, without its casts.
use Rattle.std.proofs.Common.{◌≡◌, ◌-◌, ◌^◌, ℤ, pos, ◌-ℤ◌, ◌≤ℤ◌, ◌<ℤ◌, sym, ap, ◌∙◌, subst, arith}
use Rattle.std.specs.Int.{int_rem_euclid, w64, cast_signed, cast_unsigned}
use Rattle.std.proofs.lemmas.Int.{ints}
use Rattle.ts_bucket.specs.Bucket.{WidthValue, IsWidth, IsInReach, bucket_of}
use Rattle.ts_bucket.proofs.Remainders.{remainder_bounds}

-- the time less the remainder that the code finds is the start of its bucket
pub computed_bucket : (v w : WidthValue) (t r : ℤ) → v ≡ w → IsWidth v → IsInReach t → t ≤ℤ pos (2 ^ 63 - 1) → r ≡ int_rem_euclid (cast_signed w64 (cast_unsigned w64 (cast_signed w64 (cast_unsigned w64 t) -ℤ cast_signed w64 (cast_unsigned w64 v.shift)))) (cast_signed w64 (cast_unsigned w64 v.step)) → cast_signed w64 (cast_unsigned w64 (cast_signed w64 (cast_unsigned w64 t) -ℤ cast_signed w64 (cast_unsigned w64 r))) ≡ bucket_of w t
computed_bucket v w t r same h low high e =
    let shifted : cast_signed w64 (cast_unsigned w64 (cast_signed w64 (cast_unsigned w64 t) -ℤ cast_signed w64 (cast_unsigned w64 v.shift))) ≡ t -ℤ v.shift = omega (arith, ints) in
    let step : cast_signed w64 (cast_unsigned w64 v.step) ≡ v.step = omega (arith, ints) in
    let is : r ≡ int_rem_euclid (t -ℤ v.shift) v.step = e ∙ ap (λ z. int_rem_euclid z (cast_signed w64 (cast_unsigned w64 v.step))) shifted ∙ ap (λ d. int_rem_euclid (t -ℤ v.shift) d) step in
    let bounds = remainder_bounds (t -ℤ v.shift) v.step h.positive in
    let from : pos 0 ≤ℤ r = subst (λ z. pos 0 ≤ℤ z) (sym is) bounds.0 in
    let below : r <ℤ v.step = subst (λ z. z <ℤ v.step) (sym is) bounds.1 in
    let plain : cast_signed w64 (cast_unsigned w64 (cast_signed w64 (cast_unsigned w64 t) -ℤ cast_signed w64 (cast_unsigned w64 r))) ≡ t -ℤ r = omega (arith, ints) in
    plain ∙ ap (λ z. t -ℤ z) is ∙ ap (λ x. bucket_of x t) same
