-- A bucket starts at each number whose remainder by the step is the shift.
use Rattle.std.proofs.Common.{◌≡◌, ℤ, pos, ◌+ℤ◌, ◌-ℤ◌, ◌≤ℤ◌, ◌<ℤ◌, sym, ap, ◌∙◌, arith}
use Rattle.std.specs.Int.{int_rem_euclid}
use Rattle.std.specs.Ordering.{int_eq}
use Rattle.std.proofs.lemmas.Bool.Decides.{Decides-int_eq}
use Rattle.std.proofs.lemmas.Int.{ints, by_lt_z}
use Rattle.ts_bucket.specs.Bucket.{IsWidth, is_bucket}
use Rattle.ts_bucket.specs.declared.widths.Width.{Width}
use Rattle.ts_bucket.proofs.BucketLaws.{is_bucket-from_remainder, is_bucket-remainder}
use Rattle.ts_bucket.proofs.Remainders.{remainder_bounds, remainder-without, whole_apart}
use Rattle.ts_schema.proofs.Cases.{same_test}

-- two numbers from 0 on and below the step, each with the same multiple above it, are the same
one_rest : (b d r s : ℤ) → pos 0 <ℤ d → pos 0 ≤ℤ r → r <ℤ d → pos 0 ≤ℤ s → s <ℤ d → int_rem_euclid (b -ℤ r) d ≡ pos 0 → int_rem_euclid (b -ℤ s) d ≡ pos 0 → r ≡ s
one_rest b d r s h r0 r1 s0 s1 p q =
    by_lt_z r s (λ less. let apart : ((b -ℤ s) +ℤ d) ≤ℤ (b -ℤ r) = whole_apart (b -ℤ s) (b -ℤ r) d h q p (omega (arith, ints)) in absurd (omega (arith, ints))) (λ more.
    by_lt_z s r (λ less. let apart : ((b -ℤ r) +ℤ d) ≤ℤ (b -ℤ s) = whole_apart (b -ℤ r) (b -ℤ s) d h p q (omega (arith, ints)) in absurd (omega (arith, ints))) (λ other. omega (arith, ints))
    )

pub shift_is : (w : Width) (b : ℤ) → IsWidth w → int_eq (int_rem_euclid b w.step) w.shift ≡ is_bucket w b
shift_is w b width =
    let bounds = remainder_bounds b w.step width.positive in
    same_test _ _ (λ e.
    let same : int_rem_euclid b w.step ≡ w.shift = (Decides-int_eq (int_rem_euclid b w.step) w.shift).0 e in
    is_bucket-from_remainder w b (ap (λ (s : ℤ). int_rem_euclid (b -ℤ s) w.step) (sym same) ∙ remainder-without b w.step width.positive)
    ) (λ e.
    (Decides-int_eq (int_rem_euclid b w.step) w.shift).1
    (one_rest b w.step (int_rem_euclid b w.step) w.shift width.positive bounds.0 bounds.1 width.from_zero width.below_step (remainder-without b w.step width.positive) (is_bucket-remainder w b e))
    )
