-- A chunk holds the times from its start on, up to the start of the next one.
use Rattle.std.proofs.Common.{◌≡◌, ◌&&◌, ◌-◌, ◌^◌, ℤ, pos, negsuc, ◌+ℤ◌, ◌-ℤ◌, ◌≤ℤ◌, ◌<ℤ◌, int_le, int_lt, ◌∙◌, ap, arith}
use Rattle.std.specs.Int.{int_rem_euclid, w64}
use Rattle.std.specs.Ordering.{int_eq}
use Rattle.std.specs.Prelude.{FitsSigned}
use Rattle.std.proofs.lemmas.Bool.Decides.{same_from_decides}
use Rattle.std.proofs.lemmas.Int.{ints, by_lt_z}
use Rattle.ts_bucket.specs.Bucket.{max_time, min_time}
use Rattle.ts_bucket.specs.Chunks.{IsInterval, chunk_start}
use Rattle.ts_bucket.proofs.Remainders.{remainder_bounds, remainder-without, whole_apart}
use Rattle.chunk_catalog.specs.Parts.{IsStart}

same_chunk : (d s t : ℤ) → pos 0 <ℤ d → int_rem_euclid s d ≡ pos 0 → s ≤ℤ t → t <ℤ (s +ℤ d) → s ≡ chunk_start d t
same_chunk d s t positive whole low high =
    let bounds = remainder_bounds t d positive in
    let from_zero : pos 0 ≤ℤ int_rem_euclid t d = bounds.0 in
    let below_step : int_rem_euclid t d <ℤ d = bounds.1 in
    let whole_too : int_rem_euclid (chunk_start d t) d ≡ pos 0 = remainder-without t d positive in
    let no_later : s ≤ℤ chunk_start d t = by_lt_z (chunk_start d t) s
    (λ below. let apart : (chunk_start d t +ℤ d) ≤ℤ s = whole_apart (chunk_start d t) s d positive whole_too whole below in absurd (omega (arith, ints)))
    (λ above. above) in
    let no_earlier : chunk_start d t ≤ℤ s = by_lt_z s (chunk_start d t)
    (λ below. let apart : (s +ℤ d) ≤ℤ chunk_start d t = whole_apart s (chunk_start d t) d positive whole whole_too below in absurd (omega (arith, ints)))
    (λ above. above) in
    omega (arith, ints)

pub held_times : (d s t : ℤ) → IsInterval d → IsStart d s → (int_le s t && int_lt t (s +ℤ d)) ≡ int_eq s (chunk_start d t)
held_times d s t wide start =
    let one : pos 1 ≤ℤ d = wide.0 in
    let positive : pos 0 <ℤ d = omega (arith, ints) in
    let whole : int_rem_euclid s d ≡ pos 0 = ap (λ z. int_rem_euclid z d) start.begins ∙ remainder-without start.time d positive in
    let bounds = remainder_bounds t d positive in
    let from_zero : pos 0 ≤ℤ int_rem_euclid t d = bounds.0 in
    let below_step : int_rem_euclid t d <ℤ d = bounds.1 in
    same_from_decides {P = s ≡ chunk_start d t} (int_le s t && int_lt t (s +ℤ d)) (int_eq s (chunk_start d t)) (
      (λ both. let low : s ≤ℤ t = grind (arith, ints) in let high : t <ℤ (s +ℤ d) = grind (arith, ints) in same_chunk d s t positive whole low high),
      (λ same. let low : s ≤ℤ t = omega (arith, ints) in let high : t <ℤ (s +ℤ d) = omega (arith, ints) in grind (arith, ints)),
    )
    ((λ both. grind (arith, ints)), (λ same. grind (arith, ints)))

-- the end of a chunk is a number of 64 bits
pub end_fits : (d s : ℤ) → IsInterval d → IsStart d s → FitsSigned w64 (s +ℤ d)
end_fits d s wide start =
    let one : pos 1 ≤ℤ d = wide.0 in
    let most : d ≤ℤ pos (2 ^ 50) = wide.1 in
    let positive : pos 0 <ℤ d = omega (arith, ints) in
    let bounds = remainder_bounds start.time d positive in
    let from_zero : pos 0 ≤ℤ int_rem_euclid start.time d = bounds.0 in
    let below_step : int_rem_euclid start.time d <ℤ d = bounds.1 in
    let is : s ≡ start.time -ℤ int_rem_euclid start.time d = start.begins in
    let low : min_time ≤ℤ start.time = grind (arith, ints, start.is) in
    let high : start.time ≤ℤ max_time = grind (arith, ints, start.is) in
    let least : negsuc (2 ^ 63 - 1) ≤ℤ (s +ℤ d) = omega (arith, ints) in
    let greatest : (s +ℤ d) ≤ℤ pos (2 ^ 63 - 1) = omega (arith, ints) in
    fits (s +ℤ d) least greatest
  where
    fits : (z : ℤ) → negsuc (2 ^ 63 - 1) ≤ℤ z → z ≤ℤ pos (2 ^ 63 - 1) → FitsSigned w64 z
    fits (pos n) low high = record { sfits = omega (arith, ints, high) }
    fits (negsuc n) low high = record { sfits = omega (arith, ints, low) }
