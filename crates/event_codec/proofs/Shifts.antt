-- Numbers without their lowest byte, as the code computes them.
use Rattle.std.proofs.Common.{◌≡◌, ℕ, ◌-◌, ◌<◌, ◌^◌, ℤ, pos, negsuc, ◌+ℤ◌, ◌-ℤ◌, ◌≤ℤ◌, refl, sym, subst, arith}
use Rattle.std.proofs.lemmas.Int.{ints, to_z_pos}
use lib.Signed.{shr_z}
use mir.Syntax.{w128}
use mir.Val.{of_z, to_z}
use Rattle.event_codec.specs.Reading.{IsNear, without_low, least_above, most_below}

shifted : (z : ℤ) → shr_z z 256 ≡ without_low z
shifted (pos n) = refl
shifted (negsuc n) = refl

-- a number a little farther from 0
record IsNearly (z : ℤ) : Type 0 where
  pub low : negsuc (2 ^ 66) ≤ℤ z
  pub high : z ≤ℤ pos (2 ^ 66)

nearer : (z : ℤ) → IsNearly z → IsNear (without_low z)
nearer (pos n) h = record { low = omega (arith, ints); high = omega (arith, ints, h.high) }
nearer (negsuc n) h = record { low = omega (arith, ints, h.low); high = omega (arith, ints) }

-- a number as it is read
abbrev pub read_again : ℤ → ℤ
read_again z = to_z w128 (of_z w128 z)

kept : (z : ℤ) → IsNearly z → to_z w128 (of_z w128 z) ≡ z
kept z h = omega (arith, ints, h.low, h.high)

pub near_kept : (z : ℤ) → IsNear z → to_z w128 (of_z w128 z) ≡ z
near_kept z h = omega (arith, ints, h.low, h.high)

abbrev pub least_computed : ℤ → ℕ → ℤ
least_computed z b = to_z w128 (of_z w128 (shr_z (to_z w128 (of_z w128 (to_z w128 (of_z w128 z) +ℤ to_z w128 (of_z w128 (pos 255 -ℤ to_z w128 b))))) 256))

abbrev pub most_computed : ℤ → ℕ → ℤ
most_computed z b = to_z w128 (of_z w128 (shr_z (to_z w128 (of_z w128 (to_z w128 (of_z w128 z) -ℤ to_z w128 b))) 256))

above_near : (z : ℤ) (b : ℕ) → b < 256 → IsNear z → IsNearly (z +ℤ pos (255 - b))
above_near z b small h = record { low = omega (arith, ints, h.low); high = omega (arith, ints, h.high) }

below_near : (z : ℤ) (b : ℕ) → b < 256 → IsNear z → IsNearly (z -ℤ pos b)
below_near z b small h = record { low = omega (arith, ints, h.low); high = omega (arith, ints, h.high) }

pub least_bounded : (z : ℤ) (b : ℕ) → b < 256 → IsNear z → IsNear (least_above z b)
least_bounded z b small h = nearer (z +ℤ pos (255 - b)) (above_near z b small h)

pub most_bounded : (z : ℤ) (b : ℕ) → b < 256 → IsNear z → IsNear (most_below z b)
most_bounded z b small h = nearer (z -ℤ pos b) (below_near z b small h)

pub least_shifted : (z : ℤ) (b : ℕ) → b < 256 → IsNear z → least_computed z b ≡ least_above z b
least_shifted z b small h =
    let byte : to_z w128 b ≡ pos b = to_z_pos w128 b (omega arith) in
    let up : to_z w128 (of_z w128 (pos 255 -ℤ pos b)) ≡ pos (255 - b) = omega (arith, ints) in
    let whole = near_kept z h in
    let sum = kept (z +ℤ pos (255 - b)) (above_near z b small h) in
    let shift = shifted (z +ℤ pos (255 - b)) in
    let last = near_kept (without_low (z +ℤ pos (255 - b))) (least_bounded z b small h) in
    cc

pub most_shifted : (z : ℤ) (b : ℕ) → b < 256 → IsNear z → most_computed z b ≡ most_below z b
most_shifted z b small h =
    let byte : to_z w128 b ≡ pos b = to_z_pos w128 b (omega arith) in
    let whole = near_kept z h in
    let sum = kept (z -ℤ pos b) (below_near z b small h) in
    let shift = shifted (z -ℤ pos b) in
    let last = near_kept (without_low (z -ℤ pos b)) (most_bounded z b small h) in
    cc

pub least_near : (z : ℤ) (b : ℕ) → b < 256 → IsNear z → IsNear (least_computed z b)
least_near z b small h = subst IsNear (sym (least_shifted z b small h)) (least_bounded z b small h)

pub most_near : (z : ℤ) (b : ℕ) → b < 256 → IsNear z → IsNear (most_computed z b)
most_near z b small h = subst IsNear (sym (most_shifted z b small h)) (most_bounded z b small h)

pub near_again : (z : ℤ) → IsNear z → IsNear (read_again z)
near_again z h = subst IsNear (sym (near_kept z h)) h
