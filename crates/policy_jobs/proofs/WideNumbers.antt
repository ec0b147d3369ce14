-- Numbers of 64 bits in 128 bits, and their sums and differences.
use Rattle.std.proofs.Common.{◌≡◌, ◌+ℤ◌, ◌-ℤ◌, ℤ, FitsSigned, arith, of_z, to_z, w64}
use Rattle.std.proofs.lemmas.Int.{ints}
use mir.Syntax.{w128}

-- a number in 128 bits
abbrev pub wide : ℤ → ℤ
wide z = to_z w128 (of_z w128 (to_z w64 (of_z w64 z)))

pub same : (z : ℤ) → FitsSigned w64 z → wide z ≡ z
same z f = omega (arith, ints)

pub sum_of : (a b : ℤ) → FitsSigned w64 a → FitsSigned w64 b → to_z w128 (of_z w128 (wide a +ℤ wide b)) ≡ a +ℤ b
sum_of a b f g = omega (arith, ints)

pub difference : (a b : ℤ) → FitsSigned w64 a → FitsSigned w64 b → to_z w128 (of_z w128 (wide a -ℤ wide b)) ≡ a -ℤ b
difference a b f g = omega (arith, ints)
