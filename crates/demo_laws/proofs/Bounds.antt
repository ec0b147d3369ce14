-- The numbers of a demonstration are small.
use lib.Signed.{mag, ◌≤ℤ◌}
use Rattle.std.proofs.Common.{ℕ, ◌*◌, ◌%◌, ◌<◌, ◌≤◌, ◌^◌, ℤ, pos, negsuc, ◌-ℤ◌, nat_lt, arith}
use Rattle.std.proofs.lemmas.Bool.{cond_both}
use Rattle.std.proofs.lemmas.Int.{ints}
use Rattle.demo_script.specs.Demo.{number_of, time_of}
use Rattle.demo_laws.proofs.Rows.{IsSmall}

-- a number between two small ones is small
between : (z : ℤ) → negsuc 5000 ≤ℤ z → z ≤ℤ pos 1000000 → mag z < 2 ^ 62
between (pos n) low high = omega (arith, ints)
between (negsuc n) low high = omega (arith, ints)

-- a number below a million less 5,000
pub less_5000 : (n : ℕ) → n ≤ 1000000 → mag (pos n -ℤ pos 5000) < 2 ^ 62
less_5000 n small = between (pos n -ℤ pos 5000) (omega (arith, ints)) (omega (arith, ints))

time_small : (number place : ℕ) → number ≤ 100000 → mag (time_of number place) < 2 ^ 62
time_small number place small =
    cond_both (nat_lt place 490) (pos (10 * number)) (pos (10 * number) -ℤ pos 5000) (λ z. mag z < 2 ^ 62)
    (λ _. omega arith)
    (λ _. less_5000 (10 * number) (omega arith))

rest_small : (n : ℕ) → n % 1000 < 2 ^ 63
rest_small n = omega arith

-- the values of each row of the 40 rounds
pub rows_small : (demo round place : ℕ) → round < 40 → place < 500 → IsSmall demo round place
rows_small demo round place in_rounds in_round = record {
  time = time_small (number_of round place) place (omega arith);
  device = omega arith;
  value = rest_small (demo * number_of round place);
}
