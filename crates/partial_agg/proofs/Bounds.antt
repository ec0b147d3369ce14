-- What is true of every partial aggregate is true of two joined.
use Rattle.std.proofs.Common.{ℕ, ◌+◌, ◌<◌, ◌^◌, ℤ, pos, negsuc, arith}
use Rattle.std.specs.Prelude.{◌+ℤ◌}
use Rattle.std.specs.Int.{w64, w128}
use Rattle.std.specs.Int.RustNames.{FitsSigned}
use Rattle.std.proofs.lemmas.Int.{ints}
use Rattle.partial_agg.specs.Summaries.{IsBounded}

pub bounded_join : (a b c d : ℕ) (s t : ℤ) → IsBounded a b s → IsBounded c d t → a + c < 2 ^ 62 → IsBounded (a + c) (b + d) (s +ℤ t)
bounded_join a b c d s t x y room = record {
  counted = omega (arith, x.counted, y.counted);
  fewer = room;
  low = omega (arith, ints, x.low, y.low);
  high = omega (arith, ints, x.high, y.high);
}

pub bounded_fits : (a b : ℕ) (s : ℤ) → IsBounded a b s → FitsSigned w128 s
bounded_fits a b (pos n) x = omega (arith, ints, x.high, x.fewer, x.counted)
bounded_fits a b (negsuc n) x = omega (arith, ints, x.low, x.fewer, x.counted)

pub bounded_one : (v : ℤ) → FitsSigned w64 v → IsBounded 1 1 v
bounded_one v fits = record {
  counted = omega arith;
  fewer = omega arith;
  low = omega (arith, ints, fits);
  high = omega (arith, ints, fits);
}
