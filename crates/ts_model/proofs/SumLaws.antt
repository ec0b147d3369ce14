-- Sums fit 128 bits under the limits.
use Rattle.std.proofs.Common.{◌*◌, ◌^◌, List, [], ◌∷◌, length, ℤ, pos, neg_ℤ, ◌≤ℤ◌, arith}
use Rattle.std.specs.List.{AllByRecursion}
use Rattle.std.proofs.lemmas.Int.{ints}
use Rattle.ts_num.specs.Aggregates.{sum_of}
use Rattle.ts_model.specs.Laws.{IsWord, SumsFit}

pub sum_bounds : (vs : List ℤ) → AllByRecursion IsWord vs → (neg_ℤ (pos (2 ^ 63 * length vs)) ≤ℤ sum_of vs) × (sum_of vs ≤ℤ pos (2 ^ 63 * length vs))
sum_bounds [] w = (omega (arith, ints), omega (arith, ints))
sum_bounds (v ∷ vs) w =
    let rest = sum_bounds vs w.1 in
    let low = rest.0 in
    let high = rest.1 in
    let word = w.0 in
    (omega (arith, ints), omega (arith, ints))

pub sums_fit : SumsFit
sums_fit vs w few =
    let bounds = sum_bounds vs w in
    let low = bounds.0 in
    let high = bounds.1 in
    (omega (arith, ints), omega (arith, ints))
