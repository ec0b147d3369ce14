-- The quotient of the code is the whole numbers' quotient, since a divisor of 1 or more makes no number too large.
use Rattle.std.proofs.Common.{◌≡◌, ◌<◌, pos, arith, rules, ap, ◌∙◌}
use Rattle.std.specs.Prelude.{◌<ℤ◌, unsigned_abs}
use Rattle.std.specs.Int.{IsGcd, w128, cast_signed, cast_unsigned}
use Rattle.std.specs.Int.RustNames.{int_div, FitsSigned}
use Rattle.std.proofs.lemmas.Int.{ints, to_z-of_z, quot_is, quot_fits}
use Rattle.ts_num.proofs.Divisors.{gcd_positive}
use Rattle.ts_num.proofs.LowestTerms.{divided_is_lowest, divided_is_lowest_terms}
use Rattle.ts_num.proofs.fractions.lowest.Goals as goal
use Rattle.ts_num.proofs.fractions.lowest.Goals.{After-from}

common : (c : After-from) → IsGcd (unsigned_abs c.args.sum) c.args.count c.common_divisor-common.result
common c =
    let fits : FitsSigned w128 c.args.sum = c.ranges.sum in
    let abs : c.unsigned_abs.result ≡ unsigned_abs c.args.sum = simp to_z-of_z at c.unsigned_abs.ensures.value in
    rw abs at c.common_divisor-common.ensures

positive : (c : After-from) → 0 < c.common_divisor-common.result
positive c = gcd_positive (unsigned_abs c.args.sum) c.args.count c.common_divisor-common.result c.requires (common c)

above : (c : After-from) → pos 0 <ℤ c.from.result
above c = let some = positive c in rw c.from.ensures (omega (arith, ints))

fits_divisor : (c : After-from) → FitsSigned w128 c.from.result
fits_divisor c = search rules

quotient : (c : After-from) → cast_signed w128 (cast_unsigned w128 (int_div (cast_signed w128 (cast_unsigned w128 c.args.sum)) (cast_signed w128 (cast_unsigned w128 c.from.result)))) ≡ int_div c.args.sum (pos c.common_divisor-common.result)
quotient c = quot_is w128 c.args.sum c.from.result c.ranges.sum (fits_divisor c) (quot_fits w128 _ _ c.ranges.sum (above c)) ∙ ap (λ d. int_div c.args.sum d) c.from.ensures

pub nonzero_div-result : goal.nonzero_div-result
nonzero_div-result c =
    let sum : cast_signed w128 (cast_unsigned w128 c.args.sum) ≡ c.args.sum = to_z-of_z w128 c.args.sum c.ranges.sum in
    let divisor : cast_signed w128 (cast_unsigned w128 c.from.result) ≡ c.from.result = to_z-of_z w128 c.from.result (fits_divisor c) in
    (rw c.from.ensures (positive c), rw (sum, divisor) (quot_fits w128 c.args.sum c.from.result c.ranges.sum (above c)))

pub nonzero_div-result-2 : goal.nonzero_div-result-2
nonzero_div-result-2 c = positive c

pub returns-clause-lowest : goal.returns-clause-lowest
returns-clause-lowest c = rw (quotient c) (divided_is_lowest c.args.sum c.args.count _ c.requires (common c))

pub returns-clause-exact : goal.returns-clause-exact
returns-clause-exact c = rw (quotient c) (divided_is_lowest_terms c.args.sum c.args.count _ c.requires (common c))
