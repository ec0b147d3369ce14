-- The starts keep the order of the numbers.
use Rattle.std.proofs.Common.{◌≡◌, ◌∙◌, ℤ, ◌≤ℤ◌, ap, FitsSigned, arith, rules}
use Rattle.std.specs.Int.{w64, cast_signed, cast_unsigned}
use Rattle.std.proofs.lemmas.Int.{ints}
use Rattle.ts_bucket.specs.Spans.{SpanValue}
use Rattle.ts_bucket.specs.Windows.{start_from}
use Rattle.ts_bucket.proofs.WholeSpanLaws.{starts_ordered}
use Rattle.ts_bucket.proofs.whole_spans.starts_between.Goals as goal

lo_is : (c : goal.After-next_start-2) → cast_signed w64 (cast_unsigned w64 c.next_start.result) ≡ start_from c.args.w c.args.from
lo_is c =
    let fits : FitsSigned w64 c.next_start.result = search rules in
    let from : FitsSigned w64 c.args.from = c.ranges.from in
    let plain : cast_signed w64 (cast_unsigned w64 c.next_start.result) ≡ c.next_start.result = omega (arith, ints) in
    plain ∙ c.next_start.ensures.value ∙ ap (start_from c.args.w) (omega (arith, ints))

hi_is : (c : goal.After-next_start-2) → cast_signed w64 (cast_unsigned w64 c.next_start-2.result) ≡ start_from c.args.w c.args.to
hi_is c =
    let fits : FitsSigned w64 c.next_start-2.result = search rules in
    let to : FitsSigned w64 c.args.to = c.ranges.to in
    let plain : cast_signed w64 (cast_unsigned w64 c.next_start-2.result) ≡ c.next_start-2.result = omega (arith, ints) in
    plain ∙ c.next_start-2.ensures.value ∙ ap (start_from c.args.w) (omega (arith, ints))

pub invariant_of-result : goal.invariant_of-result
invariant_of-result c =
    let lo = lo_is c in
    let hi = hi_is c in
    let ordered : start_from c.args.w c.args.from ≤ℤ start_from c.args.w c.args.to = starts_ordered c.args.w c.args.from c.args.to c.next_start.ensures.bounds c.requires.order in
    omega (arith, ints)

pub returns-clause-value : goal.returns-clause-value
returns-clause-value c =
    let span : ℤ → ℤ → SpanValue = λ x y. record { lo = x; hi = y } in
    ap (λ x. span x (cast_signed w64 (cast_unsigned w64 c.next_start-2.result))) (lo_is c) ∙ ap (λ y. span (start_from c.args.w c.args.from) y) (hi_is c)
