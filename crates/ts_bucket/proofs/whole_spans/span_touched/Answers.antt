-- The hull's ends are in its first and its last bucket.
use Rattle.std.proofs.Common.{◌≡◌, ◌∙◌, ℤ, ◌+ℤ◌, ◌≤ℤ◌, ap, FitsSigned, arith, rules}
use Rattle.std.specs.Int.{w64, cast_signed, cast_unsigned}
use Rattle.std.proofs.lemmas.Int.{ints}
use Rattle.ts_bucket.specs.Bucket.{WidthValue, bucket_of}
use Rattle.ts_bucket.specs.Spans.{SpanValue, HullValue}
use Rattle.ts_bucket.specs.WholeSpans.{greatest}
use Rattle.ts_bucket.proofs.WholeSpanLaws.{touched_ordered}
use Rattle.ts_bucket.proofs.whole_spans.span_touched.Goals as goal

lo_is : (c : goal.After-bucket_start-2) → cast_signed w64 (cast_unsigned w64 c.bucket_start.result) ≡ bucket_of c.args.w c.args.hull.least
lo_is c =
    let least : c.hull.inside.least ≡ c.args.hull.least = ap (λ (h : HullValue). h.least) c.hull.view_is in
    let fits : FitsSigned w64 c.bucket_start.result = search rules in
    let plain : cast_signed w64 (cast_unsigned w64 c.bucket_start.result) ≡ c.bucket_start.result = omega (arith, ints) in
    plain ∙ c.bucket_start.ensures.value ∙ ap (bucket_of c.args.w) (omega (arith, ints))

hi_is : (c : goal.After-bucket_start-2) → cast_signed w64 (cast_unsigned w64 (cast_signed w64 (cast_unsigned w64 c.bucket_start-2.result) +ℤ cast_signed w64 (cast_unsigned w64 c.w.inside.step))) ≡ bucket_of c.args.w c.args.hull.most +ℤ c.args.w.step
hi_is c =
    let most : c.hull.inside.most ≡ c.args.hull.most = ap (λ (h : HullValue). h.most) c.hull.view_is in
    let step : c.w.inside.step ≡ c.args.w.step = ap (λ (v : WidthValue). v.step) c.w.view_is in
    let fits : FitsSigned w64 c.bucket_start-2.result = search rules in
    let last : c.bucket_start-2.result ≡ bucket_of c.args.w c.args.hull.most = c.bucket_start-2.ensures.value ∙ ap (bucket_of c.args.w) (omega (arith, ints)) in
    let end : (bucket_of c.args.w c.args.hull.most +ℤ c.args.w.step) ≤ℤ greatest = c.requires.ends in
    omega (arith, ints)

pub invariant_of-result : goal.invariant_of-result
invariant_of-result c =
    let full : c.args.hull.least ≤ℤ c.args.hull.most = (let least : c.hull.inside.least ≡ c.args.hull.least = ap (λ (h : HullValue). h.least) c.hull.view_is in let most : c.hull.inside.most ≡ c.args.hull.most = ap (λ (h : HullValue). h.most) c.hull.view_is in omega (arith, ints)) in
    let ordered : bucket_of c.args.w c.args.hull.least ≤ℤ (bucket_of c.args.w c.args.hull.most +ℤ c.args.w.step) = touched_ordered c.args.w c.args.hull c.bucket_start.ensures.bounds full in
    let lo = lo_is c in
    let hi = hi_is c in
    omega (arith, ints)

pub returns-clause-value : goal.returns-clause-value
returns-clause-value c =
    let span : ℤ → ℤ → SpanValue = λ x y. record { lo = x; hi = y } in
    ap (λ x. span x (cast_signed w64 (cast_unsigned w64 (cast_signed w64 (cast_unsigned w64 c.bucket_start-2.result) +ℤ cast_signed w64 (cast_unsigned w64 c.w.inside.step))))) (lo_is c)
    ∙ ap (λ y. span (bucket_of c.args.w c.args.hull.least) y) (hi_is c)
