-- The span ends at the lesser of its end and the mark, if that is above its start.
use Rattle.std.proofs.Common.{◌≡◌, ◌∙◌, ℤ, ◌&&◌, refl, ap, sym, FitsSigned, arith, rules}
use Rattle.std.specs.Int.{w64, cast_signed, cast_unsigned, int_min, int_max}
use Rattle.std.proofs.lemmas.Int.{ints}
use Rattle.ts_bucket.specs.Spans.{SpanValue, in_span}
use Rattle.ts_bucket.specs.WholeSpans.{is_below}
use Rattle.mat_log.proofs.BelowLaws.{below_mark}
use Rattle.mat_log.proofs.spans.span_below.Goals as goal

cast_is : (x v : ℤ) → v ≡ x → FitsSigned w64 v → cast_signed w64 (cast_unsigned w64 v) ≡ x
cast_is x v same fits =
    let plain : cast_signed w64 (cast_unsigned w64 v) ≡ v = omega (arith, ints) in
    plain ∙ same

pub returns-in-Some : goal.returns-in-Some
returns-in-Some c = λ b.
    let low = cast_is c.args.starts.lo c.starts.inside.lo (ap (λ (s : SpanValue). s.lo) c.starts.view_is) (search rules) in
    let high = cast_is c.args.starts.hi c.starts.inside.hi (ap (λ (s : SpanValue). s.hi) c.starts.view_is) (search rules) in
    let mark = cast_is c.in-Some.mark c.in-Some.mark refl (search rules) in
    let lesser = cast_is (int_min c.args.starts.hi c.in-Some.mark) c.min.result (c.min.ensures.value ∙ ap (λ x. int_min x (cast_signed w64 (cast_unsigned w64 c.in-Some.mark))) high ∙ ap (int_min c.args.starts.hi) mark) (search rules) in
    let greater = cast_is (int_max (cast_signed w64 (cast_unsigned w64 c.min.result)) c.args.starts.lo) c.max.result (c.max.ensures.value ∙ ap (int_max (cast_signed w64 (cast_unsigned w64 c.min.result))) low) (search rules) in
    let span : ℤ → SpanValue = λ x. record { lo = x; hi = cast_signed w64 (cast_unsigned w64 c.max.result) } in
    ap (λ x. in_span (span x) b) low
    ∙ below_mark c.args.starts.lo c.args.starts.hi c.in-Some.mark (cast_signed w64 (cast_unsigned w64 c.min.result)) (cast_signed w64 (cast_unsigned w64 c.max.result)) b lesser greater
    ∙ ap (λ o. in_span c.args.starts b && is_below b o) (sym c.in-Some.is)
