-- The starts between two numbers are those from the first start at or above the one to that of the other.
use Rattle.std.proofs.Common.{◌∙◌, ◌≤ℤ◌, ap, sym, subst, arith}
use Rattle.std.specs.Int.{w64, cast_signed, cast_unsigned}
use Rattle.std.proofs.lemmas.Int.{ints, to_z-of_z}
use Rattle.ts_bucket.specs.Bucket.{first_of}
use Rattle.ts_bucket.specs.Spans.{SpanValue, in_span}
use Rattle.ts_bucket.specs.WholeSpans.{IsWholeSpan}
use Rattle.ts_bucket.proofs.WholeSpanLaws.{starts_whole, starts_exact, none_whole, none_between}
use Rattle.ts_bucket.proofs.whole_spans.buckets_between.Goals as goal

pub returns-then-from-to-clause-whole : goal.returns-then-from-to-clause-whole
returns-then-from-to-clause-whole c =
    let low : first_of c.args.w ≤ℤ cast_signed w64 (cast_unsigned w64 c.args.from) = omega (arith, ints) in
    subst (IsWholeSpan c.args.w) (sym c.starts_between.ensures.value) (starts_whole c.args.w _ _ c.starts_between.ensures.bounds low)

pub returns-then-from-to-clause-exact : goal.returns-then-from-to-clause-exact
returns-then-from-to-clause-exact c = λ b p.
    ap (λ (s : SpanValue). in_span s b) c.starts_between.ensures.value
    ∙ starts_exact c.args.w _ _ b c.starts_between.ensures.bounds p
    ∙ ap (λ x. in_span (record { lo = x; hi = cast_signed w64 (cast_unsigned w64 c.args.to) }) b) (to_z-of_z w64 c.args.from c.ranges.from)
    ∙ ap (λ x. in_span (record { lo = c.args.from; hi = x }) b) (to_z-of_z w64 c.args.to c.ranges.to)

pub returns-else-from-to-clause-whole : goal.returns-else-from-to-clause-whole
returns-else-from-to-clause-whole c = subst (IsWholeSpan c.args.w) (sym c.no_buckets.ensures.value) (none_whole c.args.w c.no_buckets.ensures.bounds)

pub returns-else-from-to-clause-exact : goal.returns-else-from-to-clause-exact
returns-else-from-to-clause-exact c = λ b p.
    let above : c.args.to ≤ℤ c.args.from = grind (arith, ints) in
    ap (λ (s : SpanValue). in_span s b) c.no_buckets.ensures.value
    ∙ none_between c.args.from c.args.to (first_of c.args.w) b above
