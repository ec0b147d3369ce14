use Rattle.std.proofs.Common.{◌≤ℤ◌, subst}
use Rattle.ts_bucket.specs.Spans.{SpanValue}
use Rattle.engine_state.proofs.PartedLaws.{pushed}
use Rattle.engine_state.proofs.chunk_parts.+push_parts.Goals as goal

pub returns-then-cuts-eq0 : goal.returns-then-cuts-eq0
returns-then-cuts-eq0 t c =
    let rises : c.args.span.lo ≤ℤ c.args.span.hi = subst (λ (s : SpanValue). s.lo ≤ℤ s.hi) c.span.view_is c.span.invariant in
    λ lo chained. pushed c.push.result lo c.args.span c.args.into.now c.push.new.self rises c.push.ensures.pushed chained

pub returns-in-None : goal.returns-in-None
returns-in-None t c =
    let rises : c.args.span.lo ≤ℤ c.args.span.hi = subst (λ (s : SpanValue). s.lo ≤ℤ s.hi) c.span.view_is c.span.invariant in
    λ lo chained. pushed c.push-in-None.result lo c.args.span c.args.into.now c.push-in-None.new.self rises c.push-in-None.ensures.pushed chained
