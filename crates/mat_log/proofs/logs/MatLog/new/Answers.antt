-- All buckets are pending, and none was refreshed.
use Rattle.std.proofs.Common.{◌≡◌, ◌∙◌, ℤ, Some, None, cond, ap}
use Rattle.ts_bucket.specs.Spans.{SpanValue, in_span}
use Rattle.span_map.specs.Maps.{at}
use Rattle.ts_bucket.specs.WholeSpans.{whole_span}
use Rattle.mat_log.proofs.StepLaws.{in_step-new}
use Rattle.mat_log.proofs.logs.MatLog.new.Goals as goal

pub invariant_of-result : goal.invariant_of-result
invariant_of-result c =
    let pending : (t : ℤ) → at c.in_ok-of.field-0 t ≡ cond (in_span (whole_span c.args.w) t) (Some c.args.made) None = λ t.
    c.in_ok-of.ensures.values t
    ∙ c.assign.ensures.values t
    ∙ ap (λ (s : SpanValue). cond (in_span s t) (Some c.args.made) (at c.reserve.new.self t)) c.all_buckets.ensures.value
    ∙ ap (λ v. cond (in_span (whole_span c.args.w) t) (Some c.args.made) v) (c.reserve.ensures.values t ∙ c.new-pending.ensures.values t)
    in
    in_step-new c.args.w (at c.in_ok-of.field-0) (at c.in_ok-of-2.field-0) c.args.made c.all_buckets.ensures.bounds pending (λ t. c.in_ok-of-2.ensures.values t ∙ c.new.ensures.values t)
