-- All buckets of the span change in the same way.
use Rattle.std.proofs.Common.{sym, subst}
use Rattle.span_map.specs.Maps.{at}
use Rattle.ts_bucket.specs.WholeSpans.{IsWholeSpan}
use Rattle.mat_log.specs.Logs.{LogValue}
use Rattle.mat_log.proofs.StepLaws.{in_step-settled}
use Rattle.mat_log.proofs.logs.MatLog.with_refresh.Goals as goal

pub invariant_of-result : goal.invariant_of-result
invariant_of-result c =
    let whole : IsWholeSpan c.self.inside.width c.args.span = subst (λ (log : LogValue). IsWholeSpan log.width c.args.span) (sym c.self.view_is) c.requires.whole in
    in_step-settled c.self.inside.width (at c.self.inside.pending) (at c.self.inside.refreshed) (at c.in_ok-cleared_upto.field-0) (at c.in_ok-with_raised.field-0) c.args.span c.args.snap c.self.invariant whole.starts whole.ends c.in_ok-cleared_upto.ensures.values c.in_ok-with_raised.ensures.values
