-- The numbers below the mark are in the range of buckets.
use Rattle.std.proofs.Common.{◌∙◌}
use Rattle.ts_bucket.specs.Spans.{in_span}
use Rattle.mat_log.proofs.BelowLaws.{below_in_range}
use Rattle.mat_log.proofs.spans.buckets_below.Goals as goal

pub returns-clause-exact : goal.returns-clause-exact
returns-clause-exact c = λ b q f. c.buckets_in.ensures.exact b q ∙ below_in_range c.args.w c.args.mark (in_span c.args.starts b) (in_span c.span_below.result b) b c.buckets_in.ensures.bounds c.requires f (c.span_below.ensures b)
