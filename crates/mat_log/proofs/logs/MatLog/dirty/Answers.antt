-- The pending pieces within the span, joined, are the ranges of its dirty buckets.
use Rattle.std.proofs.Common.{◌≡◌, ◌∙◌, ◌≤ℤ◌, None, cond, IfOk, ap, sym, subst, arith}
use Rattle.std.proofs.lemmas.Int.{ints}
use Rattle.ts_bucket.specs.Spans.{SpanValue, in_span}
use Rattle.span_map.specs.Maps.{at}
use Rattle.ts_bucket.specs.WholeSpans.{IsWholeSpan, greatest}
use Rattle.mat_log.specs.Logs.{LogValue, is_dirty}
use Rattle.ts_bucket.specs.Ranges.{AreRanges}
use Rattle.mat_log.proofs.RangeLaws.{dirty_as}
use Rattle.mat_log.proofs.logs.MatLog.dirty.Goals as goal

pub returns : goal.returns
returns c =
    let hi : c.span.inside.hi ≡ c.args.span.hi = ap (λ (s : SpanValue). s.hi) c.span.view_is in
    let end : c.args.span.hi ≤ℤ greatest = omega (arith, ints) in
    let whole : IsWholeSpan c.self.inside.width c.args.span = subst (λ (log : LogValue). IsWholeSpan log.width c.args.span) (sym c.self.view_is) c.requires in
    record {
      ranges = subst (λ (log : LogValue). IfOk c.join_pieces.result (AreRanges log.width c.args.span (is_dirty log))) c.self.view_is
          (dirty_as c.self.inside.width (at c.self.inside.pending) (at c.self.inside.refreshed) c.args.span c.in_ok-ranges.field-0 c.join_pieces.result c.self.invariant whole end c.in_ok-ranges.ensures.values c.in_ok-ranges.ensures.rising c.join_pieces.ensures);
    }
