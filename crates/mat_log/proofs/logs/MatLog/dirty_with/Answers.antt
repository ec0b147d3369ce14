-- The pending pieces within the span, joined, are the ranges of its dirty buckets.
use Rattle.std.proofs.Common.{◌≡◌, ◌≤ℤ◌, ap, subst, arith}
use Rattle.std.proofs.lemmas.Int.{ints}
use Rattle.ts_bucket.specs.Spans.{SpanValue}
use Rattle.ts_bucket.specs.WholeSpans.{greatest}
use Rattle.span_map.specs.Maps.{at}
use Rattle.mat_log.specs.Logs.{LogValue, IsInStep, pending_at, last_at}
use Rattle.mat_log.proofs.RangeLaws.{dirty_with_as}
use Rattle.mat_log.proofs.logs.MatLog.dirty_with.Goals as goal

pub returns : goal.returns
returns c =
    let hi : c.span.inside.hi ≡ c.args.span.hi = ap (λ (s : SpanValue). s.hi) c.span.view_is in
    let end : c.args.span.hi ≤ℤ greatest = omega (arith, ints) in
    let log = c.args.self.now in
    let Step : LogValue → Type 0 = λ l. IsInStep l.width (pending_at l) (last_at l) in
    record {
      ranges = dirty_with_as log c.args.entries.now.items c.args.span (at c.in_ok-pending.pending) c.in_ok-ranges.field-0 c.join_pieces.result (subst Step c.self.view_is c.self.invariant) c.requires.whole end c.in_ok-pending.ensures.values c.in_ok-ranges.ensures.values c.in_ok-ranges.ensures.rising c.join_pieces.ensures;
    }
