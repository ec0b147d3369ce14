-- The pending pieces with a last refresh, joined, are the ranges of the changed buckets.
use Rattle.std.proofs.Common.{◌≡◌, ◌∙◌, ℤ, None, cond, ap, subst}
use Rattle.ts_bucket.specs.Spans.{in_span}
use Rattle.span_map.specs.Maps.{at}
use Rattle.mat_log.specs.Logs.{LogValue, IsInStep, pending_at, last_at}
use Rattle.mat_log.proofs.RangeLaws.{changed_with_as}
use Rattle.mat_log.proofs.logs.MatLog.changed_with.Goals as goal

pub returns : goal.returns
returns c =
    let log = c.args.self.now in
    let Step : LogValue → Type 0 = λ l. IsInStep l.width (pending_at l) (last_at l) in
    let Lasts : LogValue → Type 0 = λ l. (t : ℤ) → at c.in_ok-refreshed.refreshed t ≡ cond (in_span c.args.span t) (last_at l t) None in
    let lasts : Lasts log = subst Lasts c.self.view_is (λ t. c.in_ok-refreshed.ensures.values t) in
    record {
      ranges = changed_with_as log c.args.entries.now.items c.args.span (at c.in_ok-changed.changed) (at c.in_ok-pending.pending) (at c.in_ok-refreshed.refreshed) c.in_ok-ranges.field-0 c.join_pieces.result (subst Step c.self.view_is c.self.invariant) c.requires.whole c.in_ok-pending.ensures.values lasts c.in_ok-changed.ensures.values c.in_ok-ranges.ensures.values c.in_ok-ranges.ensures.rising c.join_pieces.ensures;
    }
