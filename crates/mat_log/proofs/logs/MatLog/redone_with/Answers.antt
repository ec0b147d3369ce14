-- The pending pieces within the span, joined with the last refreshes above the snapshot.
use Rattle.std.proofs.Common.{◌≡◌, ◌∙◌, ℤ, ◌≤ℤ◌, ℕ, Option, None, cond, ap, subst, arith}
use Rattle.std.proofs.lemmas.Int.{ints}
use Rattle.ts_bucket.specs.Positions.{above}
use Rattle.ts_bucket.specs.Spans.{SpanValue, in_span}
use Rattle.ts_bucket.specs.WholeSpans.{greatest}
use Rattle.span_map.specs.Maps.{at}
use Rattle.mat_log.specs.Logs.{LogValue, IsInStep, pending_at, last_at}
use Rattle.mat_log.proofs.RangeLaws.{cut_above, redone_with_as}
use Rattle.mat_log.proofs.logs.MatLog.redone_with.Goals as goal

pub returns : goal.returns
returns c =
    let hi : c.span.inside.hi ≡ c.args.span.hi = ap (λ (s : SpanValue). s.hi) c.span.view_is in
    let end : c.args.span.hi ≤ℤ greatest = omega (arith, ints) in
    let log = c.args.self.now in
    let in_it : ℤ → Option ℕ → Option ℕ = λ t v. cond (in_span c.args.span t) v None in
    let Step : LogValue → Type 0 = λ l. IsInStep l.width (pending_at l) (last_at l) in
    let Lasts : LogValue → Type 0 = λ l. (t : ℤ) → at c.reserve.new.self t ≡ cond (in_span c.args.span t) (last_at l t) None in
    let lasts : Lasts log = subst Lasts c.self.view_is (λ t. c.reserve.ensures.values t ∙ c.in_ok-refreshed.ensures.values t) in
    let left : (t : ℤ) → at c.clear_upto.new.self t ≡ cond (in_span c.args.span t) (above c.args.snap (last_at log t)) None =
    λ t. c.clear_upto.ensures.values t ∙ (ap (λ v. cond (in_span c.args.span t) (above c.args.snap v) v) (lasts t) ∙ cut_above (in_span c.args.span t) c.args.snap (last_at log t)) in
    record {
      ranges = redone_with_as log c.args.entries.now.items c.args.snap c.args.span (at c.in_ok-redone.redone) (at c.in_ok-pending.pending) (at c.clear_upto.new.self) c.in_ok-ranges.field-0 c.join_pieces.result (subst Step c.self.view_is c.self.invariant) c.requires.whole end c.in_ok-pending.ensures.values left c.in_ok-redone.ensures.values c.in_ok-ranges.ensures.values c.in_ok-ranges.ensures.rising c.join_pieces.ensures;
    }
