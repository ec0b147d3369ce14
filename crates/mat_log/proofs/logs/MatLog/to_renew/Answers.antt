-- The snapshot becomes the last refresh unless that is above it.
use Rattle.std.proofs.Common.{◌≡◌, ◌∙◌, ℤ, ℕ, Option, None, cond, ap, subst}
use Rattle.ts_bucket.specs.Spans.{in_span}
use Rattle.span_map.specs.Combined.{combined_by}
use Rattle.span_map.specs.declared.rules.Rule.TheVariants.{NotBelow}
use Rattle.span_map.specs.Maps.{at}
use Rattle.mat_log.specs.Logs.{LogValue, IsInStep, pending_at, last_at}
use Rattle.mat_log.proofs.RangeLaws.{renewed_as}
use Rattle.mat_log.proofs.logs.MatLog.to_renew.Goals as goal

pub returns : goal.returns
returns c =
    let log = c.args.self.now in
    let in_it : ℤ → Option ℕ → Option ℕ = λ t v. cond (in_span c.args.span t) v None in
    let Step : LogValue → Type 0 = λ l. IsInStep l.width (pending_at l) (last_at l) in
    let Lasts : LogValue → Type 0 = λ l. (t : ℤ) → at c.in_ok-refreshed.refreshed t ≡ cond (in_span c.args.span t) (last_at l t) None in
    let lasts : Lasts log = subst Lasts c.self.view_is (λ t. c.in_ok-refreshed.ensures.values t) in
    record {
      ranges = renewed_as log c.args.span c.args.ranges.now c.args.snap (at c.in_ok-renewed.renewed) c.in_ok-ranges.field-0 c.join_pieces.result (subst Step c.self.view_is c.self.invariant) c.requires.whole c.requires.ranges
          (λ t. c.in_ok-renewed.ensures.values t ∙ ap (λ v. combined_by NotBelow v (at c.in_ok-all.all t)) (lasts t) ∙ ap (combined_by NotBelow (cond (in_span c.args.span t) (last_at log t) None)) (c.in_ok-all.ensures t))
          c.in_ok-ranges.ensures.values c.in_ok-ranges.ensures.rising c.join_pieces.ensures;
    }
