-- What is pending is combined from what was never refreshed and what was touched.
use Rattle.std.proofs.Common.{◌≡◌, ◌∙◌, ℤ, Some, None, cond, sym, ap, refl}
use Rattle.std.specs.Prelude.{◌&&◌, is_none}
use Rattle.ts_bucket.specs.Ranges.{lies_in}
use Rattle.ts_bucket.specs.Spans.{in_span}
use Rattle.ts_bucket.specs.WholeSpans.{whole_span}
use Rattle.span_map.specs.Combined.{combined_by}
use Rattle.span_map.specs.declared.rules.Rule.TheVariants.{Above, Over}
use Rattle.span_map.specs.Maps.{MapValue, at}
use Rattle.span_map.specs.Pieces.{piece_at}
use Rattle.mat_log.proofs.LastLaws.{in_step-resumed, pending_resumed}
use Rattle.mat_log.proofs.logs.MatLog.from_lasts.Goals as goal

pub returns-clause-pending : goal.returns-clause-pending
returns-clause-pending c = λ t.
    c.in_ok-of.ensures.values t
    ∙ pending_resumed c.args.w c.args.lasts.now c.args.dirty.now c.args.pos c.all_buckets.result (at c.in_ok-refreshed.refreshed t) (at c.in_ok-never.never t) (at c.in_ok-pending.pending t) t c.all_buckets.ensures.value (c.in_ok-refreshed.ensures.values t)
    (c.in_ok-never.ensures.values t ∙ ap (combined_by Above (at c.in_ok-refreshed.refreshed t)) (c.in_ok-all.ensures t))
    (c.in_ok-pending.ensures.values t ∙ ap (combined_by Over (at c.in_ok-never.never t)) (c.in_ok-position_map.ensures t))

pub invariant_of-result : goal.invariant_of-result
invariant_of-result c =
    let refreshed : (t : ℤ) → at c.in_ok-of-2.field-0 t ≡ piece_at c.args.lasts.now t = λ t. c.in_ok-of-2.ensures.values t ∙ c.in_ok-refreshed.ensures.values t in
    let pending : (t : ℤ) → at c.in_ok-of.field-0 t ≡ cond (lies_in c.args.dirty.now t) (Some c.args.pos) (cond (in_span (whole_span c.args.w) t && is_none (piece_at c.args.lasts.now t)) (Some 0) None) = λ t.
    c.in_ok-of.ensures.values t
    ∙ pending_resumed c.args.w c.args.lasts.now c.args.dirty.now c.args.pos c.all_buckets.result (at c.in_ok-refreshed.refreshed t) (at c.in_ok-never.never t) (at c.in_ok-pending.pending t) t c.all_buckets.ensures.value (c.in_ok-refreshed.ensures.values t)
    (c.in_ok-never.ensures.values t ∙ ap (combined_by Above (at c.in_ok-refreshed.refreshed t)) (c.in_ok-all.ensures t))
    (c.in_ok-pending.ensures.values t ∙ ap (combined_by Over (at c.in_ok-never.never t)) (c.in_ok-position_map.ensures t)) in
    in_step-resumed c.args.w c.args.lasts.now c.args.dirty.now c.args.pos (at c.in_ok-of.field-0) (at c.in_ok-of-2.field-0) c.all_buckets.ensures.bounds c.requires.lasts c.requires.dirty refreshed pending
