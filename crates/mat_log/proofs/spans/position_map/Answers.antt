-- One more span is marked.
use Rattle.std.proofs.Common.{◌≡◌, ◌∙◌, Bool, true, false, ◌||◌, ℕ, Some, None, cond, take, sym, refl, ap}
use Rattle.std.proofs.lemmas.List.Folds.{list_any_more}
use Rattle.ts_bucket.specs.Ranges.{lies_in}
use Rattle.ts_bucket.specs.Spans.{in_span}
use Rattle.mat_log.proofs.spans.position_map.Goals as goal

marked_too : (inside before : Bool) (pos : ℕ) → cond inside (Some pos) (cond before (Some pos) None) ≡ cond (before || inside) (Some pos) None
marked_too true true pos = refl
marked_too true false pos = refl
marked_too false true pos = refl
marked_too false false pos = refl

pub loop-span-preserved : goal.loop-span-preserved
loop-span-preserved c = λ t.
    let before = lies_in (take c.loop-span.span-index c.args.spans.now) t in
    c.assign.ensures.values t
    ∙ ap (cond (in_span c.span-item.result t) (Some c.args.pos)) (c.reserve.ensures.values t ∙ c.loop-span.invariant t)
    ∙ marked_too (in_span c.span-item.result t) before c.args.pos
    ∙ ap (λ b. cond b (Some c.args.pos) None) (ap (λ s. before || in_span s t) c.span-item.is ∙ sym (list_any_more (λ s. in_span s t) c.args.spans.now c.loop-span.span-index c.span-item.result c.loop-span-test.true))
