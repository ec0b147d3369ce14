-- The buckets that the hull meets are the span that was assigned.
use Rattle.std.proofs.Common.{◌≡◌, ◌∙◌, ℤ, Some, true, ◌&&◌, cond, refl, ap, sym, subst}
use Rattle.ts_bucket.specs.Bucket.{is_bucket}
use Rattle.ts_bucket.specs.Positions.{is_before}
use Rattle.ts_bucket.specs.Spans.{SpanValue, in_span, meets, touched_span}
use Rattle.ts_bucket.proofs.SpanLaws.{meets-between}
use Rattle.span_map.specs.Maps.{at}
use Rattle.mat_log.specs.Logs.{LogValue, pending_at, last_at}
use Rattle.ts_bucket.proofs.WholeSpanLaws.{touched_starts, touched_ends}
use Rattle.mat_log.proofs.StepLaws.{in_step-fed, in_step-same}
use Rattle.mat_log.proofs.logs.MatLog.with_entry.Goals.{In_ok-copy}
use Rattle.mat_log.proofs.logs.MatLog.with_entry.Goals as goal

-- what is pending after the change
values : (c : In_ok-copy) (t : ℤ) → at c.in_ok-assigned_above.field-0 t ≡ cond (in_span (touched_span c.self.inside.width c.args.entry.now.hull) t && is_before c.args.entry.now.pos (at c.self.inside.refreshed t)) (Some c.args.entry.now.pos) (at c.self.inside.pending t)
values c t =
    c.in_ok-assigned_above.ensures.values t
    ∙ ap (λ (s : SpanValue). cond (in_span s t && is_before c.args.entry.now.pos (at c.self.inside.refreshed t)) (Some c.args.entry.now.pos) (at c.self.inside.pending t)) c.span_touched-span.ensures.value

pub invariant_of-result : goal.invariant_of-result
invariant_of-result c =
    let w = c.self.inside.width in
    let hull = c.args.entry.now.hull in
    let made = at c.in_ok-assigned_above.field-0 in
    in_step-same w made (at c.self.inside.refreshed) made (at c.in_ok-copy.field-0)
    (in_step-fed w (at c.self.inside.pending) (at c.self.inside.refreshed) made (touched_span w hull) c.args.entry.now.pos c.self.invariant (touched_starts w hull c.span_touched-span.ensures.bounds) (touched_ends w hull c.span_touched-span.ensures.bounds) (values c))
    (λ t. refl) c.in_ok-copy.ensures.values

pub returns-clause-pending : goal.returns-clause-pending
returns-clause-pending c =
    let w = c.self.inside.width in
    let hull = c.args.entry.now.hull in
    let position = c.args.entry.now.pos in
    let Fed : LogValue → Type 0 = λ log. (b : ℤ) → is_bucket log.width b ≡ true → at c.in_ok-assigned_above.field-0 b ≡ cond (meets log.width b hull && is_before position (last_at log b)) (Some position) (pending_at log b) in
    subst Fed c.self.view_is (λ b q.
    values c b ∙ ap (λ m. cond (m && is_before position (at c.self.inside.refreshed b)) (Some position) (at c.self.inside.pending b)) (sym (meets-between w b hull c.span_touched-span.ensures.bounds q)))
