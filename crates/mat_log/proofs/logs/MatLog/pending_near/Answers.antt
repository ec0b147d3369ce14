-- Within the span each of the maps has its values, and elsewhere none.
use Rattle.std.proofs.Common.{◌≡◌, ◌∙◌, ℤ, List, None, cond, filter, ap, sym, subst}
use Rattle.std.specs.List.{All}
use Rattle.std.specs.Result.{IfOk}
use Rattle.std.proofs.lemmas.List.Elements.{All-filter}
use Rattle.std.proofs.lemmas.Result.{IfOk-weaker}
use Rattle.ts_bucket.specs.Spans.{in_span, overlaps}
use Rattle.ts_bucket.specs.WholeSpans.{IsWithin}
use Rattle.span_map.specs.Maps.{MapValue, at}
use Rattle.inval_log.specs.declared.entries.Entry.{Entry}
use Rattle.mat_log.specs.Logs.{LogValue}
use Rattle.mat_log.specs.Feeding.{AreWithin}
use Rattle.mat_log.specs.Touching.{touch_at, pending_or_fresh}
use Rattle.mat_log.proofs.FeedLaws.{near_chain}
use Rattle.mat_log.proofs.logs.MatLog.pending_near.Goals as goal

pub latest-requires : goal.latest-requires
latest-requires c =
    let Within : List Entry → Type 0 = All (λ e. IsWithin c.self.inside.width e.hull) in
    subst Within (sym (c.deref.ensures.value ∙ c.in_ok-near.ensures))
    (All-filter (λ e. overlaps e.hull c.args.span) (λ (e : Entry). IsWithin c.self.inside.width e.hull) c.args.entries.now.items (subst (λ (log : LogValue). AreWithin c.args.entries.now.items log) (sym c.self.view_is) c.requires.within))

pub returns : goal.returns
returns c =
    let near = filter (λ (e : Entry). overlaps e.hull c.args.span) c.args.entries.now.items in
    let Near : LogValue → Type 0 = λ log. IfOk c.combine-4.result (λ pending. (t : ℤ) → at pending t ≡ cond (in_span c.args.span t) (pending_or_fresh log near t) None) in
    let w = c.self.inside.width in
    record {
      values = subst Near c.self.view_is (IfOk-weaker c.combine-4.result _ _ (λ (made : MapValue) e t.
          near_chain (in_span c.args.span t) (at made t) _ (at c.self.inside.pending t) _ _ (at c.self.inside.refreshed t) _ (touch_at w c.deref.result.now t) (touch_at w near t)
          (e t)
          (c.in_ok-within-2.ensures.values t)
          (c.in_ok-fresh.ensures.values t)
          (c.in_ok-within.ensures.values t)
          (c.in_ok-newest.ensures.values t ∙ ap (λ v. cond (in_span c.args.span t) v None) (c.in_ok-latest.ensures t))
          (ap (λ es. touch_at w es t) (c.deref.ensures.value ∙ c.in_ok-near.ensures)))
          c.combine-4.ensures.values);
    }
