-- The buckets that changed in the log are those touched after their last refresh.
use Rattle.std.proofs.Common.{◌∙◌, List, ap, sym, subst}
use Rattle.std.proofs.lemmas.Result.{IfOk-weaker}
use Rattle.inval_log.specs.declared.entries.Entry.{Entry}
use Rattle.mat_log.specs.Feeding.{AreWithin, is_changed_with}
use Rattle.mat_log.specs.Logs.{LogValue}
use Rattle.base_image.specs.Taking.{AreDirty}
use Rattle.ts_bucket.specs.Ranges.{AreRanges}
use Rattle.ts_bucket.specs.WholeSpans.{IsWholeSpan, whole_span}
use Rattle.ts_bucket.specs.declared.spans.Span.{Span}
use Rattle.ts_bucket.specs.declared.widths.Width.{Width}
use Rattle.ts_model.specs.declared.views.ViewDef.{ViewDef}
use Rattle.ts_model.specs.Roster.{roster}
use Rattle.engine_state.proofs.ImageFacts.{dirty_taken, one_def, whole_is}
use Rattle.engine_state.proofs.ShownFacts.{view_asks}
use Rattle.engine_state.proofs.parts.StateParts.dirty.Goals as goal

pub changed_with-requires-clause-whole : goal.changed_with-requires-clause-whole
changed_with-requires-clause-whole c =
    let own = c.requires.stands in
    let is = c.view_seen-seen.ensures.view own.history own.stands in
    let seen = c.view_seen-seen.result in
    let width = ap (λ (l : LogValue). l.width) c.log-2.ensures.log ∙ is.stands.width in
    let whole : IsWholeSpan seen.def.now.fold.width c.all_buckets-all.result = subst (IsWholeSpan seen.def.now.fold.width) (sym c.all_buckets-all.ensures.value) (whole_is seen.def.now.fold.width c.all_buckets-all.ensures.bounds) in
    subst (λ (w : Width). IsWholeSpan w c.all_buckets-all.result) (sym width) whole

pub changed_with-requires-clause-within : goal.changed_with-requires-clause-within
changed_with-requires-clause-within c =
    let own = c.requires.stands in
    let is = c.view_seen-seen.ensures.view own.history own.stands in
    let seen = c.view_seen-seen.result in
    let asks = view_asks own.history c.args.view seen.rows.position seen.def.now seen.state.now seen.rows.table.now own.stands.consistent is in
    let entries = c.entries-entries.ensures.entries ∙ ap (λ (l : Rattle.inval_log.specs.Logs.LogValue). l.entries) c.log.ensures.log in
    subst (λ (es : List Entry). AreWithin es c.log-2.result.now) (sym entries) (subst (λ (l : LogValue). AreWithin seen.rows.table.now.log.entries l) (sym c.log-2.ensures.log) asks.within)

pub returns : goal.returns
returns c = record {
  dirty = λ h def st there.
      let seen = c.view_seen-seen.result in
      let is = c.view_seen-seen.ensures.view h st in
      let same = one_def (roster h) c.args.view seen.def.now def is.there there in
      let entries = c.entries-entries.ensures.entries ∙ ap (λ (l : Rattle.inval_log.specs.Logs.LogValue). l.entries) c.log.ensures.log in
      let width = ap (λ (l : LogValue). l.width) c.log-2.ensures.log ∙ is.stands.width in
      IfOk-weaker c.changed_with.result (AreRanges c.log-2.result.now.width c.all_buckets-all.result (is_changed_with c.log-2.result.now c.entries-entries.result.now.items)) (AreDirty c.args.view def h)
      (λ found are.
      let one = subst (λ (s : Span). AreRanges c.log-2.result.now.width s (is_changed_with c.log-2.result.now c.entries-entries.result.now.items) found) c.all_buckets-all.ensures.value are in
      let two = subst (λ (es : List Entry). AreRanges c.log-2.result.now.width (whole_span seen.def.now.fold.width) (is_changed_with c.log-2.result.now es) found) entries one in
      let three = subst (λ (w : Width). AreRanges w (whole_span seen.def.now.fold.width) (is_changed_with c.log-2.result.now seen.rows.table.now.log.entries) found) width two in
      let four = subst (λ (l : LogValue). AreRanges seen.def.now.fold.width (whole_span seen.def.now.fold.width) (is_changed_with l seen.rows.table.now.log.entries) found) c.log-2.ensures.log three in
      subst (λ (d : ViewDef). AreDirty c.args.view d h found) same (dirty_taken h c.args.view seen.rows.position seen.def.now seen.state.now seen.rows.table.now found st.consistent is four))
      c.changed_with.ensures.ranges;
}
