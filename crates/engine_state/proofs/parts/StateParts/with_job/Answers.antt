-- The groups of the job update the ranges whose last refresh isn't above its snapshot.
use Rattle.std.proofs.Common.{◌≡◌, ◌∙◌, ◌<◌, ◌&&◌, List, length, get_or, map, set, ap, sym, subst}
use Rattle.std.specs.List.{AllByRecursion}
use Rattle.std.proofs.lemmas.Bool.{and_from}
use Rattle.ts_bucket.specs.Ranges.{AreRanges, IsWholeRange, lies_in}
use Rattle.ts_bucket.specs.WholeSpans.{IsWholeSpan}
use Rattle.ts_bucket.specs.declared.spans.Span.{Span}
use Rattle.mat_log.specs.Logs.{is_renewed, last_at}
use Rattle.refresh_list.specs.Refreshes.{finished_at}
use Rattle.engine_state.specs.Stands.{StateValue}
use Rattle.engine_state.specs.Views.{ViewValue}
use Rattle.engine_state.proofs.CutFacts.{got, view_place, view_there}
use Rattle.engine_state.proofs.JobFacts.{job_has, job_renews, job_whole, parts_whole, ranges_rise, ranges_sizes}
use Rattle.engine_state.proofs.RefreshSteps.{state_of_finish}
use Rattle.engine_state.proofs.parts.StateParts.with_job.Goals as goal

pub get-view-requires : goal.get-view-requires
get-view-requires c =
    let n = c.requires.next in
    let job = c.args.job.now in
    let has = job_has n.history job n.job_is.2 in
    subst (λ (s : StateValue). job.view < length s.views) (sym c.self.view_is) (view_place n.history job.view c.args.self.now has.def n.stands has.there)

pub to_renew-requires-clause-whole : goal.to_renew-requires-clause-whole
to_renew-requires-clause-whole c =
    let n = c.requires.next in
    let s = c.args.self.now in
    let job = c.args.job.now in
    let view = c.get-view.result.now in
    let has = job_has n.history job n.job_is.2 in
    let item : view ≡ get_or s.views job.view view = c.get-view.ensures.item ∙ ap (λ (s : StateValue). get_or s.views job.view view) c.self.view_is in
    let own = view_there n.history job.view s has.def view n.stands has.there (got s.views job.view view (view_place n.history job.view s has.def n.stands has.there) item) in
    let width = ap (λ l. l.width) c.log.ensures.log ∙ own.stands.width in
    subst (λ w. IsWholeSpan w job.span) (sym width) (job_whole n.history job has.def n.stands.consistent has.there has.fits)

pub to_renew-requires-clause-ranges : goal.to_renew-requires-clause-ranges
to_renew-requires-clause-ranges c =
    let n = c.requires.next in
    let s = c.args.self.now in
    let job = c.args.job.now in
    let view = c.get-view.result.now in
    let has = job_has n.history job n.job_is.2 in
    let item : view ≡ get_or s.views job.view view = c.get-view.ensures.item ∙ ap (λ (s : StateValue). get_or s.views job.view view) c.self.view_is in
    let own = view_there n.history job.view s has.def view n.stands has.there (got s.views job.view view (view_place n.history job.view s has.def n.stands has.there) item) in
    let width = ap (λ l. l.width) c.log.ensures.log ∙ own.stands.width in
    subst (λ w. AllByRecursion (IsWholeRange w) c.items.result.now) (sym width) (subst (AllByRecursion (IsWholeRange has.def.fold.width)) (sym c.items.ensures.items) (parts_whole has.def.fold.width job.span job.spans has.fits.whole))

pub finish_view-requires-clause-whole : goal.finish_view-requires-clause-whole
finish_view-requires-clause-whole c =
    let n = c.requires.next in
    let s = c.args.self.now in
    let job = c.args.job.now in
    let view = c.get-view.result.now in
    let has = job_has n.history job n.job_is.2 in
    let item : view ≡ get_or s.views job.view view = c.get-view.ensures.item ∙ ap (λ (s : StateValue). get_or s.views job.view view) c.self.view_is in
    let own = view_there n.history job.view s has.def view n.stands has.there (got s.views job.view view (view_place n.history job.view s has.def n.stands has.there) item) in
    subst (λ w. IsWholeSpan w job.span) (sym own.stands.width) (job_whole n.history job has.def n.stands.consistent has.there has.fits)

pub finish_view-requires-clause-sizes : goal.finish_view-requires-clause-sizes
finish_view-requires-clause-sizes c = ranges_sizes c.log.result.now.width c.in_ok-renewed.renewed c.in_ok-renewed.ensures.ranges.whole

pub finish_view-requires-clause-rising : goal.finish_view-requires-clause-rising
finish_view-requires-clause-rising c = ranges_rise c.in_ok-renewed.renewed c.in_ok-renewed.ensures.ranges.rising

pub set-requires : goal.set-requires
set-requires c =
    let n = c.requires.next in
    let s = c.args.self.now in
    let job = c.args.job.now in
    let has = job_has n.history job n.job_is.2 in
    let same : c.in_ok-views.views ≡ s.views = c.in_ok-views.ensures.same ∙ ap (λ (s : StateValue). s.views) c.self.view_is in
    subst (λ (views : List ViewValue). job.view < length views) (sym same) (view_place n.history job.view s has.def n.stands has.there)

pub returns : goal.returns
returns c = record {
  stands = λ h st ok fits.
      let s = c.args.self.now in
      let job = c.args.job.now in
      let view = c.get-view.result.now in
      let has = job_has h job fits in
      let item : view ≡ get_or s.views job.view view = c.get-view.ensures.item ∙ ap (λ (s : StateValue). get_or s.views job.view view) c.self.view_is in
      let at = got s.views job.view view (view_place h job.view s has.def st has.there) item in
      let own = view_there h job.view s has.def view st has.there at in
      let log = c.log.result.now in
      let width = ap (λ l. l.width) c.log.ensures.log ∙ own.stands.width in
      let ranges = subst (λ (spans : List Span). AreRanges log.width job.span (λ b. lies_in spans b && is_renewed log job.snap b) c.in_ok-renewed.renewed) c.items.ensures.items c.in_ok-renewed.ensures.ranges in
      let renews = job_renews h job has.def log c.in_ok-renewed.renewed (job_whole h job has.def st.consistent has.there has.fits) has.fits width (λ b bucket. ap (λ l. last_at l b) c.log.ensures.log ∙ own.stands.covered.refreshed b bucket) ranges in
      state_of_finish h job.cut job.snap job.view s _ has.def job.span job.spans job.groups job.top view c.in_ok-done.done c.in_ok-renewed.renewed job.groups (and_from _ _ st.consistent ok) st has.there has.fits at c.in_ok-done.ensures.finished renews
      c.in_ok-position.ensures.next c.in_ok-same_roster.ensures.same
      (c.in_ok-copy.ensures.same ∙ ap (λ (s : StateValue). s.tables) c.self.view_is)
      (c.views.view_is ∙ c.set.ensures.set ∙ ap (λ (views : List ViewValue). set views job.view c.in_ok-done.done) (c.in_ok-views.ensures.same ∙ ap (λ (s : StateValue). s.views) c.self.view_is))
      (c.in_ok-with_finish.ensures.finished ∙ ap (λ (s : StateValue). map (finished_at job.cut c.in_ok-position.position) s.refreshes) c.self.view_is ∙ ap (λ n. map (finished_at job.cut n) s.refreshes) c.in_ok-position.ensures.next);
}
