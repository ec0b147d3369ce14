-- The refresh is one of the history, and the rows are those that its snapshot saw.
use Rattle.std.proofs.Common.{◌∙◌, ap, sym, subst}
use Rattle.std.specs.Prelude.{IsSome}
use Rattle.std.specs.List.{AllByRecursion}
use Rattle.ts_bucket.specs.Ranges.{AreRanges, IsWholeRange}
use Rattle.ts_bucket.specs.WholeSpans.{IsWholeSpan}
use Rattle.inval_log.specs.Logs.{LogValue as TableLog}
use Rattle.mat_log.specs.Feeding.{AreWithin, is_redone_with}
use Rattle.mat_log.specs.Logs.{LogValue}
use Rattle.ts_model.specs.Roster.{view_of}
use Rattle.refresh_build.specs.Fitting.{IsJobOf}
use Rattle.refresh_build.specs.Jobs.{IsFor, IsMadeOf}
use Rattle.refresh_build.proofs.JobLaws.{ranges_apart}
use Rattle.engine_state.specs.Scans.{seen_rows}
use Rattle.engine_state.proofs.AnswerFacts.{both_ok}
use Rattle.engine_state.proofs.ShownFacts.{view_asks}
use Rattle.engine_state.proofs.StartFacts.{finish_waits, job_then, times_then, whole_cut}
use Rattle.engine_state.proofs.parts.StateParts.rebuild.Goals as goal

pub refresh-refresh-requires : goal.refresh-refresh-requires
refresh-refresh-requires g c = record { waits = finish_waits c.requires.next.history c.args.self.now c.args.cut c.args.snap c.requires.next.stands c.requires.next.fits }

pub view_seen-seen-requires-clause-stands : goal.view_seen-seen-requires-clause-stands
view_seen-seen-requires-clause-stands g c = record { history = c.requires.next.history; stands = c.requires.next.stands }

pub view_seen-seen-requires-clause-there : goal.view_seen-seen-requires-clause-there
view_seen-seen-requires-clause-there g c =
    let st = c.requires.next.stands in
    let refresh = c.refresh-refresh.result in
    subst (λ r. IsSome (view_of r refresh.view)) (sym st.roster) (c.refresh-refresh.ensures.refresh c.requires.next.history st).view_is

pub redone_with-requires-clause-whole : goal.redone_with-requires-clause-whole
redone_with-requires-clause-whole g c =
    let h = c.requires.next.history in
    let st = c.requires.next.stands in
    let refresh = c.refresh-refresh.result in
    let waits = c.refresh-refresh.ensures.refresh h st in
    let seen = c.view_seen-seen.ensures.view h st in
    let width = ap (λ (l : LogValue). l.width) c.log-log.ensures.log ∙ seen.stands.width in
    subst (λ w. IsWholeSpan w refresh.span) (sym width) (whole_cut h refresh.view c.args.cut refresh.span c.view_seen-seen.result.def.now st.consistent seen.there waits.span_is)

pub redone_with-requires-clause-within : goal.redone_with-requires-clause-within
redone_with-requires-clause-within g c =
    let h = c.requires.next.history in
    let st = c.requires.next.stands in
    let refresh = c.refresh-refresh.result in
    let found = c.view_seen-seen.result in
    let asks = view_asks h refresh.view found.rows.position found.def.now found.state.now found.rows.table.now st.consistent (c.view_seen-seen.ensures.view h st) in
    let entries = c.entries-entries.ensures.entries ∙ ap (λ (l : TableLog). l.entries) c.log.ensures.log in
    subst (λ (l : LogValue). AreWithin c.entries-entries.result.now.items l) (sym c.log-log.ensures.log)
    (subst (λ es. AreWithin es found.state.now.log) (sym entries) asks.within)

pub build_ranges-requires-clause-whole : goal.build_ranges-requires-clause-whole
build_ranges-requires-clause-whole g c κs within =
    let seen = c.view_seen-seen.ensures.view c.requires.next.history c.requires.next.stands in
    let width = ap (λ (l : LogValue). l.width) c.log-log.ensures.log ∙ seen.stands.width in
    subst (λ w. AllByRecursion (IsWholeRange w) c.in_ok-spans.spans) width c.in_ok-spans.ensures.ranges.whole

pub build_ranges-requires-clause-apart : goal.build_ranges-requires-clause-apart
build_ranges-requires-clause-apart g c κs within =
    let log = c.log-log.result.now in
    ranges_apart log.width c.refresh-refresh.result.span (is_redone_with log c.entries-entries.result.now.items c.args.snap) c.in_ok-spans.spans c.in_ok-spans.ensures.ranges

pub build_ranges-requires-clause-times : goal.build_ranges-requires-clause-times
build_ranges-requires-clause-times g c κs within =
    let h = c.requires.next.history in
    let st = c.requires.next.stands in
    let found = c.view_seen-seen.result in
    times_then h found.def.now.table found.rows.position c.args.snap found.rows.table.now st.consistent (c.view_seen-seen.ensures.view h st).table_is

pub returns : goal.returns
returns g c = record {
  job = λ h st next.
      let refresh = c.refresh-refresh.result in
      let found = c.view_seen-seen.result in
      let def = found.def.now in
      let waits = c.refresh-refresh.ensures.refresh h st in
      let seen = c.view_seen-seen.ensures.view h st in
      let entries = c.entries-entries.ensures.entries ∙ ap (λ (l : TableLog). l.entries) c.log.ensures.log in
      let spans = c.in_ok-spans.spans in
      let width = ap (λ (l : LogValue). l.width) c.log-log.ensures.log ∙ seen.stands.width in
      let of_width = subst (λ w. AreRanges w refresh.span (is_redone_with c.log-log.result.now c.entries-entries.result.now.items c.args.snap) spans) width c.in_ok-spans.ensures.ranges in
      let of_log = subst (λ (l : LogValue). AreRanges def.fold.width refresh.span (is_redone_with l c.entries-entries.result.now.items c.args.snap) spans) c.log-log.ensures.log of_width in
      let ranges = subst (λ es. AreRanges def.fold.width refresh.span (is_redone_with found.state.now.log es c.args.snap) spans) entries of_log in
      both_ok c.build_ranges.result (IsFor refresh spans) (IsMadeOf def.fold (seen_rows c.args.snap found.rows.table.now)) (IsJobOf h c.args.cut c.args.snap)
      (λ job is_for made.
      let same = sym is_for.spans_are in
      job_then h c.args.cut c.args.snap found.rows.position refresh def found.state.now found.rows.table.now job st.consistent next waits seen c.refresh-refresh.ensures.snap
      (subst (λ ss. AreRanges def.fold.width refresh.span (is_redone_with found.state.now.log found.rows.table.now.log.entries c.args.snap) ss) same ranges)
      (subst (λ ss. IsFor refresh ss job) same is_for) made)
      c.build_ranges.ensures.refresh c.build_ranges.ensures.made;
}
