-- The refresh is one of the history, and so are the aggregate and the table of its job.
use Rattle.std.proofs.Common.{◌≡◌, ◌∙◌, ap, sym, subst}
use Rattle.std.specs.Prelude.{IsSome}
use Rattle.ts_bucket.specs.Ranges.{AreRanges}
use Rattle.ts_bucket.specs.WholeSpans.{IsWholeSpan}
use Rattle.ts_schema.specs.Counts.{Ticks}
use Rattle.inval_log.specs.Logs.{LogValue as TableLog}
use Rattle.mat_log.specs.Feeding.{AreWithin, is_dirty_with}
use Rattle.mat_log.specs.Logs.{LogValue}
use Rattle.ts_model.specs.History.{position}
use Rattle.ts_model.specs.Reads.{dirty_ranges}
use Rattle.ts_model.specs.Roster.{view_of}
use Rattle.ts_model.proofs.SoundLaws.{view_width}
use Rattle.refresh_build.specs.Fitting.{JobFits}
use Rattle.refresh_build.specs.Jobs.{IsFor, IsMadeOf}
use Rattle.engine_state.specs.Scans.{seen_rows}
use Rattle.engine_state.specs.Stands.{StateValue}
use Rattle.engine_state.proofs.ShownFacts.{view_asks}
use Rattle.engine_state.proofs.StartFacts.{dirty_are, job_now, job_read, three_ok, whole_cut}
use Rattle.engine_state.proofs.parts.StateParts.start_job.Goals as goal

pub view_seen-seen-requires-clause-there : goal.view_seen-seen-requires-clause-there
view_seen-seen-requires-clause-there g c =
    let st = c.requires.stands.stands in
    let refresh = c.refresh-refresh.result in
    subst (λ r. IsSome (view_of r refresh.view)) (sym st.roster) (c.refresh-refresh.ensures.refresh c.requires.stands.history st).view_is

pub build-requires-clause-whole : goal.build-requires-clause-whole
build-requires-clause-whole g c κs within =
    let h = c.requires.stands.history in
    let st = c.requires.stands.stands in
    let refresh = c.refresh-refresh.result in
    let waits = c.refresh-refresh.ensures.refresh h st in
    let seen = c.view_seen-seen.ensures.view h st in
    let width = ap (λ (l : LogValue). l.width) c.log-log.ensures.log ∙ seen.stands.width in
    subst (λ w. IsWholeSpan w refresh.span) (sym width) (whole_cut h refresh.view c.args.cut refresh.span c.view_seen-seen.result.def.now st.consistent seen.there waits.span_is)

pub build-requires-clause-width : goal.build-requires-clause-width
build-requires-clause-width g c κs within =
    let seen = c.view_seen-seen.ensures.view c.requires.stands.history c.requires.stands.stands in
    ap (λ (l : LogValue). l.width) c.log-log.ensures.log ∙ seen.stands.width

pub build-requires-clause-within : goal.build-requires-clause-within
build-requires-clause-within g c κs within =
    let h = c.requires.stands.history in
    let st = c.requires.stands.stands in
    let found = c.view_seen-seen.result in
    let entries = c.entries-entries.ensures.entries ∙ ap (λ (l : TableLog). l.entries) c.log.ensures.log in
    let asks = view_asks h c.refresh-refresh.result.view found.rows.position found.def.now found.state.now found.rows.table.now st.consistent (c.view_seen-seen.ensures.view h st) in
    subst (λ (l : LogValue). AreWithin c.entries-entries.result.now.items l) (sym c.log-log.ensures.log)
    (subst (λ es. AreWithin es found.state.now.log) (sym entries) asks.within)

pub build-requires-clause-times : goal.build-requires-clause-times
build-requires-clause-times g c κs within = (c.view_seen-seen.ensures.view c.requires.stands.history c.requires.stands.stands).table_is.times

pub returns-clause-job : goal.returns-clause-job
returns-clause-job g c h st =
    let refresh = c.refresh-refresh.result in
    let found = c.view_seen-seen.result in
    let waits = c.refresh-refresh.ensures.refresh h st in
    let seen = c.view_seen-seen.ensures.view h st in
    let entries = c.entries-entries.ensures.entries ∙ ap (λ (l : TableLog). l.entries) c.log.ensures.log in
    let snap = c.refresh-refresh.ensures.snap ∙ ap (λ (s : StateValue). s.position) c.self.view_is ∙ st.position in
    three_ok c.build.result
    (λ job. AreRanges found.def.now.fold.width refresh.span (is_dirty_with c.log-log.result.now c.entries-entries.result.now.items) job.spans)
    (λ job. IsFor refresh job.spans job)
    (IsMadeOf found.def.now.fold (seen_rows found.rows.position found.rows.table.now))
    (λ job. JobFits h job × (job.cut ≡ c.args.cut) × (job.snap ≡ position h))
    (λ job ranges is_for made.
    job_now h c.args.cut found.rows.position refresh found.def.now found.state.now found.rows.table.now job st.consistent waits seen snap
    (subst (λ es. AreRanges found.def.now.fold.width refresh.span (is_dirty_with found.state.now.log es) job.spans) entries
    (subst (λ (l : LogValue). AreRanges found.def.now.fold.width refresh.span (is_dirty_with l c.entries-entries.result.now.items) job.spans) c.log-log.ensures.log ranges))
    is_for made)
    c.build.ensures.ranges c.build.ensures.refresh c.build.ensures.made

pub returns-clause-read : goal.returns-clause-read
returns-clause-read g c h st =
    let refresh = c.refresh-refresh.result in
    let found = c.view_seen-seen.result in
    let def = found.def.now in
    let waits = c.refresh-refresh.ensures.refresh h st in
    let seen = c.view_seen-seen.ensures.view h st in
    let entries = c.entries-entries.ensures.entries ∙ ap (λ (l : TableLog). l.entries) c.log.ensures.log in
    let dirty = dirty_ranges refresh.view def h refresh.span in
    let wide = view_width h refresh.view def st.consistent seen.there in
    let ranges = dirty_are h refresh.view def found.rows.table.now found.state.now st.consistent seen.there seen.stands wide c.args.cut refresh.span waits.span_is in
    let own =
    subst (λ (l : LogValue). AreRanges def.fold.width refresh.span (is_dirty_with l c.entries-entries.result.now.items) dirty) (sym c.log-log.ensures.log)
    (subst (λ es. AreRanges def.fold.width refresh.span (is_dirty_with found.state.now.log es) dirty) (sym entries) ranges) in
    subst (λ n. Ticks c.build.result n c.args.steps.now c.build.new.steps)
    (job_read h c.args.cut found.rows.position refresh def found.state.now found.rows.table.now waits seen) (c.build.ensures.read dirty own)
