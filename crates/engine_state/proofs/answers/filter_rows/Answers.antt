use Rattle.std.proofs.Common.{◌≡◌, ◌∙◌, ◌∷◌, [], length, subst}
use Rattle.std.proofs.lemmas.Result.{IfOk-weaker}
use Rattle.ts_bucket.specs.Bucket.{is_time}
use Rattle.ts_bucket.specs.Spans.{in_span}
use Rattle.ts_schema.specs.Counts.{Ticks}
use Rattle.ts_model.specs.Reads.{rows_near}
use Rattle.realtime_union.specs.Live.{all_times}
use Rattle.realtime_union.specs.Whole.{passing_rows}
use Rattle.realtime_union.proofs.NearLaws.{all_times_read_all}
use Rattle.group_fold.proofs.ScanLaws.{all-filter}
use Rattle.engine_state.specs.Scans.{seen_rows, stored_rows, timed_rows}
use Rattle.engine_state.proofs.ScanFacts.{passing_timed}
use Rattle.engine_state.proofs.answers.filter_rows.Goals as goal

pub passing_rows-requires : goal.passing_rows-requires
passing_rows-requires g c = record {
  times = all-filter (λ row. is_time row.at) (λ row. in_span c.passing_span.result row.at) (seen_rows c.args.rows.now.position c.args.rows.now.table.now) c.requires.times;
}

pub returns-clause-rows : goal.returns-clause-rows
returns-clause-rows g c =
    let seen = seen_rows c.args.rows.now.position c.args.rows.now.table.now in
    IfOk-weaker c.passing_rows.result (λ shown. shown ≡ passing_rows c.args.at c.args.tests.now (timed_rows c.passing_span.result c.args.rows.now.position c.args.rows.now.table.now)) (λ shown. shown ≡ passing_rows c.args.at c.args.tests.now seen)
    (λ shown is. is ∙ passing_timed c.args.at c.args.tests.now c.passing_span.result seen (subst (λ tests. Rattle.chunk_catalog.specs.Chunks.HoldsTimes tests c.passing_span.result) c.items.ensures.items c.passing_span.ensures.every) c.requires.times)
    c.passing_rows.ensures.rows

pub returns-clause-read : goal.returns-clause-read
returns-clause-read g c =
    let table = c.args.rows.now.table.now in
    let same : rows_near table.rows.interval (stored_rows table) (all_times ∷ []) ≡ length (stored_rows table) = all_times_read_all table.rows.interval (stored_rows table) c.requires.interval c.requires.stored in
    subst (λ n. Ticks c.passing_rows.result n c.args.steps.now c.passing_rows.new.steps) same c.passing_rows.ensures.read
