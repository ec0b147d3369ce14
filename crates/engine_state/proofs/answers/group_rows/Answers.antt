use Rattle.std.proofs.Common.{◌≡◌, ◌∷◌, [], length, subst}
use Rattle.ts_schema.specs.Counts.{Ticks}
use Rattle.ts_model.specs.Reads.{rows_near}
use Rattle.realtime_union.specs.Live.{all_times}
use Rattle.realtime_union.proofs.NearLaws.{all_times_read_all}
use Rattle.engine_state.specs.Scans.{stored_rows}
use Rattle.engine_state.proofs.answers.group_rows.Goals as goal

pub returns-clause-read : goal.returns-clause-read
returns-clause-read g c =
    let table = c.args.rows.now.table.now in
    let same : rows_near table.rows.interval (stored_rows table) (all_times ∷ []) ≡ length (stored_rows table) = all_times_read_all table.rows.interval (stored_rows table) c.requires.interval c.requires.stored in
    subst (λ n. Ticks c.folded_rows.result n c.args.steps.now c.folded_rows.new.steps) same c.folded_rows.ensures.read
