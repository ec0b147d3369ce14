-- One more commit is in the table.
use Rattle.std.proofs.Common.{◌∙◌, List, take, subst}
use Rattle.ts_schema.specs.declared.rows.Row.{Row}
use Rattle.ts_model.specs.Saved.{appended_over}
use Rattle.engine_state.specs.Resumed.{IsHeld}
use Rattle.engine_state.proofs.ResumedTables.{over_more}
use Rattle.engine_state.proofs.image_tables.held_rows.Goals as goal

pub loop-event-preserved : goal.loop-event-preserved
loop-event-preserved c = (
  c.in_ok-held.ensures.interval ∙ c.loop-event.invariant.0,
  subst (λ (rows : List Row). IsHeld rows c.in_ok-held.held) (over_more c.args.table c.args.rows.now c.loop-event.event-index c.event-item.result c.loop-event-test.true c.event-item.is)
      (c.in_ok-held.ensures.held (appended_over c.args.table (take c.loop-event.event-index c.args.rows.now)) c.loop-event.invariant.1),
)
