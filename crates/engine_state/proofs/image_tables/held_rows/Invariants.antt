use Rattle.std.proofs.Common.{◌≡◌, take}
use Rattle.ts_model.specs.Saved.{appended_over}
use Rattle.engine_state.specs.Resumed.{IsHeld}
use Rattle.engine_state.proofs.image_tables.held_rows.Given as goal

abbrev pub invariant-loop-event : goal.invariant-loop-event
invariant-loop-event l = (l.held.interval ≡ l.fn.interval) × IsHeld (appended_over l.fn.table (take l.event-index l.rows)) l.held
