use Rattle.std.proofs.Common.{◌≡◌, take}
use Rattle.ts_model.specs.Refreshes.{waiting_end}
use Rattle.engine_state.proofs.image_tables.waiting_end.Given as goal

abbrev pub invariant-loop-refresh : goal.invariant-loop-refresh
invariant-loop-refresh l = l.end ≡ waiting_end l.fn.table l.roster (take l.refresh-index l.waiting)
