use Rattle.std.proofs.Common.{take}
use Rattle.engine_state.specs.Lists.{Each}
use Rattle.engine_state.specs.Resumed.{ResumedAt}
use Rattle.engine_state.proofs.image_tables.tables_from_image.Given as goal

abbrev pub invariant-loop-table : goal.invariant-loop-table
invariant-loop-table l = Each (ResumedAt l.image) (take l.table l.roster.tables) l.tables
