use Rattle.std.proofs.Common.{◌≡◌, length}
use Rattle.ts_schema.specs.Counts.{raised_by}
use Rattle.engine_state.proofs.group_rebuilds.count.Given as goal

-- the steps counted so far and those of the rows left are those of all rows
abbrev pub invariant-loop-left : goal.invariant-loop-left
invariant-loop-left g l = raised_by (length l.left) l.steps ≡ raised_by (length l.rows) l.initial.steps

abbrev pub decreases-loop-left : goal.decreases-loop-left
decreases-loop-left g l = length l.left
