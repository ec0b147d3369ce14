use Rattle.std.proofs.Common.{◌≡◌, ◌≤◌, ◌<◌, ◌^◌, length}
use Rattle.std.specs.List.{AllByRecursion}
use Rattle.ts_schema.specs.Counts.{raised_by}
use Rattle.group_fold.specs.Grouping.{AreTimes}
use Rattle.engine_state.specs.GroupRebuilds.{CanTake}
use Rattle.engine_state.proofs.RefoldLaws.{InFront}
use Rattle.engine_state.proofs.group_rebuilds.take_rows.Given as goal

-- the rows in front are added and counted, and the others are left
abbrev pub invariant-pieces : goal.invariant-pieces
invariant-pieces g l = record {
  times : AreTimes l.left;
  can : AllByRecursion CanTake l.refolds;
  taken : InFront l.table l.rows l.initial.refolds l.left l.refolds;
  read : raised_by (length l.left) l.steps ≡ raised_by (length l.rows) l.initial.steps;
  up : l.initial.steps ≤ l.steps;
  small : l.steps < 2 ^ 64;
}

abbrev pub decreases-pieces : goal.decreases-pieces
decreases-pieces g l = length l.left
