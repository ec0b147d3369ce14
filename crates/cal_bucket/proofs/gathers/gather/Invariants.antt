use Rattle.std.proofs.Common.{◌≡◌, ◌-◌, ◌≤◌, [], length}
use Rattle.std.specs.List.{AllByRecursion}
use Rattle.group_fold.specs.Gathering.{in_group_order}
use Rattle.cell_groups.specs.Cells.{cells_pass}
use Rattle.cell_groups.specs.Groups.{as_groups}
use Rattle.cell_groups.specs.Room.{AreOfRows}
use Rattle.cell_groups.specs.TakenRows.{AreGathered, with_rows}
use Rattle.cal_bucket.specs.Named.{NamesItsTimes}
use Rattle.cal_bucket.specs.Rows.{ShowARow}
use Rattle.cal_bucket.specs.Shapes.{named_group}
use Rattle.cal_bucket.proofs.gathers.gather.Given as goal

-- what was read and what is left are the whole
abbrev pub invariant-loop-row : goal.invariant-loop-row
invariant-loop-row l = record {
  left : AllByRecursion (ShowARow l.fn.plan.at) l.row-iterator;
  names : NamesItsTimes l.fn.plan.unit l.fn.plan.number l.bucket;
  taken : with_rows (cells_pass l.tests) (named_group l.fn.plan l.shape) l.row-iterator (in_group_order (as_groups l.shape l.gathered.groups.items)) ≡ with_rows (cells_pass l.tests) (named_group l.fn.plan l.shape) l.fn.lower [];
  gathered : AreGathered l.shape l.gathered;
  to_come : length l.row-iterator ≤ length l.fn.lower;
  few : AreOfRows (length l.fn.lower - length l.row-iterator) (as_groups l.shape l.gathered.groups.items);
}
