use Rattle.std.proofs.Common.{◌≡◌, []}
use Rattle.group_fold.specs.Gathering.{in_group_order}
use Rattle.cell_groups.specs.Groups.{as_groups}
use Rattle.cell_groups.specs.TakenRows.{AreGathered, with_rows}
use Rattle.hier_agg.specs.Taken.{row_group_of, row_passes}
use Rattle.hier_agg.specs.Wides.{HoldsItsNumbers}
use Rattle.hier_agg.proofs.gathers.gather.Given as goal

-- what was read and what is left are the whole
abbrev pub invariant-loop-row : goal.invariant-loop-row
invariant-loop-row l = record {
  numbers : HoldsItsNumbers l.plan.width l.bucket;
  taken : with_rows (row_passes l.plan) (row_group_of l.plan l.shape) l.row-iterator (in_group_order (as_groups l.shape l.gathered.groups.items)) ≡ with_rows (row_passes l.plan) (row_group_of l.plan l.shape) l.rows [];
  gathered : AreGathered l.shape l.gathered;
}
