use Rattle.std.proofs.Common.{ℕ, ◌++◌, length}
use Rattle.cell_groups.specs.Groups.{HaveTallies, as_groups}
use Rattle.cell_groups.specs.Room.{AreOfRows}
use Rattle.cell_groups.proofs.Sorting.{IsMerging}
use Rattle.cell_groups.proofs.orders.merge_neighbours.Given as goal

abbrev pub invariant-loop-group : goal.invariant-loop-group
invariant-loop-group l = record {
  merging : IsMerging (as_groups l.shape l.fn.groups.items) (as_groups l.shape l.left.items) (as_groups l.shape l.merged.items);
  left : HaveTallies l.shape.aggs l.left.items;
  merged : HaveTallies l.shape.aggs l.merged.items;
  rows : (n : ℕ) → AreOfRows n (as_groups l.shape l.fn.groups.items) → AreOfRows n (as_groups l.shape l.left.items ++ as_groups l.shape l.merged.items);
}

abbrev pub decreases-loop-group : goal.decreases-loop-group
decreases-loop-group l = length l.left.items
