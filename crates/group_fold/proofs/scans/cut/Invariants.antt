use Rattle.std.proofs.Common.{◌≡◌, ◌++◌, ◌-◌, ◌≤◌, drop}
use Rattle.group_fold.specs.Grouping.{all_rows}
use Rattle.group_fold.proofs.scans.cut.Given as goal

abbrev pub invariant-loop-from : goal.invariant-loop-from
invariant-loop-from l = record {
  low : l.from ≤ l.count;
  rows : all_rows l.pieces ++ drop l.from l.fn.found ≡ all_rows l.initial.pieces ++ l.fn.found;
}

abbrev pub decreases-loop-from : goal.decreases-loop-from
decreases-loop-from l = l.count - l.from
