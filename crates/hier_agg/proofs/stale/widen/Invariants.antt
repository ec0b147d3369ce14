use Rattle.std.proofs.Common.{◌≡◌, ◌≤◌, [], length, take}
use Rattle.hier_agg.specs.Stale.{widened_onto}
use Rattle.hier_agg.proofs.stale.widen.Given as goal

abbrev pub invariant-loop-left : goal.invariant-loop-left
invariant-loop-left l = record {
  within : l.left ≤ length l.stale;
  onto : widened_onto l.width (take l.left l.stale) l.found.items ≡ widened_onto l.width l.stale [];
}

abbrev pub decreases-loop-left : goal.decreases-loop-left
decreases-loop-left l = l.left
