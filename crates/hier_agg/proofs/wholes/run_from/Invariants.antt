use Rattle.std.specs.Prelude.{◌≡◌, length}
use Rattle.hier_agg.specs.Wholes.{run_from}
use Rattle.hier_agg.proofs.wholes.run_from.Given as goal

-- the columns left are consecutive if and only if all are
abbrev pub invariant-loop-left : goal.invariant-loop-left
invariant-loop-left l = run_from l.next l.left ≡ run_from l.first l.cols

abbrev pub decreases-loop-left : goal.decreases-loop-left
decreases-loop-left l = length l.left
