use Rattle.std.proofs.Common.{◌≡◌, map, take}
use Rattle.hier_agg.specs.Taken.{added_at}
use Rattle.hier_agg.proofs.shapes.all_added.Given as goal

abbrev pub invariant-loop-col : goal.invariant-loop-col
invariant-loop-col l = l.aggs.items ≡ map (added_at l.lower) (take l.col-index l.cols)
