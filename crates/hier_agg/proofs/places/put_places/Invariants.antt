use Rattle.std.proofs.Common.{◌≡◌, ◌++◌, map, suc, take}
use Rattle.hier_agg.proofs.places.put_places.Given as goal

abbrev pub invariant-loop-col : goal.invariant-loop-col
invariant-loop-col l = l.places.items ≡ l.initial.places.items ++ map suc (take l.col-index l.cols)
