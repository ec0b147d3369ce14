use Rattle.std.proofs.Common.{◌≡◌, map, take}
use Rattle.cal_bucket.specs.Shapes.{agg_among}
use Rattle.cal_bucket.proofs.shapes.aggs_among.Given as goal

abbrev pub invariant-loop-agg : goal.invariant-loop-agg
invariant-loop-agg l = l.placed.items ≡ map (agg_among l.at) (take l.agg-index l.aggs)
