use Rattle.std.proofs.Common.{◌≡◌, map, take}
use Rattle.cal_bucket.specs.Shapes.{place_among}
use Rattle.cal_bucket.proofs.shapes.places_among.Given as goal

abbrev pub invariant-loop-column : goal.invariant-loop-column
invariant-loop-column l = l.places.items ≡ map (place_among l.at) (take l.column-index l.columns)
