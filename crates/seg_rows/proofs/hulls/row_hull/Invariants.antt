use Rattle.std.proofs.Common.{◌≡◌, take}
use Rattle.seg_rows.specs.Hulls.{hull_of}
use Rattle.seg_rows.proofs.hulls.row_hull.Given as goal

abbrev pub invariant-loop-row : goal.invariant-loop-row
invariant-loop-row l = l.hull ≡ hull_of (take l.row-index l.rows)
