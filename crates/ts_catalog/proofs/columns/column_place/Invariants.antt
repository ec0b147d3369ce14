use Rattle.std.proofs.Common.{◌≡◌, ◌+◌, length}
use Rattle.ts_catalog.specs.Columns.{column_from}
use Rattle.ts_catalog.proofs.columns.column_place.Given as goal

-- what is left decides
abbrev pub invariant-loop-left : goal.invariant-loop-left
invariant-loop-left l =
    (column_from l.fn.name 0 l.fn.columns ≡ column_from l.fn.name l.place l.left)
    × (l.place + length l.left ≡ length l.fn.columns)

abbrev pub decreases-loop-left : goal.decreases-loop-left
decreases-loop-left l = length l.left
