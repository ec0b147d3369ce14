use Rattle.std.proofs.Common.{◌≡◌, ◌+◌, length}
use Rattle.ts_catalog.specs.Relations.{table_from}
use Rattle.ts_catalog.proofs.relations.find_table.Given as goal

-- what is left decides
abbrev pub invariant-loop-left : goal.invariant-loop-left
invariant-loop-left l =
    (table_from l.fn.name 0 l.fn.tables ≡ table_from l.fn.name l.number l.left)
    × (l.number + length l.left ≡ length l.fn.tables)

abbrev pub decreases-loop-left : goal.decreases-loop-left
decreases-loop-left l = length l.left
