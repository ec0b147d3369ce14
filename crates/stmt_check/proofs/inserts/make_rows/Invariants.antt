use Rattle.std.proofs.Common.{◌≡◌, ◌≤◌, ◌++◌, drop, length}
use Rattle.std.specs.Arc.{arc_value}
use Rattle.std.specs.List.{flat_map}
use Rattle.stmt_check.specs.Rows.{others_of, rows_of}
use Rattle.stmt_check.proofs.inserts.make_rows.Given as goal

-- the rest of the block are the values of the remaining rows; with these the rows so far are all rows
abbrev pub invariant-loop-values : goal.invariant-loop-values
invariant-loop-values l =
    (l.from ≤ length (arc_value l.block))
    × (drop l.from (arc_value l.block) ≡ flat_map (others_of l.fn.shape) l.values-iterator)
    × (l.made.items ++ rows_of l.fn.shape l.values-iterator ≡ rows_of l.fn.shape l.fn.rows)
