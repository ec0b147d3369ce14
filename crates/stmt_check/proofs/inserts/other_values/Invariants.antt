use Rattle.std.proofs.Common.{◌≡◌, ◌++◌}
use Rattle.std.specs.List.{flat_map}
use Rattle.stmt_check.specs.Rows.{others_of}
use Rattle.stmt_check.proofs.inserts.other_values.Given as goal

-- the values so far, and those of the rows that are left
abbrev pub invariant-loop-values : goal.invariant-loop-values
invariant-loop-values l = l.others ++ flat_map (others_of l.fn.shape) l.values-iterator ≡ flat_map (others_of l.fn.shape) l.fn.rows
