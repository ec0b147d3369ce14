use Rattle.std.proofs.Common.{◌≡◌, [], length, take, drop}
use Rattle.stmt_check.specs.Tables.{columns_refusal}
use Rattle.stmt_check.proofs.tables.check_columns.Given as goal

-- what is left decides
abbrev pub invariant-loop-place : goal.invariant-loop-place
invariant-loop-place l =
    columns_refusal l.fn.pos (length l.fn.columns) [] l.fn.columns
    ≡ columns_refusal l.fn.pos (length l.fn.columns) (take l.place l.fn.columns) (drop l.place l.fn.columns)
