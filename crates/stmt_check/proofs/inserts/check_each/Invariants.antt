use Rattle.std.proofs.Common.{◌≡◌}
use Rattle.stmt_check.specs.Rows.{rows_refusal}
use Rattle.stmt_check.proofs.inserts.check_each.Given as goal

-- what is left decides
abbrev pub invariant-loop-place : goal.invariant-loop-place
invariant-loop-place l = rows_refusal l.fn.pos l.fn.shape 0 l.fn.rows ≡ rows_refusal l.fn.pos l.fn.shape l.place l.values-iterator
