use Rattle.std.proofs.Common.{◌≡◌, drop}
use Rattle.stmt_check.specs.Rows.{leaves_out}
use Rattle.stmt_check.proofs.inserts.leaves_one_out.Given as goal

-- what is left decides
abbrev pub invariant-loop-place : goal.invariant-loop-place
invariant-loop-place l = leaves_out l.fn.at l.fn.names 0 l.fn.columns ≡ leaves_out l.fn.at l.fn.names l.place (drop l.place l.fn.columns)
