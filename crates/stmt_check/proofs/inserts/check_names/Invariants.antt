use Rattle.std.proofs.Common.{◌≡◌, [], take, drop}
use Rattle.stmt_check.specs.Rows.{list_refusal}
use Rattle.stmt_check.proofs.inserts.check_names.Given as goal

-- what is left decides
abbrev pub invariant-loop-place : goal.invariant-loop-place
invariant-loop-place l = list_refusal l.fn.pos l.fn.columns [] l.fn.names ≡ list_refusal l.fn.pos l.fn.columns (take l.place l.fn.names) (drop l.place l.fn.names)
