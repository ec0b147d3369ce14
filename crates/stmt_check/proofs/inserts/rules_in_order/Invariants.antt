use Rattle.std.proofs.Common.{◌≡◌, ◌++◌, drop}
use Rattle.stmt_check.specs.Rows.{rules_from}
use Rattle.stmt_check.proofs.inserts.rules_in_order.Given as goal

-- the rules so far, and those of what is left
abbrev pub invariant-loop-place : goal.invariant-loop-place
invariant-loop-place l = rules_from l.fn.at 0 l.fn.columns ≡ l.rules ++ rules_from l.fn.at l.place (drop l.place l.fn.columns)
