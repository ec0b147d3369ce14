use Rattle.std.proofs.Common.{◌≡◌, map, take}
use Rattle.stmt_check.specs.Rows.{rule_of}
use Rattle.stmt_check.proofs.inserts.rules_listed.Given as goal

-- the rules so far
abbrev pub invariant-loop-name : goal.invariant-loop-name
invariant-loop-name l = l.rules ≡ map (rule_of l.fn.at l.fn.columns) (take l.name-index l.fn.names)
