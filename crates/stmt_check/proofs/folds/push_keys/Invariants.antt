use Rattle.std.proofs.Common.{◌≡◌, ◌++◌, take}
use Rattle.stmt_check.proofs.folds.push_keys.Given as goal

-- the names so far
abbrev pub invariant-loop-key : goal.invariant-loop-key
invariant-loop-key l = l.names ≡ l.initial.names ++ take l.key-index l.fn.keys
