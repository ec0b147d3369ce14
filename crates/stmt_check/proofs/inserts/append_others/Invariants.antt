use Rattle.std.proofs.Common.{◌≡◌, ◌++◌, map, take}
use Rattle.stmt_check.specs.Rows.{value_at}
use Rattle.stmt_check.proofs.inserts.append_others.Given as goal

-- the values so far
abbrev pub invariant-loop-place : goal.invariant-loop-place
invariant-loop-place l = l.others ≡ l.initial.others ++ map (value_at l.values) (take l.place-index l.places)
