use Rattle.std.proofs.Common.{◌≡◌, ◌++◌, take}
use Rattle.seg_rows.specs.Lives.{lives_of}
use Rattle.seg_rows.proofs.joins.append_lives.Given as goal

abbrev pub invariant-loop-i : goal.invariant-loop-i
invariant-loop-i l = l.into.items ≡ l.initial.into.items ++ take l.i (lives_of l.count l.lives)
