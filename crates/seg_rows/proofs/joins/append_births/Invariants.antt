use Rattle.std.proofs.Common.{◌≡◌, ◌++◌, map, take}
use Rattle.seg_rows.specs.Lives.{lives_of, life_from}
use Rattle.seg_rows.proofs.joins.append_births.Given as goal

abbrev pub invariant-loop-i : goal.invariant-loop-i
invariant-loop-i l = map life_from l.into.items ≡ map life_from l.initial.into.items ++ take l.i (lives_of l.count l.lives)
