use Rattle.std.proofs.Common.{◌≡◌, take}
use Rattle.engine_state.specs.Lists.{Each}
use Rattle.engine_state.specs.Steps.{GoesIf, appended_to, sum_from, taken_from}
use Rattle.engine_state.proofs.commits.all_after.Given as goal

abbrev pub invariant-loop-i : goal.invariant-loop-i
invariant-loop-i l =
    Each (GoesIf l.ops l.fn.pos) (take l.i l.tables) l.after
    × (l.inserted ≡ sum_from (appended_to l.ops) 0 (take l.i l.tables))
    × (l.removed ≡ sum_from (taken_from l.ops l.fn.pos) 0 (take l.i l.tables))
