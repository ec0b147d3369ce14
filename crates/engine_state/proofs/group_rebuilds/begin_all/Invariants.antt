use Rattle.std.proofs.Common.{[], take}
use Rattle.engine_state.specs.Lists.{Each}
use Rattle.engine_state.specs.GroupRebuilds.{AreRefolds}
use Rattle.engine_state.proofs.group_rebuilds.begin_all.Given as goal

abbrev pub invariant-loop-view : goal.invariant-loop-view
invariant-loop-view l = Each (AreRefolds l.image (λ t. [])) (take l.view l.roster.views) l.made.items
