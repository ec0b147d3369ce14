use Rattle.std.proofs.Common.{◌≡◌, false, take}
use Rattle.std.specs.List.{list_any}
use Rattle.engine_state.specs.GroupRebuilds.{is_over}
use Rattle.engine_state.proofs.group_rebuilds.are_over.Given as goal

abbrev pub invariant-loop-refold : goal.invariant-loop-refold
invariant-loop-refold l = list_any (is_over l.table) (take l.refold-index l.refolds) ≡ false
