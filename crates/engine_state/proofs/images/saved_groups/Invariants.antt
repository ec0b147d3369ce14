use Rattle.std.proofs.Common.{◌≡◌, ◌++◌, map}
use Rattle.engine_state.specs.Images.{saved_group}
use Rattle.engine_state.proofs.images.saved_groups.Given as goal

abbrev pub invariant-loop-group : goal.invariant-loop-group
invariant-loop-group l = l.saved ++ map saved_group l.group-iterator ≡ map saved_group l.fn.groups
