use Rattle.std.proofs.Common.{◌≡◌, map, take}
use Rattle.ts_model.specs.Saved.{group_of}
use Rattle.engine_state.proofs.image_views.groups_of_saved.Given as goal

abbrev pub invariant-loop-group : goal.invariant-loop-group
invariant-loop-group l = l.groups ≡ map group_of (take l.group-index l.saved)
