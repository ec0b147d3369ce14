use Rattle.std.proofs.Common.{◌≡◌, map, take}
use Rattle.engine_state.specs.Images.{sums_of}
use Rattle.engine_state.proofs.images.saved_sums.Given as goal

abbrev pub invariant-loop-part : goal.invariant-loop-part
invariant-loop-part l = l.sums ≡ map sums_of (take l.part-index l.parts)
