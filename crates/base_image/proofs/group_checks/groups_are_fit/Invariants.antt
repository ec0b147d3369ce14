use Rattle.std.proofs.Common.{length}
use Rattle.ts_model.specs.Valid.{group_fits}
use Rattle.base_image.proofs.ListLaws.{IsToldBy}
use Rattle.base_image.proofs.group_checks.groups_are_fit.Given as goal

abbrev pub invariant-loop-left : goal.invariant-loop-left
invariant-loop-left l = IsToldBy (group_fits l.def l.dirty) l.groups l.left

abbrev pub decreases-loop-left : goal.decreases-loop-left
decreases-loop-left l = length l.left
