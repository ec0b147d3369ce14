use Rattle.std.proofs.Common.{length}
use Rattle.std.proofs.Common.{◌&&◌, Some}
use Rattle.ts_model.specs.Sound.{span_fits}
use Rattle.ts_model.specs.Valid.{has_lasts}
use Rattle.base_image.proofs.ListLaws.{IsToldBy}
use Rattle.base_image.proofs.ranges.dirty_are_fit.Given as goal

abbrev pub invariant-loop-left : goal.invariant-loop-left
invariant-loop-left l = IsToldBy (λ s. span_fits s (Some l.def) && has_lasts l.def.fold.width l.lasts s) l.dirty l.left

abbrev pub decreases-loop-left : goal.decreases-loop-left
decreases-loop-left l = length l.left
