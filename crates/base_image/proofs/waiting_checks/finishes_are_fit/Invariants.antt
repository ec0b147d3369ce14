use Rattle.std.proofs.Common.{length}
use Rattle.std.proofs.Common.{◌&&◌, ◌==◌, nat_le, nat_lt, not}
use Rattle.std.specs.List.{list_any}
use Rattle.ts_model.specs.Valid.{is_number}
use Rattle.base_image.proofs.ListLaws.{IsToldBy}
use Rattle.base_image.proofs.waiting_checks.finishes_are_fit.Given as goal

abbrev pub invariant-loop-left : goal.invariant-loop-left
invariant-loop-left l = IsToldBy (λ f. is_number l.pos f.cut && nat_lt f.cut f.built && nat_le f.built l.pos && not (list_any (λ w. w.cut == f.cut) l.waiting)) l.done l.left

abbrev pub decreases-loop-left : goal.decreases-loop-left
decreases-loop-left l = length l.left
