use Rattle.std.proofs.Common.{length}
use Rattle.base_image.proofs.MakingLaws.{MakesRest}
use Rattle.base_image.proofs.relations.roster_of.Given as goal

abbrev pub invariant-loop-left : goal.invariant-loop-left
invariant-loop-left l = MakesRest l.events l.begun l.made l.left

abbrev pub decreases-loop-left : goal.decreases-loop-left
decreases-loop-left l = length l.left
