use Rattle.std.proofs.Common.{length}
use Rattle.std.specs.List.{AllByRecursion}
use Rattle.base_image.specs.Formed.{IsSums}
use Rattle.image_fields.proofs.fields.all_sums_law.Given as goal

abbrev pub invariant-parts : goal.invariant-parts
invariant-parts l = AllByRecursion IsSums l.left → AllByRecursion IsSums l.fn.parts

abbrev pub decreases-parts : goal.decreases-parts
decreases-parts l = length l.left
