use Rattle.std.proofs.Common.{length}
use Rattle.std.specs.List.{AllByRecursion}
use Rattle.base_image.specs.Formed.{IsGroup}
use Rattle.image_fields.proofs.fields.groups_law.Given as goal

abbrev pub invariant-groups : goal.invariant-groups
invariant-groups l = AllByRecursion IsGroup l.left → AllByRecursion IsGroup l.fn.groups

abbrev pub decreases-groups : goal.decreases-groups
decreases-groups l = length l.left
