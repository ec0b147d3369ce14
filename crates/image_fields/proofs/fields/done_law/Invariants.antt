use Rattle.std.proofs.Common.{length}
use Rattle.std.specs.List.{AllByRecursion}
use Rattle.base_image.specs.Formed.{IsFinished}
use Rattle.image_fields.proofs.fields.done_law.Given as goal

abbrev pub invariant-done : goal.invariant-done
invariant-done l = AllByRecursion IsFinished l.left → AllByRecursion IsFinished l.fn.done

abbrev pub decreases-done : goal.decreases-done
decreases-done l = length l.left
