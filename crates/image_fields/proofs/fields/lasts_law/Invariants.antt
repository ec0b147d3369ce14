use Rattle.std.proofs.Common.{length}
use Rattle.std.specs.List.{AllByRecursion}
use Rattle.image_fields.specs.Fields.{HasLast}
use Rattle.image_fields.proofs.fields.lasts_law.Given as goal

abbrev pub invariant-lasts : goal.invariant-lasts
invariant-lasts l = AllByRecursion HasLast l.left → AllByRecursion HasLast l.fn.lasts

abbrev pub decreases-lasts : goal.decreases-lasts
decreases-lasts l = length l.left
