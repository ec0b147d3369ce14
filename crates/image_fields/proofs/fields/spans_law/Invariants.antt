use Rattle.std.proofs.Common.{length}
use Rattle.std.specs.List.{AllByRecursion}
use Rattle.image_fields.specs.Fields.{HasSpan}
use Rattle.image_fields.proofs.fields.spans_law.Given as goal

abbrev pub invariant-spans : goal.invariant-spans
invariant-spans l = AllByRecursion HasSpan l.left → AllByRecursion HasSpan l.fn.spans

abbrev pub decreases-spans : goal.decreases-spans
decreases-spans l = length l.left
