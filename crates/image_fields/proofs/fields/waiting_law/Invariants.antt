use Rattle.std.proofs.Common.{length}
use Rattle.std.specs.List.{AllByRecursion}
use Rattle.image_fields.specs.Fields.{HasWaiting}
use Rattle.image_fields.proofs.fields.waiting_law.Given as goal

abbrev pub invariant-waiting : goal.invariant-waiting
invariant-waiting l = AllByRecursion HasWaiting l.left → AllByRecursion HasWaiting l.fn.waiting

abbrev pub decreases-waiting : goal.decreases-waiting
decreases-waiting l = length l.left
