use Rattle.std.proofs.Common.{length}
use Rattle.std.specs.List.{AllByRecursion}
use Rattle.image_fields.specs.Fields.{HasSaved}
use Rattle.image_fields.proofs.fields.views_law.Given as goal

abbrev pub invariant-views : goal.invariant-views
invariant-views l = AllByRecursion HasSaved l.left → AllByRecursion HasSaved l.fn.views

abbrev pub decreases-views : goal.decreases-views
decreases-views l = length l.left
