use Rattle.std.proofs.Common.{length}
use Rattle.std.specs.List.{AllByRecursion}
use Rattle.event_codec.specs.Formed.{IsValue}
use Rattle.image_fields.proofs.fields.values_law.Given as goal

abbrev pub invariant-values : goal.invariant-values
invariant-values l = AllByRecursion IsValue l.left → AllByRecursion IsValue l.fn.values

abbrev pub decreases-values : goal.decreases-values
decreases-values l = length l.left
