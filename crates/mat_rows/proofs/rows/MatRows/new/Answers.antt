-- The empty list is in order.
use Rattle.std.proofs.Common.{sym, subst}
use Rattle.partial_agg.specs.Groups.{AreInOrder}
use Rattle.mat_rows.proofs.PlaceLaws.{order_none}
use Rattle.mat_rows.proofs.rows.MatRows.new.Goals as goal

pub invariant_of-result : goal.invariant_of-result
invariant_of-result c = subst AreInOrder (sym c.new.ensures.items) order_none
