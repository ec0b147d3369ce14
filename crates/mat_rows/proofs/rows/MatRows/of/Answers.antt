-- The groups were in order.
use Rattle.std.proofs.Common.{◌∙◌, sym, subst}
use Rattle.partial_agg.specs.Groups.{AreInOrder}
use Rattle.mat_rows.proofs.rows.MatRows.of.Goals as goal

pub invariant_of-result : goal.invariant_of-result
invariant_of-result c = subst AreInOrder (sym (c.in_ok-in_blocks.ensures ∙ c.into_items.ensures.items)) c.requires.order
