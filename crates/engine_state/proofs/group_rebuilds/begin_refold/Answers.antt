use Rattle.std.proofs.Common.{not, refl, sym, ap, ◌∙◌}
use Rattle.engine_state.proofs.group_rebuilds.begin_refold.Goals as goal

pub returns : goal.returns
returns c = (
  ap not (sym c.is_empty.ensures.empty ∙ c.if-is_empty.false),
  record { table_is = refl; plan_is = c.in_ok-copy.ensures.same; taken = c.new.ensures.none c.in_ok-copy.field-0 },
)
