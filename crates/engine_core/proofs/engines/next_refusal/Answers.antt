use Rattle.std.proofs.Common.{◌∙◌}
use Rattle.engine_core.proofs.engines.next_refusal.Goals as goal

pub returns : goal.returns
returns c = λ h s base. c.refusal_of.ensures.refused h (record {
  roster_is = c.roster.ensures.roster ∙ s.roster;
  pending_is = c.pending_of-pending.ensures h s;
  position_is = c.position.ensures.position ∙ s.position;
  base_is = base;
})
