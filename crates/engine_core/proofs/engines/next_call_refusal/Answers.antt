use Rattle.std.proofs.Common.{refl, ◌∙◌}
use Rattle.ts_model.specs.History.{base_position}
use Rattle.event_check.proofs.CheckLaws.{refused_as_call}
use Rattle.engine_core.proofs.engines.next_call_refusal.Goals as goal

pub returns : goal.returns
returns c = λ h s. refused_as_call h c.args.event.now c.roster.result.now c.pending_of-pending.result c.position.result (base_position h) c.call_refusal.result (record {
  roster_is = c.roster.ensures.roster ∙ s.roster;
  pending_is = c.pending_of-pending.ensures h s;
  position_is = c.position.ensures.position ∙ s.position;
  base_is = refl;
}) c.call_refusal.ensures
