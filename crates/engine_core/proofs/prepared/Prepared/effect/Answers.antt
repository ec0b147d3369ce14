-- The state of the history with the event has the effect of the event.
use Rattle.std.proofs.Common.{ap, ◌∙◌}
use Rattle.ts_model.specs.declared.outcomes.Committed.{Committed}
use Rattle.engine_core.specs.Values.{PreparedValue}
use Rattle.engine_core.proofs.TimelineLaws.{effect_by}
use Rattle.engine_core.proofs.prepared.Prepared.effect.Goals as goal

told : PreparedValue → Committed
told v = record { pos = v.moment.state.position; inserted = v.moment.inserted; removed = v.moment.removed }

pub returns : goal.returns
unfolding told
returns c = record {
  effect = λ h prepared.
      let m = c.args.self.now.moment in
      c.effect.ensures.effect
      ∙ ap told c.self.view_is
      ∙ effect_by h c.args.self.now.event m.state.position m.inserted m.removed prepared.stands.position prepared.counts;
}
