use Rattle.std.proofs.Common.{◌∙◌}
use Rattle.engine_core.specs.Histories.{history_of}
use Rattle.engine_core.proofs.TimelineLaws.{effect_kept}
use Rattle.engine_core.proofs.timelines.Timeline.effect_after.Goals as goal

pub returns : goal.returns
returns c = record {
  effect = λ e at.
      c.effect.ensures.effect
      ∙ effect_kept (history_of c.args.self.now.past) c.args.position e c.moment.result.now at c.moment.ensures.moment;
}
