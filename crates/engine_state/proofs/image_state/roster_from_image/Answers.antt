use Rattle.std.proofs.Common.{ap, ◌∙◌}
use Rattle.ts_model.specs.Roster.{no_relations, roster_after}
use Rattle.engine_state.proofs.ResumedStates.{roster_more}
use Rattle.engine_state.proofs.image_state.roster_from_image.Goals as goal

pub loop-event-preserved : goal.loop-event-preserved
loop-event-preserved c =
    c.in_ok-made.ensures ∙ ap (λ r. roster_after r c.event-item.result) c.loop-event.invariant
    ∙ roster_more no_relations c.args.events.now c.loop-event.event-index c.event-item.result c.loop-event-test.true c.event-item.is
