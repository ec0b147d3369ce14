-- The state after the operations represents the history with their commit on top, and answers like any other state.
use Rattle.ts_model.specs.declared.events.Event.TheVariants.{Commit}
use Rattle.ts_model.specs.History.{◌▸◌}
use Rattle.engine_state.proofs.parts.StateParts.answer_after.Goals as goal

pub returns-clause-shown : goal.returns-clause-shown
returns-clause-shown g c = λ h st fits. c.answer.ensures.shown (h ▸ Commit c.args.ops.now) (c.in_ok-step.ensures.stands h st fits)
