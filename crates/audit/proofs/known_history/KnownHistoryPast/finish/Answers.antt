use Rattle.ts_model.specs.declared.events.Event.TheVariants.{Built}
use Rattle.ts_model.specs.Calls.{act_of_finish}
use Rattle.ts_model.specs.History.{prefix}
use Rattle.engine_core.specs.Acts.{making_event}
use Rattle.engine_core.specs.Histories.{history_of}
use Rattle.engine_core.proofs.ActLaws.{answered_finish}
use Rattle.audit.proofs.CallLaws.{came_to}
use Rattle.audit.proofs.known_history.KnownHistoryPast.finish.Goals as goal

pub returns : goal.returns
returns c =
    let all = history_of c.args.self.now.timeline.past in
    let h = prefix all c.args.at in
    came_to (λ e. e.pos) (making_event (Built c.args.cut c.args.snap) h) (act_of_finish c.args.cut c.args.snap h) all c.args.at c.call.result c.event_number.result (answered_finish c.args.cut c.args.snap h) c.event_number.ensures c.call.ensures.came
