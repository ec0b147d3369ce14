use Rattle.ts_model.specs.declared.events.Event.TheVariants.{View}
use Rattle.ts_model.specs.Calls.{making_view}
use Rattle.ts_model.specs.History.{prefix}
use Rattle.engine_core.specs.Acts.{making_event}
use Rattle.engine_core.specs.Histories.{history_of}
use Rattle.engine_core.proofs.ActLaws.{answered_view}
use Rattle.audit.proofs.CallLaws.{came_to}
use Rattle.audit.proofs.known_history.KnownHistoryPast.make_view.Goals as goal

pub returns : goal.returns
returns c =
    let all = history_of c.args.self.now.timeline.past in
    let h = prefix all c.args.at in
    came_to (λ e. e.pos) (making_event (View c.args.def) h) (making_view c.args.def h) all c.args.at c.call.result c.event_number.result (answered_view c.args.def h) c.event_number.ensures c.call.ensures.came
