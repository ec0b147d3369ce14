use Rattle.std.proofs.Common.{◌≡◌, subst, sym}
use Rattle.ts_model.specs.History.{History, prefix}
use Rattle.ts_sessions.specs.declared.deeds.RelationChange.{RelationChange}
use Rattle.ts_sessions.specs.declared.deeds.RelationChange.TheVariants as making
use Rattle.ts_sessions.specs.Deeds.{event_of, making_of}
use Rattle.engine_core.specs.Acts.{making_event, with_answer}
use Rattle.engine_core.specs.Histories.{history_of}
use Rattle.engine_core.proofs.ActLaws.{answered_hyper, answered_mode, answered_table}
use Rattle.audit.proofs.CallLaws.{came_to}
use Rattle.audit.proofs.known_history.KnownHistoryPast.make.Goals as goal

-- the call that creates or sets a relation is that of its event
answered_making : (m : RelationChange) (h : History) → making_of m h ≡ with_answer (λ e. e.pos) (making_event (event_of m) h)
answered_making (making.Table def) h = answered_table def h
answered_making (making.Hyper table hyper) h = answered_hyper table hyper h
answered_making (making.Mode view only) h = answered_mode view only h

pub returns : goal.returns
returns c =
    let all = history_of c.args.self.now.timeline.past in
    let h = prefix all c.args.at in
    let m = c.args.making in
    came_to (λ e. e.pos) (making_event c.event.result h) (making_of m h) all c.args.at c.call.result c.event_number.result
    (subst (λ e. making_of m h ≡ with_answer (λ x. x.pos) (making_event e h)) (sym c.event.ensures) (answered_making m h)) c.event_number.ensures c.call.ensures.came
