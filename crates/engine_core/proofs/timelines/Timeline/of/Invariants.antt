use Rattle.engine_core.specs.Timelines.{IsMomentOf}
use Rattle.engine_core.specs.Values.{Past}
use Rattle.engine_core.proofs.TimelineLaws.{AreKept, up_to}
use Rattle.engine_core.proofs.timelines.Timeline.of.Given as goal

-- the history up to the events so far, and the states kept for it
abbrev pub invariant-loop-event : goal.invariant-loop-event
invariant-loop-event g l =
    let past : Past = record { base = l.fn.base; events = l.events } in
    record {
      moment : IsMomentOf (up_to past l.event-index) l.moment;
      kept : AreKept past l.start l.event-index l.moments.items;
    }
