-- Each event has its line.
use Rattle.std.proofs.Common.{◌≡◌, suc, ◌+◌, ◌<◌, ◌∷◌, ◌++◌, List, ℕ, drop, get_or, length, sym, ap, ◌∙◌, subst, arith}
use Rattle.std.proofs.lemmas.List.{drop_more}
use Rattle.ts_model.specs.declared.events.Event.{Event}
use Rattle.ts_model.specs.declared.rosters.Roster.{Roster}
use Rattle.result_text.specs.Events.{log_text}
use Rattle.ts_top.specs.Logs.{lines_after}
use Rattle.ts_top.proofs.LogLaws.{PrintedUpTo, next_line, printed_next, printed_part}
use Rattle.ts_top.proofs.PrintLaws.{on_err}
use Rattle.ts_top.proofs.prints.print_events.Goals as goal

pub returns-in_err-print_event-clause-part : goal.returns-in_err-print_event-clause-part
returns-in_err-print_event-clause-part g c =
    let K = g.K.Sink in
    let number = c.loop-event.number in
    let rest : List Event = drop (c.loop-event.event-index + 1) c.args.events.now in
    let line = next_line c.args.names.now number c.args.events.now c.loop-event.event-index c.event-item.result (omega (arith, c.loop-event-test.true)) c.event-item.is in
    on_err c.from_residual.result _
    (printed_part (K.written c.args.sink.now) (K.written c.loop-event.sink) (K.written c.print_event.new.sink) (lines_after c.args.names.now c.args.after c.args.events.now) (log_text (number + 1) c.args.names.now c.event-item.result) (lines_after c.args.names.now (number + 1) rest)
    (subst (PrintedUpTo (K.written c.args.sink.now) (K.written c.loop-event.sink) (lines_after c.args.names.now c.args.after c.args.events.now)) line c.loop-event.invariant.printed) c.in_err-print_event.ensures.part)

pub loop-event-preserved : goal.loop-event-preserved
loop-event-preserved g c =
    let K = g.K.Sink in
    let number = c.loop-event.number in
    let rest : List Event = drop (c.loop-event.event-index + 1) c.args.events.now in
    let line = next_line c.args.names.now number c.args.events.now c.loop-event.event-index c.event-item.result (omega (arith, c.loop-event-test.true)) c.event-item.is in
    record {
      printed = printed_next (K.written c.args.sink.now) (K.written c.loop-event.sink) (K.written c.print_event.new.sink) (lines_after c.args.names.now c.args.after c.args.events.now) (log_text (number + 1) c.args.names.now c.event-item.result) (lines_after c.args.names.now (number + 1) rest)
          (subst (PrintedUpTo (K.written c.args.sink.now) (K.written c.loop-event.sink) (lines_after c.args.names.now c.args.after c.args.events.now)) line c.loop-event.invariant.printed) c.in_ok-print_event.ensures.done;
      numbered = omega (arith, c.loop-event.invariant.numbered);
      faults = c.in_ok-print_event.ensures.counted ∙ c.loop-event.invariant.faults;
    }
