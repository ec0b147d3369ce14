-- The line of the image comes first, and then that of each event.
use Rattle.std.proofs.Common.{◌≡◌, ◌-◌, length, sym, ap, ◌∙◌, arith}
use Rattle.ts_model.specs.History.{position}
use Rattle.engine_core.specs.Histories.{begun_by}
use Rattle.engine_core.proofs.EventLaws.{position_of}
use Rattle.ts_top.proofs.LogLaws.{log_part_of_base, log_part_of_events, log_whole}
use Rattle.ts_top.proofs.PrintLaws.{on_err}
use Rattle.ts_top.proofs.prints.print_log.Goals as goal

pub overflow_sub-after : goal.overflow_sub-after
overflow_sub-after g c = omega (arith, ap length c.events-events.ensures.events, c.length.ensures.position, position_of c.args.ledger.now.past)

pub returns-in_err-print_base-clause-part : goal.returns-in_err-print_base-clause-part
returns-in_err-print_base-clause-part g c =
    let K = g.K.Sink in
    on_err c.from_residual.result _
    (log_part_of_base (K.written c.args.sink.now) (K.written c.args.sink.now) (K.written c.print_base.new.sink) c.args.ledger.now.past c.base.result.now c.base.ensures.base c.in_err-print_base.ensures.part)

pub returns-in_err-print_events-clause-part : goal.returns-in_err-print_events-clause-part
returns-in_err-print_events-clause-part g c =
    let K = g.K.Sink in
    let past = c.args.ledger.now.past in
    let numbered : c.length.result - length c.events-events.result.now ≡ position (begun_by past.base) = omega (arith, ap length c.events-events.ensures.events, c.length.ensures.position, position_of past) in
    on_err c.from_residual-in_err-print_events.result _
    (log_part_of_events (K.written c.args.sink.now) (K.written c.print_base.new.sink) (K.written c.print_events.new.sink) past c.base.result.now c.base.ensures.base c.events-events.result.now _ c.roster.result.now
    c.events-events.ensures.events numbered c.roster.ensures.roster c.in_ok-print_base.ensures.done c.in_err-print_events.ensures.part)

pub returns-clause-done : goal.returns-clause-done
returns-clause-done g c =
    let K = g.K.Sink in
    let past = c.args.ledger.now.past in
    let numbered : c.length.result - length c.events-events.result.now ≡ position (begun_by past.base) = omega (arith, ap length c.events-events.ensures.events, c.length.ensures.position, position_of past) in
    log_whole (K.written c.args.sink.now) (K.written c.print_base.new.sink) (K.written c.print_events.new.sink) past c.base.result.now c.base.ensures.base c.events-events.result.now _ c.roster.result.now
    c.events-events.ensures.events numbered c.roster.ensures.roster c.in_ok-print_base.ensures.done c.in_ok-print_events.ensures.done
