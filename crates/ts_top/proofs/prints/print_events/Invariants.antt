-- The lines of the events before this index were printed.
use Rattle.std.proofs.Common.{◌≡◌, ◌+◌, drop}
use Rattle.ts_top.specs.Logs.{lines_after}
use Rattle.ts_top.proofs.LogLaws.{PrintedUpTo}
use Rattle.ts_top.proofs.prints.print_events.Given as goal

abbrev pub invariant-loop-event : goal.invariant-loop-event
invariant-loop-event g l = record {
  printed : PrintedUpTo (g.K.Sink.written l.initial.sink) (g.K.Sink.written l.sink) (lines_after l.names l.after l.events) (lines_after l.names l.number (drop l.event-index l.events));
  numbered : l.number ≡ l.after + l.event-index;
  faults : g.K.Sink.faults l.sink ≡ g.K.Sink.faults l.initial.sink;
}
