-- What is gone from the rest was written, and no fault was counted.
use Rattle.std.proofs.Common.{◌≡◌, length}
use Rattle.ts_io.proofs.Writing.{AppendsSome}
use Rattle.ts_io.proofs.whole.write_whole.Given as goal

abbrev pub invariant-loop-rest : goal.invariant-loop-rest
invariant-loop-rest g l = record {
  part : AppendsSome (g.K.Sink.written l.initial.sink) (g.K.Sink.written l.sink) l.bytes l.rest;
  counted : g.K.Sink.faults l.sink ≡ g.K.Sink.faults l.initial.sink;
}

abbrev pub decreases-loop-rest : goal.decreases-loop-rest
decreases-loop-rest g l = length l.rest
