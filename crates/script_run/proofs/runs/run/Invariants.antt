-- The replies to the executed lines were written, and the store hasn't stopped.
use Rattle.std.proofs.Common.{◌≡◌, ◌+◌, ◌<◌, ◌≤◌, ◌^◌, true, false}
use Rattle.std.specs.Io.KnownBytes.{prepend_known}
use Rattle.ts_io.specs.Reader.{Follows}
use Rattle.ts_io.specs.declared.limits.TheConstants.{INPUT_LIMIT}
use Rattle.script_run.specs.Sessions.{sessions_of, waiting_in, AreSessions}
use Rattle.script_run.specs.RunStates.{WentOn}
use Rattle.script_run.proofs.Progress.{Come}
use Rattle.script_run.proofs.RunLaws.{OfInput}
use Rattle.script_run.proofs.runs.run.Given as goal

abbrev pub invariant-loop-script : goal.invariant-loop-script
invariant-loop-script g l = record {
  progress : OfInput (g.S.Source.left l.initial.source) l.lines.allowed (prepend_known l.lines.held (g.S.Source.left l.source))
      (Come g.A.Actor.semantics (g.B.Backend.state l.initial.backend).history (g.K.Sink.written l.initial.sink) l.initial.steps (g.B.Backend.state l.backend) (g.K.Sink.written l.sink) l.steps
      (sessions_of g.A.Actor.places l.script.sessions.entries) l.script.line l.script.refused);
  sessions : AreSessions g.A.Actor (g.B.Backend.state l.backend) l.script.sessions.entries;
  waiting : waiting_in g.A.Actor.waiting l.script.sessions.entries + l.lines.allowed ≤ INPUT_LIMIT;
  counts : l.steps < 2 ^ 64;
  store : WentOn false (g.B.Backend.state l.initial.backend) (g.B.Backend.state l.backend);
  kin : g.B.Backend.kin l.backend ≡ g.B.Backend.kin l.initial.backend;
  is_open : l.lines.is_open ≡ true;
  follows : Follows l.lines (g.S.Source.ended l.source) (g.S.Source.left l.source);
  room : l.script.line + l.lines.allowed ≤ INPUT_LIMIT + 1;
  reads : g.S.Source.faults l.source ≡ g.S.Source.faults l.initial.source;
  writes : g.K.Sink.faults l.sink ≡ g.K.Sink.faults l.initial.sink;
}

abbrev pub decreases-loop-script : goal.decreases-loop-script
decreases-loop-script g l = l.lines.allowed
