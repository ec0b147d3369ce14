use Rattle.std.proofs.Common.{◌≡◌, ◌+◌, ◌≤◌, map, take, drop, sum_by}
use Rattle.ts_sessions.specs.Held.{most_queued}
use Rattle.par_laws.specs.Parallel.{SessionExecutedTo}
use Rattle.par_lines.specs.Places.{line_at}
use Rattle.par_run.specs.Workers.{said_by}
use Rattle.par_run.proofs.executors.Executor.execute_all.Given as goal

abbrev pub invariant-loop-line : goal.invariant-loop-line
invariant-loop-line g l =
    let actors = g.A.Actor in
    record {
      executed : SessionExecutedTo actors.within actors.semantics.does (actors.semantics.opening 0) g.B.Backend.alone (record { name = actors.named l.fn.self.actor; lines = map (line_at l.input) (take l.line-index l.lines) })
          (g.B.Backend.state l.fn.backend) (said_by actors.named l.self) (g.B.Backend.state l.backend) (actors.places l.self.actor);
      name : actors.named l.self.actor ≡ actors.named l.fn.self.actor;
      number : actors.numbered l.self.actor ≡ actors.numbered l.fn.self.actor;
      holds : actors.holds l.self.actor (g.B.Backend.state l.backend);
      room : actors.waiting l.self.actor + sum_by (λ line. line.len) (drop l.line-index l.lines) ≤ most_queued;
      kin : g.B.Backend.kin l.backend ≡ g.B.Backend.kin l.fn.backend;
    }
