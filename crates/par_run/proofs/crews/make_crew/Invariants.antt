use Rattle.std.proofs.Common.{◌≡◌, length, map}
use Rattle.par_lines.specs.Places.{scripts_of}
use Rattle.par_workers.specs.Slots.{workers_of}
use Rattle.par_run.specs.Crews.{IsCrew}
use Rattle.par_run.specs.Workers.{number_of}
use Rattle.par_run.proofs.crews.make_crew.Given as goal

abbrev pub invariant-loop-session : goal.invariant-loop-session
invariant-loop-session g l = record {
  can : (goal.iterator-loop-session g).can_next l.session-iterator;
  finite : (goal.iterator-loop-session g).is_finite l.session-iterator;
  crew : IsCrew g.A.Actor (scripts_of l.input l.yielded) l.crew.items;
  numbers : map (number_of g.A.Actor.numbered) (workers_of l.crew.items) ≡ map (λ session. session.number) l.yielded;
  each : length l.crew.items ≡ length l.yielded;
}
