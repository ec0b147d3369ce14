use Rattle.std.proofs.Common.{◌≡◌, false, map}
use Rattle.std.specs.List.{list_any}
use Rattle.par_workers.specs.Slots.{workers_of}
use Rattle.par_run.specs.Outputs.{output_in, with_sessions}
use Rattle.par_run.specs.Workers.{ran_out, replies_of}
use Rattle.par_run.proofs.outputs.append_crew.Given as goal

abbrev pub invariant-loop-slot : goal.invariant-loop-slot
invariant-loop-slot g l = record {
  can : (goal.iterator-loop-slot g).can_next l.slot-iterator;
  finite : (goal.iterator-loop-slot g).is_finite l.slot-iterator;
  enough : list_any ran_out (workers_of l.yielded) ≡ false;
  output : output_in l.output ≡ with_sessions (map (replies_of g.A.Actor.named) (workers_of l.yielded)) (output_in l.fn.output);
}
