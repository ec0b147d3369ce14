use Rattle.std.proofs.Common.{◌≡◌, sum_by, take}
use Rattle.ts_schema.specs.Counts.{raised_by}
use Rattle.par_workers.specs.Slots.{workers_of}
use Rattle.par_run.specs.Workers.{replies_of}
use Rattle.par_run.proofs.outputs.reads_of.Given as goal

abbrev pub invariant-loop-slot : goal.invariant-loop-slot
invariant-loop-slot g l = l.reads ≡ raised_by (sum_by (λ w. (replies_of g.A.Actor.named w).reads) (workers_of (take l.slot-index l.crew))) 0
