use Rattle.std.proofs.Common.{◌≡◌, ◌-◌, ◌≤◌}
use Rattle.ts_disk.specs.FileCalls.{after_zeros}
use Rattle.ts_disk.proofs.file_disks.grow.Given as goal

abbrev pub invariant-loop-at : goal.invariant-loop-at
invariant-loop-at g l = record {
  from : l.end ≤ l.at;
  within : l.at ≤ l.goal;
  zeros : g.F.FileCalls.known l.file ≡ after_zeros (g.F.FileCalls.known l.fn.file) (l.at - l.end);
}

abbrev pub decreases-loop-at : goal.decreases-loop-at
decreases-loop-at g l = l.goal - l.at
