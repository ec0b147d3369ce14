use Rattle.std.proofs.Common.{◌≡◌, ◌-◌, ◌<◌, ◌≤◌}
use Rattle.ts_disk.specs.Disk.{HasLength, Keeps}
use Rattle.ts_disk.specs.declared.disks.TheConstants.{MOST_BYTES}
use Rattle.txn_journal.proofs.heads.sight_head.Given as goal

abbrev pub invariant-longer : goal.invariant-longer
invariant-longer g l = record {
  within : l.at < l.size;
  most : l.size ≤ MOST_BYTES;
  grown : l.fn.size ≤ l.size;
  length : HasLength (g.D.Disk.bytes l.disk) l.size;
  kept : Keeps g.D.Disk.bytes g.D.Disk.may_leave g.D.Disk.moment g.D.Disk.left_since l.fn.disk l.disk;
  counted : g.D.Disk.faults l.disk ≡ g.D.Disk.faults l.fn.disk;
}

abbrev pub decreases-longer : goal.decreases-longer
decreases-longer g l = MOST_BYTES - l.size
