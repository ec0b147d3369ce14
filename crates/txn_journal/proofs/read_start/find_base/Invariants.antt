use Rattle.std.proofs.Common.{◌≡◌, ℕ, ◌-◌, ◌<◌, ◌≤◌, List, Some}
use Rattle.ts_disk.specs.Disk.{HasLength, Keeps}
use Rattle.ts_disk.specs.declared.disks.TheConstants.{MOST_BYTES}
use Rattle.txn_journal.specs.Reading.{StartsAs}
use Rattle.txn_journal.specs.declared.heads.Start.TheVariants.{Journal as StartsJournal}
use Rattle.txn_journal.specs.declared.versions.Version.TheVariants.{Two}
use Rattle.txn_journal.proofs.BaseLaws.{HasWalked}
use Rattle.txn_journal.proofs.read_start.find_base.Given as goal

abbrev pub invariant-frames : goal.invariant-frames
invariant-frames g l = record {
  walked : (file : List ℕ) → g.D.Disk.bytes l.fn.disk ≡ Some file → StartsAs (StartsJournal Two) file → HasWalked file l.at l.base;
  behind : 8 ≤ l.base;
  passed : l.base ≤ l.at;
  within : l.at < l.size;
  most : l.size ≤ MOST_BYTES;
  length : HasLength (g.D.Disk.bytes l.disk) l.size;
  kept : Keeps g.D.Disk.bytes g.D.Disk.may_leave g.D.Disk.moment g.D.Disk.left_since l.fn.disk l.disk;
  counted : g.D.Disk.faults l.disk ≡ g.D.Disk.faults l.fn.disk;
}

abbrev pub decreases-frames : goal.decreases-frames
decreases-frames g l = MOST_BYTES - l.at
