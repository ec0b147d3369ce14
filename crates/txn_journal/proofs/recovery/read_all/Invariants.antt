use Rattle.std.proofs.Common.{◌≡◌, ◌-◌, List, ℕ}
use Rattle.ts_disk.specs.Disk.{Keeps}
use Rattle.ts_disk.specs.declared.disks.TheConstants.{MOST_BYTES}
use Rattle.txn_journal.specs.Contents.{Content, nothing}
use Rattle.txn_journal.specs.Reading.{HasRead}
use Rattle.txn_journal.proofs.PlacedLaws.{ListedTo}
use Rattle.txn_journal.proofs.recovery.read_all.Given as goal

abbrev pub invariant-payloads : goal.invariant-payloads
invariant-payloads g l = record {
  read : (file : List ℕ) → HasRead g.D.Disk.bytes l.fn.reader file nothing → (content : Content) × ListedTo file l.payloads content l.reader.at × HasRead g.D.Disk.bytes l.reader file content;
  kept : Keeps g.D.Disk.bytes g.D.Disk.may_leave g.D.Disk.moment g.D.Disk.left_since l.fn.reader.disk l.reader.disk;
  counted : g.D.Disk.faults l.reader.disk ≡ g.D.Disk.faults l.fn.reader.disk;
}

abbrev pub decreases-payloads : goal.decreases-payloads
decreases-payloads g l = MOST_BYTES - l.reader.at
