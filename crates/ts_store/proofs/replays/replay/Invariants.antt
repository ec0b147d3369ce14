use Rattle.std.proofs.Common.{◌≡◌, ◌-◌, List, ℕ}
use Rattle.engine_core.specs.Histories.{history_of}
use Rattle.ts_disk.specs.Disk.{Keeps}
use Rattle.ts_disk.specs.declared.disks.TheConstants.{MOST_BYTES}
use Rattle.txn_journal.specs.Contents.{nothing}
use Rattle.txn_journal.specs.Reading.{HasRead}
use Rattle.ts_store.specs.Stands.{IsSound, content_of}
use Rattle.ts_store.proofs.replays.replay.Given as goal

abbrev pub invariant-events : goal.invariant-events
invariant-events g l = record {
  read : (file : List ℕ) → HasRead g.D.Disk.bytes l.fn.reader file nothing → HasRead g.D.Disk.bytes l.reader file (content_of (history_of (g.T.Follower.past l.follower)));
  sound : IsSound (history_of (g.T.Follower.past l.follower));
  kept : Keeps g.D.Disk.bytes g.D.Disk.may_leave g.D.Disk.moment g.D.Disk.left_since l.fn.reader.disk l.reader.disk;
  counted : g.D.Disk.faults l.reader.disk ≡ g.D.Disk.faults l.fn.reader.disk;
}

abbrev pub decreases-events : goal.decreases-events
decreases-events g l = MOST_BYTES - l.reader.at
