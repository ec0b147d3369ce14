use Rattle.ts_disk.proofs.Replays.{Replaying}
use Rattle.ts_disk.proofs.crash_images.replay.Given as goal

abbrev pub invariant-loop-i : goal.invariant-loop-i
invariant-loop-i l = Replaying l.first l.acts l.i l.since l.synced.items l.now.items
