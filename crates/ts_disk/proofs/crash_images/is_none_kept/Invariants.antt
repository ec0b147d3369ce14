use Rattle.std.proofs.Common.{◌≡◌, ◌+◌, ◌≤◌, length}
use Rattle.ts_disk.specs.MemDisk.{pieces_of}
use Rattle.ts_disk.specs.PickedImages.{none_kept}
use Rattle.ts_disk.proofs.crash_images.is_none_kept.Given as goal

abbrev pub invariant-loop-left : goal.invariant-loop-left
invariant-loop-left l = record {
  same : none_kept l.pick l.number (pieces_of l.left) ≡ none_kept l.pick l.i (pieces_of l.acts);
  count : l.number + length l.left ≤ l.i + length l.acts;
}

abbrev pub decreases-loop-left : goal.decreases-loop-left
decreases-loop-left l = length l.left
