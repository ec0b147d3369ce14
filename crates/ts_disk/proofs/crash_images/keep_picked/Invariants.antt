use Rattle.std.proofs.Common.{◌≡◌, ◌+◌, ◌≤◌, length}
use Rattle.ts_disk.specs.MemDisk.{pieces_of}
use Rattle.ts_disk.specs.PickedImages.{picked_from}
use Rattle.ts_disk.proofs.crash_images.keep_picked.Given as goal

abbrev pub invariant-loop-left : goal.invariant-loop-left
invariant-loop-left l = record {
  same : picked_from l.pick l.i l.image.items (pieces_of l.left) ≡ picked_from l.pick 0 l.fn.image.items (pieces_of l.acts);
  count : l.i + length l.left ≤ length l.acts;
}

abbrev pub decreases-loop-left : goal.decreases-loop-left
decreases-loop-left l = length l.left
