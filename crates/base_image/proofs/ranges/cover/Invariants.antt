use Rattle.std.proofs.Common.{◌≡◌, length}
use Rattle.base_image.specs.Rising.{cover_from, spans_of}
use Rattle.base_image.proofs.ranges.cover.Given as goal

abbrev pub invariant-loop-left : goal.invariant-loop-left
invariant-loop-left l = cover_from l.end l.until (spans_of l.left) ≡ cover_from l.from l.until (spans_of l.lasts)

abbrev pub decreases-loop-left : goal.decreases-loop-left
decreases-loop-left l = length l.left
