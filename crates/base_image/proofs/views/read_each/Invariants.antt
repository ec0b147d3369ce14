use Rattle.std.proofs.Common.{◌≡◌, length}
use Rattle.base_image.specs.Reading.{saved_each}
use Rattle.base_image.proofs.EachView.{with_front}
use Rattle.base_image.proofs.views.read_each.Given as goal

abbrev pub invariant-loop-left : goal.invariant-loop-left
invariant-loop-left l = with_front l.views (saved_each l.left l.reader) ≡ saved_each l.fn.defs l.fn.reader

abbrev pub decreases-loop-left : goal.decreases-loop-left
decreases-loop-left l = length l.left
