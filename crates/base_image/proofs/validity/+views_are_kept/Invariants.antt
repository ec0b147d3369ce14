use Rattle.std.proofs.Common.{length}
use Rattle.base_image.proofs.validity.+views_are_kept.Given as goal

abbrev pub decreases-views_are_kept : goal.decreases-views_are_kept
decreases-views_are_kept l = length l.defs.now
