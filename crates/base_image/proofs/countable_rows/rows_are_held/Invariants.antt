use Rattle.std.proofs.Common.{◌≡◌, length}
use Rattle.ts_model.specs.Valid.{hold_rows}
use Rattle.base_image.proofs.countable_rows.rows_are_held.Given as goal

abbrev pub invariant-loop-left : goal.invariant-loop-left
invariant-loop-left l = hold_rows l.roster l.low l.left ≡ hold_rows l.roster 0 l.events

abbrev pub decreases-loop-left : goal.decreases-loop-left
decreases-loop-left l = length l.left
