use Rattle.std.proofs.Common.{◌≡◌, ◌+◌, ◌++◌, length}
use Rattle.image_laws.specs.Images.{table_events}
use Rattle.base_image.proofs.roster_events.push_tables.Given as goal

abbrev pub invariant-loop-left : goal.invariant-loop-left
invariant-loop-left l =
    (l.events ++ table_events l.table l.left ≡ l.fn.events ++ table_events 0 l.fn.tables)
    × (l.table + length l.left ≡ length l.fn.tables)

abbrev pub decreases-loop-left : goal.decreases-loop-left
decreases-loop-left l = length l.left
