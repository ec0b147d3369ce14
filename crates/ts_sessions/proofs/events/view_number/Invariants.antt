use Rattle.std.proofs.Common.{◌≡◌, ◌+◌, length}
use Rattle.ts_sessions.specs.Sound.{number_from}
use Rattle.ts_sessions.proofs.events.view_number.Given as goal

-- the aggregates that are left decide
abbrev pub invariant-loop-left : goal.invariant-loop-left
invariant-loop-left l =
    (number_from l.fn.name 0 l.fn.views ≡ number_from l.fn.name l.number l.left)
    × (l.number + length l.left ≡ length l.fn.views)

abbrev pub decreases-loop-left : goal.decreases-loop-left
decreases-loop-left l = length l.left
