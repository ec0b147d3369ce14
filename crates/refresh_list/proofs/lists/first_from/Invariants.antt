use Rattle.std.proofs.Common.{◌-◌, ◌≤◌, take, drop, length}
use Rattle.refresh_list.specs.Refreshes.{CutsBelow, CutsFrom}
use Rattle.refresh_list.proofs.lists.first_from.Given as goal

abbrev pub invariant-loop-low : goal.invariant-loop-low
invariant-loop-low l = (l.low ≤ l.high) × (l.high ≤ length l.list.items) × CutsBelow l.cut (take l.low l.list.items) × CutsFrom l.cut (drop l.high l.list.items)

abbrev pub decreases-loop-low : goal.decreases-loop-low
decreases-loop-low l = l.high - l.low
