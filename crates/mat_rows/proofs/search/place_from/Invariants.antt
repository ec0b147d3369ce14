use Rattle.std.proofs.Common.{◌-◌}
use Rattle.mat_rows.proofs.PlaceLaws.{IsNarrowed}
use Rattle.mat_rows.proofs.search.place_from.Given as goal

abbrev pub invariant-loop-low : goal.invariant-loop-low
invariant-loop-low l = IsNarrowed l.groups.items l.x l.low l.high

abbrev pub decreases-loop-low : goal.decreases-loop-low
decreases-loop-low l = l.high - l.low
