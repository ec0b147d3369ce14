use Rattle.std.proofs.Common.{◌-◌}
use Rattle.span_map.proofs.SearchLaws.{IsNarrowed}
use Rattle.span_map.proofs.search.place.Given as goal

abbrev pub invariant-loop-low : goal.invariant-loop-low
invariant-loop-low l = IsNarrowed l.before l.edges.items l.low l.high

abbrev pub decreases-loop-low : goal.decreases-loop-low
decreases-loop-low l = l.high - l.low
