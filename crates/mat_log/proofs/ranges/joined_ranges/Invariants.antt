use Rattle.std.proofs.Common.{◌≡◌, ◌++◌, None, drop}
use Rattle.mat_log.specs.JoinedRanges.{ranges_joined}
use Rattle.mat_log.proofs.ranges.joined_ranges.Given as goal

abbrev pub invariant-loop-piece : goal.invariant-loop-piece
invariant-loop-piece l = l.ranges.items ++ ranges_joined l.range (drop l.piece-index l.pieces) ≡ ranges_joined None l.pieces
