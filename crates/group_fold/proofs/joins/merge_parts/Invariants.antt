use Rattle.std.proofs.Common.{◌≡◌, take}
use Rattle.group_fold.specs.Merging.{joined_parts}
use Rattle.group_fold.proofs.joins.merge_parts.Given as goal

abbrev pub invariant-loop-k : goal.invariant-loop-k
invariant-loop-k l = l.parts.items ≡ take l.k (joined_parts l.mine l.theirs)
