use Rattle.std.proofs.Common.{◌≡◌, ◌++◌, take, drop}
use Rattle.group_fold.specs.Grouping.{row_parts}
use Rattle.group_fold.specs.Merging.{joined_parts}
use Rattle.group_fold.proofs.members.add_to_parts.Given as goal

abbrev pub invariant-loop-k : goal.invariant-loop-k
invariant-loop-k l = l.parts ≡ take l.k (joined_parts l.initial.parts (row_parts l.aggs l.row)) ++ drop l.k l.initial.parts
