use Rattle.std.proofs.Common.{◌≡◌, ◌++◌, length, take, drop}
use Rattle.group_fold.specs.Merging.{joined_parts}
use Rattle.cell_groups.specs.KeptSummaries.{as_parts}
use Rattle.cell_groups.proofs.tallies.add_tallies.Given as goal

abbrev pub invariant-loop-k : goal.invariant-loop-k
invariant-loop-k l = record {
  many : length l.tallies ≡ length l.aggs;
  merged : as_parts l.aggs l.tallies ≡ take l.k (joined_parts (as_parts l.aggs l.initial.tallies) (as_parts l.aggs l.others)) ++ drop l.k (as_parts l.aggs l.initial.tallies);
}
