use Rattle.std.proofs.Common.{◌≡◌, ◌+◌, ◌-◌, ◌≤◌, ◌++◌, length, take}
use Rattle.std.specs.Prelude.{vec_len, vec_capacity}
use Rattle.group_fold.specs.Grouping.{row_parts}
use Rattle.group_fold.proofs.blocks.put_row.Given as goal

abbrev pub invariant-loop-agg : goal.invariant-loop-agg
invariant-loop-agg l = record {
  items : l.parts.items ≡ l.initial.parts.items ++ row_parts (take l.agg-index l.aggs) l.row;
  room : vec_len l.parts + (length l.aggs - l.agg-index) ≤ vec_capacity l.parts;
}
