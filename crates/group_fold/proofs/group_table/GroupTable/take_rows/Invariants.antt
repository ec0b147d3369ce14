use Rattle.std.proofs.Common.{◌≤◌, ◌+◌, ◌++◌, List, length, take}
use Rattle.ts_schema.specs.declared.rows.Row.{Row}
use Rattle.group_fold.specs.Gathering.{IsGathered, IsStart, HaveParts, total_rows}
use Rattle.group_fold.proofs.group_table.GroupTable.take_rows.Given as goal

abbrev pub invariant-loop-row : goal.invariant-loop-row
invariant-loop-row l = record {
  gathered : (before : List Row) → IsGathered l.plan before l.initial.self.groups → IsGathered l.plan (before ++ take l.row-index l.rows) l.self.groups;
  alike : HaveParts (length l.plan.aggs) l.self.groups;
  start : IsStart l.plan.width l.start;
  few : total_rows l.self.groups ≤ total_rows l.initial.self.groups + l.row-index;
}
