use Rattle.std.proofs.Common.{◌≡◌, map, take}
use Rattle.cell_rows.specs.Parts.{AreParts, parts}
use Rattle.ts_model.specs.Answers.{all_columns}
use Rattle.realtime_union.proofs.passing.columns_of_each.Given as goal

abbrev pub invariant-loop-row : goal.invariant-loop-row
invariant-loop-row l = record {
  fit : AreParts 0 l.ends.items l.cells.items;
  shown : parts 0 l.ends.items l.cells.items ≡ map (all_columns l.at) (take l.row-index l.rows);
}
