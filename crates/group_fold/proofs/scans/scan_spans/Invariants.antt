use Rattle.std.proofs.Common.{◌≡◌, ◌≤◌, ◌<◌, ◌^◌, ◌++◌, length}
use Rattle.ts_schema.specs.Counts.{raised_by}
use Rattle.ts_model.specs.Rows.{in_order}
use Rattle.group_fold.specs.Grouping.{all_rows}
use Rattle.group_fold.specs.Spans.{AreApart, near_each, rows_in}
use Rattle.group_fold.proofs.scans.scan_spans.Given as goal

abbrev pub invariant-loop-left : goal.invariant-loop-left
invariant-loop-left g l = record {
  apart : AreApart l.left;
  rows : in_order (all_rows l.pieces ++ rows_in l.left (g.W.RowsAt.visible l.rows l.table)) ≡ in_order (rows_in l.spans (g.W.RowsAt.visible l.rows l.table));
  reads : raised_by (near_each (g.W.RowsAt.interval l.rows l.table) (g.W.RowsAt.stored l.rows l.table) l.left) l.steps ≡ raised_by (near_each (g.W.RowsAt.interval l.rows l.table) (g.W.RowsAt.stored l.rows l.table) l.spans) l.initial.steps;
  up : l.initial.steps ≤ l.steps;
  small : l.steps < 2 ^ 64;
}

abbrev pub decreases-loop-left : goal.decreases-loop-left
decreases-loop-left g l = length l.left
