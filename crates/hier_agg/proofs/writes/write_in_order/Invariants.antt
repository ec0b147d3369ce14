use Rattle.std.specs.Prelude.{IfSome}
use Rattle.cell_groups.specs.Groups.{HasTallies}
use Rattle.cell_groups.specs.Written.{AreRows, rows_written}
use Rattle.hier_agg.specs.Wides.{HoldsItsNumbers}
use Rattle.hier_agg.proofs.Writing.{AreOnTheWay}
use Rattle.hier_agg.proofs.writes.write_in_order.Given as goal

-- the groups of the rows so far are written, and with the rows left they make up the whole
abbrev pub invariant-loop-row : goal.invariant-loop-row
invariant-loop-row l = record {
  numbers : HoldsItsNumbers l.plan.width l.bucket;
  tallies : IfSome l.written.last (HasTallies l.shape.aggs);
  way : AreOnTheWay l.plan l.shape l.rows l.row-iterator (rows_written l.written) l.written.last;
  are : AreRows l.written;
}
