use Rattle.std.proofs.Common.{◌≡◌, ◌∷◌, ◌∙◌, true, arith}
use Rattle.std.proofs.lemmas.Int.{ints}
use Rattle.ts_model.specs.Results.{row_cells}
use Rattle.cell_groups.specs.Written.{rows_written}
use Rattle.hier_agg.proofs.Writing.{none_last, way_goes_on, way_starts}
use Rattle.hier_agg.proofs.writes.write_in_order.Goals as goal

pub loop-row-init : goal.loop-row-init
loop-row-init c =
    let written = c.in_ok-written.written in
    let whole : c.into_iter-row-iterator.result ≡ c.args.rows.now = c.into_iter-row-iterator.ensures.into_iter_gives ∙ c.iter-row-items.ensures.rows in
    record {
      numbers = λ t low high. absurd (omega (arith, ints, low, high, c.no_bucket-bucket.ensures.start, c.no_bucket-bucket.ensures.end));
      tallies = none_last c.args.shape.now (rows_written written) written.last c.in_ok-written.ensures.none;
      way = way_starts c.args.plan.now c.args.shape.now c.args.rows.now c.into_iter-row-iterator.result (rows_written written) written.last whole c.in_ok-written.ensures.none;
      are = c.in_ok-written.ensures.rows;
    }

pub loop-row-preserved : goal.loop-row-preserved
loop-row-preserved c =
    let step = c.in_ok-write_row in
    let came : step.field-0 ≡ true = c.if-not-branch.false in
    let first : c.loop-row.row-iterator ≡ (row_cells c.in-Some.row) ∷ c.next.new.self = c.in-Some.ensures.steps in
    record {
      numbers = step.ensures.numbers;
      tallies = step.ensures.tallies;
      way =
          way_goes_on c.args.plan.now c.args.shape.now c.args.rows.now c.loop-row.row-iterator c.next.new.self (row_cells c.in-Some.row)
          (rows_written c.loop-row.written) (rows_written c.write_row.new.written) c.loop-row.written.last c.write_row.new.written.last first
          (λ groups w. step.ensures.written groups w came) c.loop-row.invariant.way;
      are = step.ensures.rows;
    }
