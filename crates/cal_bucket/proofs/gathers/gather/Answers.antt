use Rattle.std.proofs.Common.{◌≡◌, ◌+◌, ◌-◌, ◌∷◌, length, sym, ap, ◌∙◌, subst, arith}
use Rattle.std.specs.List.{AllByRecursion}
use Rattle.std.proofs.lemmas.Int.{ints}
use Rattle.group_fold.specs.Gathering.{in_group_order}
use Rattle.cell_groups.specs.Cells.{cells_pass}
use Rattle.cell_groups.specs.Groups.{as_groups}
use Rattle.cell_groups.specs.TakenRows.{with_rows}
use Rattle.cell_groups.proofs.Gathering.{none_gathered, none_of_rows, rows_step}
use Rattle.cell_groups.proofs.Room.{rows_more}
use Rattle.ts_model.specs.Results.{row_cells}
use Rattle.cal_bucket.specs.Rows.{ShowARow}
use Rattle.cal_bucket.specs.Shapes.{named_group}
use Rattle.cal_bucket.proofs.gathers.gather.Goals as goal

pub loop-row-preserved : goal.loop-row-preserved
loop-row-preserved c =
    let shape = c.args.shape.now in
    let keep = cells_pass c.args.tests.now in
    let own = named_group c.args.plan.now shape in
    let before = in_group_order (as_groups shape c.loop-row.gathered.groups.items) in
    let first : c.loop-row.row-iterator ≡ (row_cells c.in-Some.row) ∷ c.next.new.self = c.in-Some.ensures.steps in
    record {
      left = (subst (AllByRecursion (ShowARow c.args.plan.now.at)) first c.loop-row.invariant.left).1;
      names = c.in_ok-take_row.ensures.names;
      taken =
          ap (with_rows keep own c.next.new.self) c.in_ok-take_row.ensures.groups
          ∙ sym (rows_step keep own (row_cells c.in-Some.row) c.next.new.self before)
          ∙ ap (λ rows. with_rows keep own rows before) (sym first)
          ∙ c.loop-row.invariant.taken;
      gathered = c.in_ok-take_row.ensures.gathered;
      to_come = omega (arith, ap length first, c.loop-row.invariant.to_come);
      few =
          rows_more (length c.args.lower.now - length c.loop-row.row-iterator + 1) (length c.args.lower.now - length c.next.new.self) (as_groups shape c.take_row.new.gathered.groups.items)
          (omega (arith, ap length first, c.loop-row.invariant.to_come)) (c.in_ok-take_row.ensures.few (length c.args.lower.now - length c.loop-row.row-iterator) c.loop-row.invariant.few);
    }

pub take_row-requires-clause-room : goal.take_row-requires-clause-room
take_row-requires-clause-room c =
    let first : c.loop-row.row-iterator ≡ (row_cells c.in-Some.row) ∷ c.next.new.self = c.in-Some.ensures.steps in
    rows_more (length c.args.lower.now - length c.loop-row.row-iterator) 18446744073709551614 (as_groups c.args.shape.now c.loop-row.gathered.groups.items) (omega (arith, ap length first, c.len-rows.ensures.len)) c.loop-row.invariant.few

pub returns-clause-few : goal.returns-clause-few
returns-clause-few c =
    rows_more (length c.args.lower.now - length c.loop-row.row-iterator) (length c.args.lower.now) (as_groups c.args.shape.now c.loop-row.gathered.groups.items) (omega arith) c.loop-row.invariant.few

pub loop-row-init : goal.loop-row-init
loop-row-init c =
    let shape = c.args.shape.now in
    let keep = cells_pass c.args.tests.now in
    let own = named_group c.args.plan.now shape in
    let none = c.new-gathered.ensures.none in
    let whole : c.into_iter-row-iterator.result ≡ c.args.lower.now = c.into_iter-row-iterator.ensures.into_iter_gives ∙ c.iter-row-items.ensures.rows in
    record {
      left = subst (AllByRecursion (ShowARow c.args.plan.now.at)) (sym whole) c.requires.shown;
      names = λ t time low high. absurd (omega (arith, ints, low, high, c.no_bucket-bucket.ensures.start, c.no_bucket-bucket.ensures.end));
      taken =
          ap (λ rows. with_rows keep own rows (in_group_order (as_groups shape c.new-gathered.result.groups.items))) whole
          ∙ ap (λ gs. with_rows keep own c.args.lower.now (in_group_order (as_groups shape gs))) none;
      gathered = none_gathered shape c.new-gathered.result none;
      to_come = omega (arith, ap length whole);
      few = none_of_rows (length c.args.lower.now - length c.into_iter-row-iterator.result) shape c.new-gathered.result.groups.items none;
    }
