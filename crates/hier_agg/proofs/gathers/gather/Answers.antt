use Rattle.std.proofs.Common.{◌≡◌, ◌∷◌, sym, ap, ◌∙◌, arith}
use Rattle.std.proofs.lemmas.Int.{ints}
use Rattle.group_fold.specs.Gathering.{in_group_order}
use Rattle.cell_groups.specs.Groups.{as_groups}
use Rattle.cell_groups.specs.TakenRows.{with_rows}
use Rattle.cell_groups.proofs.Gathering.{none_gathered, rows_step}
use Rattle.hier_agg.specs.Taken.{row_group_of, row_passes}
use Rattle.ts_model.specs.Results.{row_cells}
use Rattle.hier_agg.proofs.gathers.gather.Goals as goal

pub loop-row-preserved : goal.loop-row-preserved
loop-row-preserved c =
    let shape = c.args.shape.now in
    let keep = row_passes c.args.plan.now in
    let own = row_group_of c.args.plan.now shape in
    let before = in_group_order (as_groups shape c.loop-row.gathered.groups.items) in
    let first : c.loop-row.row-iterator ≡ (row_cells c.in-Some.row) ∷ c.next.new.self = c.in-Some.ensures.steps in
    record {
      numbers = c.in_ok-take_row.ensures.numbers;
      taken =
          ap (with_rows keep own c.next.new.self) c.in_ok-take_row.ensures.groups
          ∙ sym (rows_step keep own (row_cells c.in-Some.row) c.next.new.self before)
          ∙ ap (λ rows. with_rows keep own rows before) (sym first)
          ∙ c.loop-row.invariant.taken;
      gathered = c.in_ok-take_row.ensures.gathered;
    }

pub loop-row-init : goal.loop-row-init
loop-row-init c =
    let shape = c.args.shape.now in
    let keep = row_passes c.args.plan.now in
    let own = row_group_of c.args.plan.now shape in
    let none = c.new-gathered.ensures.none in
    let whole : c.into_iter-row-iterator.result ≡ c.args.rows.now = c.into_iter-row-iterator.ensures.into_iter_gives ∙ c.iter-row-items.ensures.rows in
    record {
      numbers = λ t low high. absurd (omega (arith, ints, low, high, c.no_bucket-bucket.ensures.start, c.no_bucket-bucket.ensures.end));
      taken =
          ap (λ rows. with_rows keep own rows (in_group_order (as_groups shape c.new-gathered.result.groups.items))) whole
          ∙ ap (λ gs. with_rows keep own c.args.rows.now (in_group_order (as_groups shape gs))) none;
      gathered = none_gathered shape c.new-gathered.result none;
    }
