use Rattle.std.proofs.Common.{◌≡◌, [], subst}
use Rattle.std.specs.Prelude.{IfSome}
use Rattle.cell_groups.specs.Groups.{rows_shown}
use Rattle.cell_groups.specs.TakenRows.{with_rows}
use Rattle.hier_agg.specs.Taken.{row_group_of, row_passes}
use Rattle.hier_agg.proofs.answers.rolled_rows.Goals as goal

pub returns-in-Some : goal.returns-in-Some
returns-in-Some c =
    let plan = c.args.plan.now in
    let shape = c.args.shape.now in
    subst (λ o. IfSome o (λ upper. upper ≡ rows_shown shape (with_rows (row_passes plan) (row_group_of plan shape) c.args.rows.now []))) c.in-Some.is c.in_ok-written.ensures
