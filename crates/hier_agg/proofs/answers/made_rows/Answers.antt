use Rattle.std.proofs.Common.{[], ap, ◌∙◌, rules}
use Rattle.ts_bucket.specs.Bucket.{IsWidth}
use Rattle.cell_groups.specs.Groups.{rows_shown}
use Rattle.cell_groups.specs.TakenRows.{with_rows}
use Rattle.hier_agg.specs.Taken.{row_group_of, row_passes}
use Rattle.hier_agg.proofs.Stands.{gathered_is_upper}
use Rattle.hier_agg.proofs.answers.made_rows.Goals as goal

pub returns : goal.returns
returns c =
    let lower = c.args.lower.now in
    let plan = c.args.plan.now in
    let wide : IsWidth plan.width = search rules in
    c.in_ok-upper.ensures
    ∙ ap (λ s. rows_shown s (with_rows (row_passes plan) (row_group_of plan s) c.args.rows.now [])) c.in_ok-shape.ensures
    ∙ gathered_is_upper lower plan wide c.args.rows.now
