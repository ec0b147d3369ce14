use Rattle.std.proofs.Common.{ap, ◌∙◌}
use Rattle.cell_groups.specs.Groups.{as_groups, rows_shown}
use Rattle.cell_groups.proofs.KeptSummaries.{kept_shown}
use Rattle.cell_groups.proofs.results.rows_of.Goals as goal

pub returns : goal.returns
returns c =
    let shape = c.args.shape.now in
    record {
      rows =
          c.in_ok-shown_rows.ensures ∙ kept_shown shape c.as_slice.result.now ∙ ap (λ gs. rows_shown shape (as_groups shape gs)) c.as_slice.ensures.value
          ∙ ap (rows_shown shape) c.in_ok-groups.ensures.groups;
      room = λ n rows few. tt;
    }
