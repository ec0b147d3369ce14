use Rattle.std.proofs.Common.{◌++◌, Option, List, sym, unwrap_or, ap, ◌∙◌}
use Rattle.std.proofs.lemmas.Result.{on_ok_weaker}
use Rattle.cell_groups.specs.declared.tallies.Tally.{Tally}
use Rattle.cell_groups.specs.KeptSummaries.{row_tallies, tallies_shown}
use Rattle.cell_groups.proofs.KeptSummaries.{shown_row}
use Rattle.cell_groups.proofs.results.put_parts.Goals as goal

pub returns-in-None : goal.returns-in-None
returns-in-None c =
    let aggs = c.args.aggs.now in
    let row = c.args.group.now.first in
    let before = c.args.cells.now.items in
    on_ok_weaker c.put_row.result
    (λ is. is ∙ ap (λ ds. before ++ ds) (shown_row aggs row)
    ∙ ap (λ (o : Option (List Tally)). before ++ tallies_shown aggs (unwrap_or o (row_tallies aggs row))) (sym c.in-None.is)) c.put_row.ensures
