-- The rows are those of groups only, all of whose cells are shown.
use Rattle.std.proofs.Common.{◌∙◌, ◌++◌, ap, map}
use Rattle.ts_model.specs.Chosen.{chosen_cells}
use Rattle.ts_model.proofs.ResultLaws.{rows_choose}
use Rattle.ts_model.proofs.results.ResultRows.choose.Goals as goal

pub returns-clause-chosen : goal.returns-clause-chosen
returns-clause-chosen c =
    let rows = c.self.inside in
    let places = c.args.places in
    rows_choose places rows.cells rows.places rows.aggs (rows.kept ++ rows.live) c.if-not-is_empty.ensures.empty c.if-is_some.ensures
    ∙ ap (map (chosen_cells places)) c.self.view_is
