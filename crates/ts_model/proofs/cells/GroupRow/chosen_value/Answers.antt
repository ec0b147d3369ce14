-- The chosen cell at a place is the group's cell at the place chosen there.
use Rattle.std.proofs.Common.{◌∙◌, ap, sym}
use Rattle.ts_model.specs.Results.{cell_at, group_cells}
use Rattle.ts_model.proofs.ResultLaws.{value_chosen}
use Rattle.std.proofs.lemmas.Bool.{ltb-true}
use Rattle.ts_model.proofs.cells.GroupRow.chosen_value.Goals as goal

pub returns : goal.returns
returns c =
    let cells = group_cells c.args.self.now in
    let found = c.in_ok-place.ensures.lookup in
    c.value_at.ensures ∙ ap (cell_at cells) found.1 ∙ sym (value_chosen cells c.args.places.now c.args.at c.in_ok-place.place.now (ltb-true c.args.at _ (sym found.0)))
