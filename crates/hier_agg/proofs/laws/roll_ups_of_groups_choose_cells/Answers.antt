use Rattle.hier_agg.proofs.Choosing.{roll_ups_of_groups_choose_cells}
use Rattle.hier_agg.proofs.laws.roll_ups_of_groups_choose_cells.Goals as goal

pub returns : goal.returns
returns c = roll_ups_of_groups_choose_cells
