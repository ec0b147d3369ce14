use Rattle.hier_agg.proofs.Showing.{roll_ups_show_the_composed_fold}
use Rattle.hier_agg.proofs.laws.roll_ups_show_the_composed_fold.Goals as goal

pub returns : goal.returns
returns c = roll_ups_show_the_composed_fold
