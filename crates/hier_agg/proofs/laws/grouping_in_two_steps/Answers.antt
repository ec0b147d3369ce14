use Rattle.hier_agg.proofs.Regrouping.{grouping_in_two_steps}
use Rattle.hier_agg.proofs.laws.grouping_in_two_steps.Goals as goal

pub returns : goal.returns
returns c = grouping_in_two_steps
