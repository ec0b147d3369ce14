use Rattle.hier_agg.proofs.Fitting.{functions_add_up}
use Rattle.hier_agg.proofs.laws.functions_add_up.Goals as goal

pub returns : goal.returns
returns c = functions_add_up
