use Rattle.hier_agg.proofs.Fitting.{plans_ask, plans_fit}
use Rattle.hier_agg.proofs.laws.plans_fit.Goals as goal

pub returns : goal.returns
returns c = record { fits = plans_fit; asks = plans_ask }
