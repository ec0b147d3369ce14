use Rattle.par_laws.proofs.OneHistory.{runs_have_one_history}
use Rattle.par_laws.proofs.laws.parallel_runs_have_one_history.Goals as goal

pub returns : goal.returns
returns g c = runs_have_one_history
