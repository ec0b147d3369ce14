use Rattle.par_run.proofs.AsciiLaws.{runs_ascii}
use Rattle.par_run.proofs.laws.runs_are_ascii.Goals as goal

pub returns : goal.returns
returns g c = runs_ascii
