use Rattle.par_laws.proofs.WalkedLaws.{walked_lines_are_answered}
use Rattle.par_laws.proofs.laws.walked_lines_are_answered.Goals as goal

pub returns : goal.returns
returns g c = walked_lines_are_answered
