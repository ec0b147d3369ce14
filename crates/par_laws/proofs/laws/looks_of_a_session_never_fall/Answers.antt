use Rattle.par_laws.proofs.NumberLaws.{looks_never_fall}
use Rattle.par_laws.proofs.laws.looks_of_a_session_never_fall.Goals as goal

pub returns : goal.returns
returns g c = looks_never_fall
