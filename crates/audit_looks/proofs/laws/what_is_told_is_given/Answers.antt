use Rattle.audit_looks.proofs.ReplayLaws.{told_is_given}
use Rattle.audit_looks.proofs.laws.what_is_told_is_given.Goals as goal

pub returns : goal.returns
returns g c = told_is_given
