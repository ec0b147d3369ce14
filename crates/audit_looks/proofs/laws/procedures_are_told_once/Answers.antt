use Rattle.audit_looks.proofs.ReplayLaws.{told_once}
use Rattle.audit_looks.proofs.laws.procedures_are_told_once.Goals as goal

pub returns : goal.returns
returns g c = told_once
