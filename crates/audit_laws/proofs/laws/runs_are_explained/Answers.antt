use Rattle.audit_laws.proofs.RunLaws.{runs_explained}
use Rattle.audit_laws.proofs.laws.runs_are_explained.Goals as goal

pub returns : goal.returns
returns c = runs_explained
