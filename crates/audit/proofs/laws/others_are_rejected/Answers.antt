use Rattle.audit.proofs.ReadNumbers.{others_rejected}
use Rattle.audit.proofs.laws.others_are_rejected.Goals as goal

pub returns : goal.returns
returns c = others_rejected c.text_law.ensures.one
