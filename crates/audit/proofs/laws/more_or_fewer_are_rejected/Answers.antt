use Rattle.audit.proofs.ReadNumbers.{counts_rejected}
use Rattle.audit.proofs.laws.more_or_fewer_are_rejected.Goals as goal

pub returns : goal.returns
returns c = counts_rejected c.text_law.ensures.one
