use Rattle.audit.proofs.ReadNumbers.{yes_names}
use Rattle.audit.proofs.laws.yes_names_each_once.Goals as goal

pub returns : goal.returns
returns c = yes_names c.text_law.ensures.one
