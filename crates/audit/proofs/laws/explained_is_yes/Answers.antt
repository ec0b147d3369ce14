use Rattle.audit.proofs.OneAnswer.{explained_is_yes}
use Rattle.audit.proofs.TheLaws.{the_laws}
use Rattle.audit.proofs.laws.explained_is_yes.Goals as goal

pub returns : goal.returns
returns c = explained_is_yes the_laws c.text_law.ensures.one
