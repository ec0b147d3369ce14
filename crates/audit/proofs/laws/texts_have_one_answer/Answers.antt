use Rattle.audit.proofs.OneAnswer.{texts_have_one_answer}
use Rattle.audit.proofs.TheLaws.{the_laws}
use Rattle.audit.proofs.laws.texts_have_one_answer.Goals as goal

pub returns : goal.returns
returns c = texts_have_one_answer the_laws c.text_law.ensures.one
