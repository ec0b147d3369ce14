use Rattle.audit_looks.proofs.TextLaws.{texts_name}
use Rattle.audit_looks.proofs.laws.texts_tell_numbers.Goals as goal

pub returns : goal.returns
returns c = texts_name
