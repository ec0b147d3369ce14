use Rattle.audit_looks.proofs.TextLaws.{texts_tell}
use Rattle.audit_looks.proofs.laws.texts_tell_looks.Goals as goal

pub returns : goal.returns
returns c = texts_tell
