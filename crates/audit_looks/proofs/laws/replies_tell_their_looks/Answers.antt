use Rattle.audit_looks.proofs.LookLaws.{replies_tell}
use Rattle.audit_looks.proofs.laws.replies_tell_their_looks.Goals as goal

pub returns : goal.returns
returns c = replies_tell
