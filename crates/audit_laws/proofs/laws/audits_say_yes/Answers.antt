use Rattle.audit_laws.proofs.RunLaws.{audits_yes}
use Rattle.audit_laws.proofs.laws.audits_say_yes.Goals as goal

pub returns : goal.returns
returns c = audits_yes c.text_law.ensures.ascii c.explained_is_yes.ensures
