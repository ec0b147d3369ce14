use Rattle.ts_sessions.proofs.StepLaws.{if_answered, if_replied}
use Rattle.ts_sessions.proofs.sessions.Session.close.Goals as goal

-- the line has a reply
pub returns-in-Ok-clause-kept : goal.returns-in-Ok-clause-kept
returns-in-Ok-clause-kept g c = if_replied c.args.failed c.args.reply c.step_end.result _ c.step_end.ensures

pub returns-in-Ok-clause-replied : goal.returns-in-Ok-clause-replied
returns-in-Ok-clause-replied g c = if_answered c.step_end.result _ c.step_end.ensures
