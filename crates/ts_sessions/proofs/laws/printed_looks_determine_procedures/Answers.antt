use Rattle.ts_sessions.proofs.GivesLaws.{printed_looks_determine}
use Rattle.ts_sessions.proofs.laws.printed_looks_determine_procedures.Goals as goal

pub returns : goal.returns
returns g c = printed_looks_determine
