use Rattle.ts_sessions.proofs.SteadyLaws.{replies_are_steady}
use Rattle.ts_sessions.proofs.laws.replies_are_steady.Goals as goal

pub returns : goal.returns
returns c = replies_are_steady
