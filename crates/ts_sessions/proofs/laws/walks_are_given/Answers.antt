use Rattle.ts_sessions.proofs.GivenWalks.{walks_are_given}
use Rattle.ts_sessions.proofs.laws.walks_are_given.Goals as goal

pub returns : goal.returns
returns g c = walks_are_given
