use Rattle.ts_sessions.proofs.GivesLaws.{gives_longer}
use Rattle.ts_sessions.proofs.laws.procedures_give_the_same_over_longer_histories.Goals as goal

pub returns : goal.returns
returns g c = gives_longer
