use Rattle.ts_sessions.proofs.GivesLaws.{last_is_printed}
use Rattle.ts_sessions.proofs.laws.the_last_position_is_printed.Goals as goal

pub returns : goal.returns
returns g c = last_is_printed
