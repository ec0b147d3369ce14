use Rattle.ts_sessions.proofs.GivesLaws.{gives_events}
use Rattle.ts_sessions.proofs.laws.procedures_give_events_of_the_history.Goals as goal

pub returns : goal.returns
returns g c = gives_events
