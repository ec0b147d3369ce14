use Rattle.par_laws.proofs.NumberLaws.{answers_give_events}
use Rattle.par_laws.proofs.laws.answers_give_events_of_the_history.Goals as goal

pub returns : goal.returns
returns g c = answers_give_events
