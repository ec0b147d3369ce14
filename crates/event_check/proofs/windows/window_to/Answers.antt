use Rattle.event_check.proofs.Near.{near_time}
use Rattle.event_check.proofs.windows.window_to.Goals as goal

pub inscribe-requires-clause-low : goal.inscribe-requires-clause-low
inscribe-requires-clause-low c = λ x e. near_time x (c.requires.low x e)
