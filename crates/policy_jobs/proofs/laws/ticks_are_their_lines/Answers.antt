use Rattle.policy_jobs.proofs.TickLines.{ticks_are_their_lines}
use Rattle.policy_jobs.proofs.laws.ticks_are_their_lines.Goals as goal

pub returns : goal.returns
returns g c = ticks_are_their_lines c.stays_outside.ensures
