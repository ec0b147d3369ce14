use Rattle.policy_jobs.proofs.DueLaws.{second_ticks_are_idle}
use Rattle.policy_jobs.proofs.laws.second_ticks_are_idle.Goals as goal

pub returns : goal.returns
returns g c = second_ticks_are_idle
