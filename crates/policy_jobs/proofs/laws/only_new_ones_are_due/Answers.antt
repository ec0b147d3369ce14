use Rattle.policy_jobs.proofs.DueLaws.{only_new_ones_are_due}
use Rattle.policy_jobs.proofs.laws.only_new_ones_are_due.Goals as goal

pub returns : goal.returns
returns c = only_new_ones_are_due
