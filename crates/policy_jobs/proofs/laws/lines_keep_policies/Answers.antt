use Rattle.policy_jobs.proofs.DueLaws.{lines_keep_policies}
use Rattle.policy_jobs.proofs.laws.lines_keep_policies.Goals as goal

pub returns : goal.returns
returns g c = lines_keep_policies
