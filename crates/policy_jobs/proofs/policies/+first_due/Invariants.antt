use Rattle.std.proofs.Common.{length}
use Rattle.policy_jobs.proofs.policies.+first_due.Given as goal

abbrev pub decreases-first_due : goal.decreases-first_due
decreases-first_due l = length l.policies.now
