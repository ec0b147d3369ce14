use Rattle.policy_jobs.proofs.QueueLaws.{others_see_no_queue}
use Rattle.policy_jobs.proofs.laws.others_see_no_queue.Goals as goal

pub returns : goal.returns
returns c = others_see_no_queue
