use Rattle.policy_jobs.proofs.QueueLaws.{queries_show_the_queue}
use Rattle.policy_jobs.proofs.laws.queries_show_the_queue.Goals as goal

pub returns : goal.returns
returns c = queries_show_the_queue
