use Rattle.policy_jobs.proofs.Judging.{reads_by_the_grammar}
use Rattle.policy_jobs.proofs.reading.policy_reading_law.Goals as goal

pub returns : goal.returns
returns c = reads_by_the_grammar
