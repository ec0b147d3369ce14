use Rattle.policy_jobs.proofs.DueLaws.{due_texts_are_statements}
use Rattle.policy_jobs.proofs.laws.due_texts_are_statements.Goals as goal

pub returns : goal.returns
returns c = due_texts_are_statements
