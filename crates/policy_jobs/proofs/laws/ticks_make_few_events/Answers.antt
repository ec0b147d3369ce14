use Rattle.policy_jobs.proofs.FewLaws.{ticks_make_few_events}
use Rattle.policy_jobs.proofs.laws.ticks_make_few_events.Goals as goal

pub returns : goal.returns
returns c = ticks_make_few_events c.lines_make_at_most_three_events.ensures
