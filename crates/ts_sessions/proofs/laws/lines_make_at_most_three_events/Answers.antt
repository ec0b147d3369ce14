use Rattle.ts_sessions.proofs.FewEvents.{lines_make_few_events}
use Rattle.ts_sessions.proofs.laws.lines_make_at_most_three_events.Goals as goal

pub returns : goal.returns
returns c = lines_make_few_events
