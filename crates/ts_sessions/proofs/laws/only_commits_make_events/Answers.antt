use Rattle.ts_sessions.proofs.FewEvents.{only_commits_make_events}
use Rattle.ts_sessions.proofs.laws.only_commits_make_events.Goals as goal

pub returns : goal.returns
returns c = only_commits_make_events
