use Rattle.ts_sessions.proofs.GivenNames.{replies_named}
use Rattle.ts_sessions.proofs.laws.replies_name_their_events.Goals as goal

pub returns : goal.returns
returns c = replies_named
