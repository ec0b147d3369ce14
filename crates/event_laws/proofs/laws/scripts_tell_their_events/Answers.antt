use Rattle.ts_sessions.specs.Replies.{reply_to}
use Rattle.policy_jobs.specs.Laws.{policy_sessions}
use Rattle.policy_jobs.specs.Turns.{policy_does}
use Rattle.event_laws.proofs.EventLaws.{replies_are_written, scripts_tell_their_events}
use Rattle.event_laws.proofs.laws.scripts_tell_their_events.Goals as goal

pub returns-clause-told : goal.returns-clause-told
returns-clause-told g c = scripts_tell_their_events (λ p. p.inner.block) policy_sessions (policy_does reply_to (λ p. p.block)) c.tells_replies.ensures (λ n h. tt)

pub returns-clause-written : goal.returns-clause-written
returns-clause-written g c = replies_are_written policy_sessions
