use Rattle.std.proofs.Common.{◌∙◌, []}
use Rattle.transcript.proofs.SendingLists.{talk_next, talk_failed, talks_end}
use Rattle.transcript.proofs.sending.send_sessions.Goals as goal

pub returns-in-Err-clause-sent : goal.returns-in-Err-clause-sent
returns-in-Err-clause-sent g c = talk_failed _ _ _ _ _ [] _ c.loop-talk.later c.loop-talk.left.now c.in-Some.rest.now c.in-Some.talk.now c.loop-talk.invariant.some c.in-Some.ensures.cases.0 c.in-Err.ensures.sent

pub loop-talk-preserved : goal.loop-talk-preserved
loop-talk-preserved g c = record {
  some = talk_next _ _ _ _ _ _ _ c.loop-talk.later c.loop-talk.left.now c.in-Some.rest.now c.in-Some.talk.now c.loop-talk.invariant.some c.in-Some.ensures.cases.0 c.in-Ok.ensures.sent;
  counted = c.in-Ok.ensures.counted ∙ c.loop-talk.invariant.counted;
}

pub returns-clause-sent : goal.returns-clause-sent
returns-clause-sent g c = talks_end _ _ _ _ _ _ _ c.loop-talk.later c.loop-talk.left.now c.send.result c.loop-talk.invariant.some c.in_default.ensures.cases c.send.ensures.sent
