use Rattle.std.proofs.Common.{◌≡◌, false}
use Rattle.audit.specs.SessionReplays.{AreHeard}
use Rattle.audit.proofs.session_replay.SessionReplay.judge_next.Given as goal

-- the replies so far are explained, and led the session to this state
abbrev pub invariant-loop-place : goal.invariant-loop-place
invariant-loop-place g l =
    let all = g.P.Past.all l.past in
    record {
      going : l.self.stopped ≡ false;
      place : l.self.heard ≡ l.place;
      talk : l.self.talk.now ≡ l.fn.self.talk.now;
      heard : AreHeard g.T.Shown all l.start l.fn.self.talk.now l.place l.self.teller;
    }
