use Rattle.std.proofs.Common.{◌≡◌, ◌≤◌, All, take}
use Rattle.ts_model.specs.History.{History, position}
use Rattle.audit.specs.SessionReplays.{IsHeard, talks_of}
use Rattle.audit.proofs.judgement.begin.Given as goal

-- the sessions so far
abbrev pub invariant-loop-talk : goal.invariant-loop-talk
invariant-loop-talk g l = record {
  talks : talks_of l.hearings.items ≡ take l.talk-index l.talks;
  heard : (all : History) → l.start ≤ position all → All (IsHeard g.T.Shown all l.start) l.hearings.items;
}
