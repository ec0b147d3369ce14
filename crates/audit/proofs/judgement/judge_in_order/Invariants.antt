use Rattle.std.proofs.Common.{◌≡◌, All, drop}
use Rattle.ts_model.specs.History.{position}
use Rattle.audit.specs.SessionReplays.{IsHeard, talks_of}
use Rattle.audit.specs.ReplayedReplies.{LieBetween, Passes}
use Rattle.audit.proofs.judgement.judge_in_order.Given as goal

-- the sessions so far are explained
abbrev pub invariant-loop-session : goal.invariant-loop-session
invariant-loop-session g l =
    let all = g.P.Past.all l.past in
    let all_talks = talks_of l.fn.hearings.items in
    record {
      heard : All (IsHeard g.T.Shown all l.start) l.hearing-items;
      talks : talks_of l.hearing-items ≡ all_talks;
      passes : Passes all l.start all_talks l.session (drop l.session all_talks) l.named.items;
      lie : LieBetween l.start (position all) l.named.items;
    }
