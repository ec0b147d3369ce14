use Rattle.std.proofs.Common.{◌≡◌, All}
use Rattle.audit.specs.SessionReplays.{IsHeard, talks_of}
use Rattle.audit.proofs.judgement.judge_each.Given as goal

-- the sessions stay, with the replies judged so far
abbrev pub invariant-loop-hearing : goal.invariant-loop-hearing
invariant-loop-hearing g l =
    let all = g.P.Past.all l.past in
    record {
      heard : All (IsHeard g.T.Shown all l.start) l.hearing-items;
      talks : talks_of l.hearing-items ≡ talks_of l.fn.hearings.items;
    }
