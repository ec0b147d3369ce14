use Rattle.std.proofs.Common.{◌≡◌, All}
use Rattle.audit.specs.SessionReplays.{IsHeard, talks_of}
use Rattle.audit.proofs.judgement.judge_in_parallel.Given as goal

-- the sessions stay, with the replies judged so far
abbrev pub invariant-loop-stride : goal.invariant-loop-stride
invariant-loop-stride g l =
    let all = g.P.Past.all l.past in
    record {
      heard : All (IsHeard g.T.Shown all l.start) l.hearings.items;
      talks : talks_of l.hearings.items ≡ talks_of l.fn.hearings.items;
    }
