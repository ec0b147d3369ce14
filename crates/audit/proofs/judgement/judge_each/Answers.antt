use Rattle.std.proofs.Common.{◌∙◌}
use Rattle.std.proofs.lemmas.List.Elements.{All-set}
use Rattle.audit.specs.SessionReplays.{IsHeard}
use Rattle.audit.proofs.HearingLaws.{one_hears}
use Rattle.audit.proofs.judgement.judge_each.Goals as goal

pub loop-hearing-preserved : goal.loop-hearing-preserved
loop-hearing-preserved g c =
    let all = g.P.Past.all c.args.past.now in
    let hs = c.loop-hearing.hearing-items in
    let i = c.loop-hearing.hearing-index in
    record {
      heard = All-set (IsHeard g.T.Shown all c.args.start) hs i c.judge_next.new.self c.in_ok-judge_next.ensures.heard c.loop-hearing.invariant.heard;
      talks = one_hears hs i c.hearing-item.result c.judge_next.new.self c.judge_next.ensures.talk ∙ c.loop-hearing.invariant.talks;
    }
