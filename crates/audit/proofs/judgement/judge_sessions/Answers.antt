use Rattle.std.proofs.Common.{◌∙◌, IfOk, subst}
use Rattle.audit.specs.Judged.{JudgesTalks}
use Rattle.audit.proofs.judgement.judge_sessions.Goals as goal

pub returns : goal.returns
returns g c =
    let all = g.P.Past.all c.args.past.now in
    record { judged = subst (λ ts. IfOk c.judge_in_order.result (JudgesTalks all c.args.start ts)) (c.in_ok-judge_in_parallel.ensures.talks ∙ c.in_ok-hearings.ensures.talks) c.judge_in_order.ensures.judged }
