use Rattle.std.proofs.Common.{subst}
use Rattle.ts_sessions.specs.Sessions.{IsReply}
use Rattle.ts_sessions.proofs.StepLaws.{answered_so}
use Rattle.ts_sessions.proofs.sessions.Session.answer.Goals as goal

pub returns-in-Ok-clause-answers : goal.returns-in-Ok-clause-answers
returns-in-Ok-clause-answers g c =
    let completion = c.args.completion in
    answered_so c.args.self.now.name completion.said completion.failed c.in-Ok.reply c.close.result (subst (λ lines. IsReply c.args.self.now.name lines c.in-Ok.reply) c.items.ensures.items c.in-Ok.ensures) c.close.ensures.replied
