use Rattle.std.proofs.Common.{◌≡◌, ◌<◌, ◌^◌, subst, rules}
use Rattle.ts_sessions.specs.Held.{places_in}
use Rattle.ts_sessions.specs.Sessions.{AnswersSo, IfAnswered, places_after}
use Rattle.ts_sessions.proofs.StepLaws.{stepped}
use Rattle.ts_sessions.proofs.sessions.Session.step.Goals as goal

pub returns-in-Ok-clause-stepped : goal.returns-in-Ok-clause-stepped
returns-in-Ok-clause-stepped g c =
    let old = g.B.Backend.state c.args.backend.now in
    let new = g.B.Backend.state c.take_line.new.backend in
    let p = places_in c.args.self.now in
    let q = places_in c.answer.new.self in
    let name = c.args.self.now.name in
    let completion = c.in-Ok.completion in
    let short : c.args.steps.now < 2 ^ 64 = search rules in
    stepped g.B.Backend.alone old p c.args.text.now c.args.skip name completion c.answer.result new q c.args.steps.now c.take_line.new.steps short c.in-Ok.ensures.ends
    (subst (λ x. AnswersSo x completion.said completion.failed c.answer.result) c.in-Ok.ensures.name c.answer.ensures.answers)
    (subst (λ x. IfAnswered c.answer.result (q ≡ places_after completion.change x)) c.in-Ok.ensures.places c.answer.ensures.places)
