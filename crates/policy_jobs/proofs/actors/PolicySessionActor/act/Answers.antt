use Rattle.std.proofs.Common.{◌<◌, ◌^◌, [], ◌∷◌, cond, false, refl, rules, subst, sym, arith}
use Rattle.stmt_tokens.specs.Streams.{stream}
use Rattle.result_text.specs.declared.replies.Said.TheVariants as said
use Rattle.ts_sessions.specs.Procedures.{ending_as}
use Rattle.ts_sessions.specs.Sessions.{AnswersSo, Stepped}
use Rattle.ts_sessions.specs.Step.{misread}
use Rattle.ts_sessions.proofs.WalkLaws.{not_begun}
use Rattle.policy_jobs.specs.Reading.{statement}
use Rattle.policy_jobs.specs.Sessions.{places_in}
use Rattle.policy_jobs.specs.Turns.{beside, policy_does, reads_as}
use Rattle.policy_jobs.proofs.TurnLaws.{beside_stepped, line_stepped}
use Rattle.policy_jobs.proofs.actors.PolicySessionActor.act.Goals as goal

pub returns-in-Other-clause-stepped : goal.returns-in-Other-clause-stepped
returns-in-Other-clause-stepped g c =
    let alone = g.B.Backend.alone in
    let does = g.A.Actor.semantics.does in
    let old = g.B.Backend.state c.args.backend.now in
    let new = g.B.Backend.state c.act.new.backend in
    let name = g.A.Actor.named c.args.self.now.actor in
    let p = places_in g.A.Actor.places c.args.self.now in
    let q = g.A.Actor.places c.act.new.self in
    let s = stream c.args.text.now c.args.skip in
    subst (λ t. Stepped alone old (cond t (reads_as does p (g.A.Actor.within p.inner) (statement s)) (ending_as (beside p.policies) (does p.inner c.args.text.now c.args.skip))) name c.act.result new (record { inner = q; policies = p.policies }) c.args.steps.now c.act.new.steps)
    (sym c.in-Other.ensures.exact)
    (beside_stepped p.policies alone old (does p.inner c.args.text.now c.args.skip) name c.act.result new q c.args.steps.now c.act.new.steps c.act.ensures.stepped)

pub returns-in-Fault-clause-stepped : goal.returns-in-Fault-clause-stepped
returns-in-Fault-clause-stepped g c =
    let alone = g.B.Backend.alone in
    let does = g.A.Actor.semantics.does in
    let old = g.B.Backend.state c.args.backend.now in
    let name = g.A.Actor.named c.args.self.now.actor in
    let p = places_in g.A.Actor.places c.args.self.now in
    let b = g.A.Actor.within p.inner in
    let s = stream c.args.text.now c.args.skip in
    let other = ending_as (beside p.policies) (does p.inner c.args.text.now c.args.skip) in
    let n = c.args.steps.now in
    let short : n < 2 ^ 64 = search rules in
    let r = misread c.in-Fault.fault in
    let said_so : AnswersSo name (said.Fault r ∷ []) false c.refuse.result =
    subst (λ x. AnswersSo name (said.Fault x ∷ []) false c.refuse.result) c.misread.ensures (subst (λ m. AnswersSo m (said.Fault c.misread.result ∷ []) false c.refuse.result) c.name.ensures c.refuse.ensures)
    in
    subst (λ t. Stepped alone old (cond t (reads_as does p b (statement s)) other) name c.refuse.result old p n n) (sym c.in-Fault.ensures.exact.0)
    (subst (λ x. Stepped alone old (reads_as does p b x) name c.refuse.result old p n n) (sym c.in-Fault.ensures.exact.1) (line_stepped alone old name p (said.Fault r) c.refuse.result n short refl said_so))

pub returns-in-NoMemory-clause-stepped : goal.returns-in-NoMemory-clause-stepped
returns-in-NoMemory-clause-stepped g c =
    let p = places_in g.A.Actor.places c.args.self.now in
    (not_begun g.B.Backend.alone (g.B.Backend.state c.args.backend.now) (policy_does g.A.Actor.semantics.does g.A.Actor.within p c.args.text.now c.args.skip), omega arith)
