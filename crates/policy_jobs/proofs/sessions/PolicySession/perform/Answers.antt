use Rattle.std.proofs.Common.{◌≡◌, ◌∙◌, ◌<◌, ◌^◌, [], ◌∷◌, false, of_z, refl, rules, subst, sym, to_z, w64, None, Some}
use Rattle.result_text.specs.declared.replies.Said.TheVariants as said
use Rattle.ts_sessions.specs.declared.kinds.StatementKind.TheVariants.{Defines}
use Rattle.ts_sessions.specs.Sessions.{AnswersSo, Stepped}
use Rattle.ts_sessions.specs.Step.{block_refusal}
use Rattle.policy_jobs.specs.Sessions.{places_in}
use Rattle.policy_jobs.specs.Turns.{adds_policy, lets_pass, ticks}
use Rattle.policy_jobs.proofs.TurnLaws.{line_stepped}
use Rattle.policy_jobs.proofs.sessions.PolicySession.perform.Goals as goal

pub returns-in-Some-clause-stepped : goal.returns-in-Some-clause-stepped
returns-in-Some-clause-stepped g c =
    let alone = g.B.Backend.alone in
    let old = g.B.Backend.state c.args.backend.now in
    let name = g.A.Actor.named c.args.self.now.actor in
    let p = places_in g.A.Actor.places c.args.self.now in
    let b = g.A.Actor.within p.inner in
    let r = c.in-Some.refusal in
    let n = c.args.steps.now in
    let short : n < 2 ^ 64 = search rules in
    let barred : Some r ≡ block_refusal b Defines = sym c.in-Some.is ∙ c.barrier.ensures b c.block.ensures in
    let said_so : AnswersSo name (said.Fault r ∷ []) false c.refuse.result = subst (λ m. AnswersSo m (said.Fault r ∷ []) false c.refuse.result) c.name.ensures c.refuse.ensures in
    subst (λ o. Stepped alone old (lets_pass g.A.Actor.semantics.does p c.args.stmt o) name c.refuse.result old p n n) barred (line_stepped alone old name p (said.Fault r) c.refuse.result n short refl said_so)

pub returns-in-Add-clause-stepped : goal.returns-in-Add-clause-stepped
returns-in-Add-clause-stepped g c =
    let alone = g.B.Backend.alone in
    let old = g.B.Backend.state c.args.backend.now in
    let new = g.B.Backend.state c.add.new.backend in
    let name = g.A.Actor.named c.args.self.now.actor in
    let does = g.A.Actor.semantics.does in
    let p = places_in g.A.Actor.places c.args.self.now in
    let q = places_in g.A.Actor.places c.add.new.self in
    let b = g.A.Actor.within p.inner in
    let n = c.args.steps.now in
    let short : n < 2 ^ 64 = search rules in
    let free : None ≡ block_refusal b Defines = sym c.in-None.is ∙ c.barrier.ensures b c.block.ensures in
    let here : to_z w64 (of_z w64 c.in-Add.every) ≡ c.in-Add.every = search rules in
    let stepped = subst (λ z. Stepped alone old (adds_policy p c.in-Add.job z) name c.add.result new q n n) here (c.add.ensures.stepped n short) in
    subst (λ o. Stepped alone old (lets_pass does p c.args.stmt o) name c.add.result new q n n) free
    (subst (λ st. Stepped alone old (lets_pass does p st None) name c.add.result new q n n) (sym c.in-Add.is) stepped)

pub returns-in-Tick-clause-stepped : goal.returns-in-Tick-clause-stepped
returns-in-Tick-clause-stepped g c =
    let alone = g.B.Backend.alone in
    let old = g.B.Backend.state c.args.backend.now in
    let new = g.B.Backend.state c.tick.new.backend in
    let name = g.A.Actor.named c.args.self.now.actor in
    let does = g.A.Actor.semantics.does in
    let p = places_in g.A.Actor.places c.args.self.now in
    let q = places_in g.A.Actor.places c.tick.new.self in
    let b = g.A.Actor.within p.inner in
    let n = c.args.steps.now in
    let m = c.tick.new.steps in
    let free : None ≡ block_refusal b Defines = sym c.in-None.is ∙ c.barrier.ensures b c.block.ensures in
    let here : to_z w64 (of_z w64 c.in-Tick.now) ≡ c.in-Tick.now = search rules in
    let stepped = subst (λ z. Stepped alone old (ticks does p z) name c.tick.result new q n m) here c.tick.ensures.stepped in
    subst (λ o. Stepped alone old (lets_pass does p c.args.stmt o) name c.tick.result new q n m) free
    (subst (λ st. Stepped alone old (lets_pass does p st None) name c.tick.result new q n m) (sym c.in-Tick.is) stepped)
