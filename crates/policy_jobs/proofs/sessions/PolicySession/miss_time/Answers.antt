use Rattle.std.proofs.Common.{◌≡◌, ◌∙◌, [], ◌∷◌, ap, false, refl, subst, true}
use Rattle.ts_model.specs.Calls.{refusal}
use Rattle.result_text.specs.declared.replies.Said.TheVariants as said
use Rattle.ts_sessions.specs.Places.{refuses}
use Rattle.ts_sessions.specs.Procedures.{ends}
use Rattle.ts_sessions.specs.Sessions.{AnswersSo}
use Rattle.ts_sessions.proofs.StateLaws.{looked_reports, sees_looked}
use Rattle.policy_jobs.specs.Sessions.{places_in}
use Rattle.policy_jobs.proofs.TurnLaws.{line_stepped, seen_stepped}
use Rattle.policy_jobs.proofs.sessions.PolicySession.miss_time.Goals as goal

pub returns-in-Ok-clause-stepped : goal.returns-in-Ok-clause-stepped
returns-in-Ok-clause-stepped g c = λ n short.
    let alone = g.B.Backend.alone in
    let old = g.B.Backend.state c.args.backend.now in
    let mid = g.B.Backend.state c.snap.new.self in
    let name = g.A.Actor.named c.args.self.now.actor in
    let p = places_in g.A.Actor.places c.args.self.now in
    let looked = c.in-Ok.ensures.looked in
    let t = looked_reports alone old _ mid looked in
    let r = refusal 9 mid.history 0 in
    let is : c.bad_time.result ≡ r = c.bad_time.ensures ∙ ap (λ at. record { code = 9; pos = at; mark = 0 }) (c.position.ensures mid.history t.1) in
    let said_so : AnswersSo name (said.Fault r ∷ []) false c.refuse.result = subst (λ x. AnswersSo name (said.Fault x ∷ []) false c.refuse.result) is (subst (λ m. AnswersSo m (said.Fault c.bad_time.result ∷ []) false c.refuse.result) c.name.ensures c.refuse.ensures) in
    seen_stepped alone old mid (λ h. true) (λ h. ends (refuses p (refusal 9 h 0))) name c.refuse.result mid p n n (sees_looked alone old _ mid looked)
    (line_stepped alone mid name p (said.Fault r) c.refuse.result n short refl said_so)
