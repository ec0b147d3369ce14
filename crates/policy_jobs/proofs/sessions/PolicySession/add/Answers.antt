use Rattle.std.proofs.Common.{◌≡◌, ◌∙◌, FitsSigned, [], ◌∷◌, ◌++◌, ap, false, length, refl, rules, subst, suc, sym, true, w64, None, Some}
use Rattle.ts_model.specs.History.{position}
use Rattle.ts_model.specs.Roster.{roster}
use Rattle.result_text.specs.declared.replies.Said.TheVariants as said
use Rattle.ts_sessions.specs.Procedures.{ends}
use Rattle.ts_sessions.specs.Sessions.{AnswersSo, IfAnswered, Stepped}
use Rattle.ts_sessions.proofs.SoundLaws.{is_numbered}
use Rattle.ts_sessions.proofs.StateLaws.{goes_seen, looked_reports, sees_looked}
use Rattle.policy_jobs.specs.Adding.{AreKept, adding_refusal}
use Rattle.policy_jobs.specs.Sessions.{HoldsOf, places_in}
use Rattle.policy_jobs.specs.Turns.{turn_of_adding}
use Rattle.policy_jobs.specs.declared.policies.Policy.{Policy}
use Rattle.policy_jobs.proofs.AddLaws.{added_stepped, adding_at, always, if_answered, kept_push, offsets_passed}
use Rattle.policy_jobs.proofs.TurnLaws.{line_stepped, seen_stepped}
use Rattle.policy_jobs.proofs.sessions.PolicySession.add.Goals as goal

pub adding_refusal-requires : goal.adding_refusal-requires
adding_refusal-requires g c =
    let mid = g.B.Backend.state c.snap.new.self in
    let t = looked_reports g.B.Backend.alone (g.B.Backend.state c.args.backend.now) _ mid c.in-Ok.ensures.looked in
    (is_numbered mid.history c.roster.result.now (c.roster.ensures mid.history t.1) t.0).relations

pub returns-in-Some-clause-stepped : goal.returns-in-Some-clause-stepped
returns-in-Some-clause-stepped g c = λ n short.
    let alone = g.B.Backend.alone in
    let old = g.B.Backend.state c.args.backend.now in
    let mid = g.B.Backend.state c.snap.new.self in
    let h = mid.history in
    let name = g.A.Actor.named c.args.self.now.actor in
    let p = places_in g.A.Actor.places c.args.self.now in
    let job = c.args.job in
    let every = c.args.every in
    let r = c.in-Some.refusal in
    let looked = c.in-Ok.ensures.looked in
    let t = looked_reports alone old _ mid looked in
    let fits : FitsSigned w64 every = c.ranges.every in
    let asked : Some r ≡ adding_refusal c.position-pos.result c.roster.result.now (length p.policies) job every = search rules in
    let refused_there = adding_at h c.position-pos.result c.roster.result.now (length p.policies) job every (Some r) (c.position-pos.ensures h t.1) (c.roster.ensures h t.1) asked in
    let policy : Policy = record { job = job; every = every; ran = None } in
    let said_so : AnswersSo name (said.Fault r ∷ []) false c.refuse.result = subst (λ m. AnswersSo m (said.Fault r ∷ []) false c.refuse.result) c.name.ensures c.refuse.ensures in
    seen_stepped alone old mid (λ l. true) (λ l. ends (turn_of_adding p (position l) policy (adding_refusal (position l) (roster l) (length p.policies) job every))) name c.refuse.result mid p n n (sees_looked alone old _ mid looked)
    (subst (λ o. Stepped alone mid (ends (turn_of_adding p (position h) policy o)) name c.refuse.result mid p n n) (sym refused_there) (line_stepped alone mid name p (said.Fault r) c.refuse.result n short refl said_so))

pub returns-in-Some-clause-holds : goal.returns-in-Some-clause-holds
returns-in-Some-clause-holds g c =
    let alone = g.B.Backend.alone in
    let old = g.B.Backend.state c.args.backend.now in
    let mid = g.B.Backend.state c.snap.new.self in
    let self = c.args.self.now in
    let goes = goes_seen alone old mid (sees_looked alone old _ mid c.in-Ok.ensures.looked) in
    let held : HoldsOf g.A.Actor.holds self mid = record { actor = g.met.A.Actor.holds_on self.actor old mid goes c.requires.holds.actor; policies = c.requires.holds.policies } in
    always c.refuse.result (HoldsOf g.A.Actor.holds self mid) held

pub returns-in-None-clause-stepped : goal.returns-in-None-clause-stepped
returns-in-None-clause-stepped g c = λ n short.
    let alone = g.B.Backend.alone in
    let old = g.B.Backend.state c.args.backend.now in
    let mid = g.B.Backend.state c.snap.new.self in
    let h = mid.history in
    let name = g.A.Actor.named c.args.self.now.actor in
    let p = places_in g.A.Actor.places c.args.self.now in
    let q = places_in g.A.Actor.places c.keep.new.self in
    let job = c.args.job in
    let every = c.args.every in
    let looked = c.in-Ok.ensures.looked in
    let t = looked_reports alone old _ mid looked in
    let fits : FitsSigned w64 every = c.ranges.every in
    let asked : None ≡ adding_refusal c.position-pos.result c.roster.result.now (length p.policies) job every = search rules in
    let passed_there = adding_at h c.position-pos.result c.roster.result.now (length p.policies) job every None (c.position-pos.ensures h t.1) (c.roster.ensures h t.1) asked in
    let policy : Policy = record { job = job; every = every; ran = None } in
    let pushed : IfAnswered c.keep.result (c.keep.new.self.policies ≡ p.policies ++ policy ∷ []) = search rules in
    let there : IfAnswered c.keep.result (q ≡ record p { policies = p.policies ++ policy ∷ [] }) =
    if_answered c.keep.result (c.keep.new.self.policies ≡ p.policies ++ policy ∷ []) (q ≡ record p { policies = p.policies ++ policy ∷ [] })
    (λ e. ap (λ a. record { inner = g.A.Actor.places a; policies = c.keep.new.self.policies }) c.keep.ensures.actor ∙ ap (λ ps. record { inner = p.inner; policies = ps }) e) pushed
    in
    let at : c.position-pos.result ≡ position h = c.position-pos.ensures h t.1 in
    let says : AnswersSo name (said.Policy (suc (length p.policies)) (position h) ∷ []) false c.keep.result =
    subst (λ x. AnswersSo name (said.Policy (suc (length p.policies)) x ∷ []) false c.keep.result) at c.keep.ensures.says
    in
    seen_stepped alone old mid (λ l. true) (λ l. ends (turn_of_adding p (position l) policy (adding_refusal (position l) (roster l) (length p.policies) job every))) name c.keep.result mid q n n (sees_looked alone old _ mid looked)
    (subst (λ o. Stepped alone mid (ends (turn_of_adding p (position h) policy o)) name c.keep.result mid q n n) (sym passed_there) (added_stepped alone mid name p q (position h) policy c.keep.result n short says there))

pub returns-in-None-clause-holds : goal.returns-in-None-clause-holds
returns-in-None-clause-holds g c =
    let alone = g.B.Backend.alone in
    let old = g.B.Backend.state c.args.backend.now in
    let mid = g.B.Backend.state c.snap.new.self in
    let self = c.args.self.now in
    let new = c.keep.new.self in
    let job = c.args.job in
    let every = c.args.every in
    let many = length self.policies in
    let fits : FitsSigned w64 every = c.ranges.every in
    let asked : None ≡ adding_refusal c.position-pos.result c.roster.result.now many job every = search rules in
    let policy : Policy = record { job = job; every = every; ran = None } in
    let pushed : IfAnswered c.keep.result (new.policies ≡ self.policies ++ policy ∷ []) = search rules in
    let goes = goes_seen alone old mid (sees_looked alone old _ mid c.in-Ok.ensures.looked) in
    let inner = subst (λ a. g.A.Actor.holds a mid) (sym c.keep.ensures.actor) (g.met.A.Actor.holds_on self.actor old mid goes c.requires.holds.actor) in
    let kept = kept_push self.policies policy c.requires.holds.policies (offsets_passed c.position-pos.result c.roster.result.now many job every (sym asked)) in
    if_answered c.keep.result (new.policies ≡ self.policies ++ policy ∷ []) (HoldsOf g.A.Actor.holds new mid)
    (λ e. record { actor = inner; policies = subst AreKept (sym e) kept }) pushed
