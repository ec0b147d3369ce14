use Rattle.std.proofs.Common.{◌≡◌, ◌∙◌, [], ◌∷◌, refl, ◌<◌, ◌≤◌, ◌^◌, FitsSigned, ap, cond, false, of_z, rules, subst, sym, to_z, true, w64}
use Rattle.std.specs.Prelude.{Ok}
use Rattle.std.proofs.Math.Facts.{to_z-of_z}
use Rattle.std.specs.List.{list_any}
use Rattle.std.proofs.lemmas.Bool.{not-true}
use Rattle.ts_bucket.specs.Bucket.{is_time}
use Rattle.result_text.specs.declared.replies.Said.TheVariants as said
use Rattle.ts_sessions.specs.Procedures.{ending_as, ends}
use Rattle.ts_sessions.specs.Sessions.{AnswersSo, Stepped}
use Rattle.ts_sessions.specs.Walks.{Breaks}
use Rattle.ts_sessions.proofs.WalkLaws.{breaks_first}
use Rattle.policy_jobs.specs.Adding.{AreKept}
use Rattle.policy_jobs.specs.Policies.{is_due, policies_after_tick}
use Rattle.policy_jobs.specs.Runs.{RunsTo}
use Rattle.policy_jobs.specs.Sessions.{HoldsOf, places_in}
use Rattle.policy_jobs.specs.Turns.{beside, misses_time, runs_due}
use Rattle.policy_jobs.proofs.AddLaws.{always, kept_ticked}
use Rattle.policy_jobs.proofs.DueLaws.{idle, idle_due, idle_marked}
use Rattle.policy_jobs.proofs.TurnLaws.{beside_stepped, line_stepped, run_stepped}
use Rattle.policy_jobs.proofs.sessions.PolicySession.tick.Goals as goal

pub returns-then-not-is_time-clause-stepped : goal.returns-then-not-is_time-clause-stepped
returns-then-not-is_time-clause-stepped g c =
    let does = g.A.Actor.semantics.does in
    let p = places_in g.A.Actor.places c.args.self.now in
    let n = c.args.steps.now in
    let short : n < 2 ^ 64 = search rules in
    let no_time : is_time c.args.now ≡ false = search rules in
    subst (λ t. Stepped g.B.Backend.alone (g.B.Backend.state c.args.backend.now) (cond t (ending_as (beside (policies_after_tick c.args.now p.policies)) (runs_due does c.args.now p.inner p.policies)) (misses_time p)) (g.A.Actor.named c.args.self.now.actor) c.miss_time.result (g.B.Backend.state c.miss_time.new.backend) p n n)
    (sym no_time) (c.miss_time.ensures.stepped n short)

pub returns-in-Ok-clause-stepped : goal.returns-in-Ok-clause-stepped
returns-in-Ok-clause-stepped g c =
    let alone = g.B.Backend.alone in
    let does = g.A.Actor.semantics.does in
    let old = g.B.Backend.state c.args.backend.now in
    let new = g.B.Backend.state c.run_due.new.backend in
    let name = g.A.Actor.named c.args.self.now.actor in
    let now = c.args.now in
    let fits : FitsSigned w64 now = c.ranges.now in
    let here = to_z-of_z {w = w64} {z = now} fits in
    let p = places_in g.A.Actor.places c.args.self.now in
    let q = places_in g.A.Actor.places c.mark.new.self in
    let n = c.args.steps.now in
    let m = c.run_due.new.steps in
    let d = runs_due does now p.inner p.policies in
    let in_there : c.is_time.result ≡ true = c.if-not-is_time.false in
    let in_time : is_time now ≡ true = subst (λ t. is_time t ≡ true) here (sym c.is_time.ensures ∙ in_there) in
    let ran : RunsTo alone old d name (Ok c.in-Ok.run') new (g.A.Actor.places c.run_due.new.self.actor) n m = subst (λ t. RunsTo alone old (runs_due does t p.inner p.policies) name (Ok c.in-Ok.run') new (g.A.Actor.places c.run_due.new.self.actor) n m) here c.in-Ok.ensures.ran in
    let whole = beside_stepped (policies_after_tick now p.policies) alone old d name c.step_end.result new (g.A.Actor.places c.run_due.new.self.actor) n m (run_stepped alone old d name c.in-Ok.run' c.step_end.result new (g.A.Actor.places c.run_due.new.self.actor) n m ran c.step_end.ensures) in
    let marked : c.mark.new.self.policies ≡ policies_after_tick now p.policies = subst (λ t. c.mark.new.self.policies ≡ policies_after_tick t p.policies) here (c.mark.ensures.policies ∙ ap (policies_after_tick (to_z w64 (of_z w64 now))) c.in-Ok.ensures.policies) in
    subst (λ t. Stepped alone old (cond t (ending_as (beside (policies_after_tick now p.policies)) d) (misses_time p)) name c.step_end.result new q n m) (sym in_time)
    (subst (λ a. Stepped alone old (ending_as (beside (policies_after_tick now p.policies)) d) name c.step_end.result new (record { inner = g.A.Actor.places a; policies = q.policies }) n m) (sym c.mark.ensures.actor)
    (subst (λ ps. Stepped alone old (ending_as (beside (policies_after_tick now p.policies)) d) name c.step_end.result new (record { inner = g.A.Actor.places c.run_due.new.self.actor; policies = ps }) n m) (sym marked) whole))

pub returns-in-Ok-clause-holds : goal.returns-in-Ok-clause-holds
returns-in-Ok-clause-holds g c =
    let new = g.B.Backend.state c.run_due.new.backend in
    let policies = c.args.self.now.policies in
    let time = to_z w64 (of_z w64 c.args.now) in
    let marked : c.mark.new.self.policies ≡ policies_after_tick time policies = c.mark.ensures.policies ∙ ap (policies_after_tick time) c.in-Ok.ensures.policies in
    let inner = subst (λ a. g.A.Actor.holds a new) (sym c.mark.ensures.actor) c.in-Ok.ensures.holds in
    always c.step_end.result (HoldsOf g.A.Actor.holds c.mark.new.self new)
    (record { actor = inner; policies = subst AreKept (sym marked) (kept_ticked time policies c.requires.holds.policies) })

pub returns-in-Err-clause-stepped : goal.returns-in-Err-clause-stepped
returns-in-Err-clause-stepped g c =
    let alone = g.B.Backend.alone in
    let does = g.A.Actor.semantics.does in
    let old = g.B.Backend.state c.args.backend.now in
    let new = g.B.Backend.state c.run_due.new.backend in
    let now = c.args.now in
    let fits : FitsSigned w64 now = c.ranges.now in
    let here = to_z-of_z {w = w64} {z = now} fits in
    let p = places_in g.A.Actor.places c.args.self.now in
    let n = c.args.steps.now in
    let m = c.run_due.new.steps in
    let d = runs_due does now p.inner p.policies in
    let in_there : c.is_time.result ≡ true = c.if-not-is_time.false in
    let in_time : is_time now ≡ true = subst (λ t. is_time t ≡ true) here (sym c.is_time.ensures ∙ in_there) in
    let broke : Breaks alone old (runs_due does (to_z w64 (of_z w64 now)) p.inner p.policies) new × (n ≤ m) = c.in-Err.ensures.ran in
    let broke_here = subst (λ t. Breaks alone old (runs_due does t p.inner p.policies) new) here broke.0 in
    subst (λ t. Breaks alone old (cond t (ending_as (beside (policies_after_tick now p.policies)) d) (misses_time p)) new × (n ≤ m)) (sym in_time)
    (breaks_first alone old d (λ y. ends (beside (policies_after_tick now p.policies) y)) new broke_here, broke.1)

pub returns-then-is_idle-clause-stepped : goal.returns-then-is_idle-clause-stepped
returns-then-is_idle-clause-stepped g c =
    let alone = g.B.Backend.alone in
    let does = g.A.Actor.semantics.does in
    let old = g.B.Backend.state c.args.backend.now in
    let name = g.A.Actor.named c.args.self.now.actor in
    let p = places_in g.A.Actor.places c.args.self.now in
    let now = c.args.now in
    let n = c.args.steps.now in
    let short : n < 2 ^ 64 = search rules in
    let fits : FitsSigned w64 now = c.ranges.now in
    let here = to_z-of_z {w = w64} {z = now} fits in
    let in_there : c.is_time.result ≡ true = c.if-not-is_time.false in
    let in_time : is_time now ≡ true = subst (λ t. is_time t ≡ true) here (sym c.is_time.ensures ∙ in_there) in
    let none : list_any (is_due now) p.policies ≡ false = not-true (list_any (is_due now) p.policies) (search rules) in
    let line = said.Tick now 0 in
    let said_so : AnswersSo name (line ∷ []) false c.say.result = search rules in
    subst (λ d. Stepped alone old d name c.say.result old p n n) (sym (idle does p now in_time (idle_due now p.policies none) (idle_marked now p.policies none)))
    (line_stepped alone old name p line c.say.result n short refl said_so)
