use Rattle.std.proofs.Common.{◌≡◌, rules, subst, sym, true}
use Rattle.std.specs.Prelude.{IfOk}
use Rattle.policy_jobs.specs.Adding.{has_offsets}
use Rattle.policy_jobs.specs.Policies.{due_text}
use Rattle.policy_jobs.specs.Runs.{IsRunnable}
use Rattle.policy_jobs.proofs.DueTexts.{refresh_runs, retention_runs, runs_as}
use Rattle.policy_jobs.proofs.policies.Policy.text.Goals as goal

pub returns-in-Refresh-clause-runnable : goal.returns-in-Refresh-clause-runnable
returns-in-Refresh-clause-runnable c = λ t o.
    let a = c.in-Refresh in
    let e : IfOk c.refresh_at.result (λ x. x ≡ due_text c.args.now c.args.self.now.job) = search rules in
    runs_as c.refresh_at.result e
    (subst (λ j. IsRunnable (due_text c.args.now j)) (sym a.is) (refresh_runs c.args.now a.view a.from a.to c.bytes-name.ensures.name t (subst (λ j. has_offsets j ≡ true) a.is o)))

pub returns-in-Drop-clause-runnable : goal.returns-in-Drop-clause-runnable
returns-in-Drop-clause-runnable c = λ t o.
    let a = c.in-Drop in
    let e : IfOk c.retention_at.result (λ x. x ≡ due_text c.args.now c.args.self.now.job) = search rules in
    runs_as c.retention_at.result e
    (subst (λ j. IsRunnable (due_text c.args.now j)) (sym a.is) (retention_runs c.args.now a.table a.after c.bytes-name-in-Drop.ensures.name t (subst (λ j. has_offsets j ≡ true) a.is o)))
