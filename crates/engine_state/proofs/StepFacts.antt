-- Events as steps of the parts of a state, and a finish with its job.
use Rattle.std.proofs.Common.{◌≡◌, ◌∙◌, ℕ, true, Option, Some, sym, subst}
use Rattle.ts_model.specs.declared.events.Event.{Event}
use Rattle.ts_model.specs.declared.events.Event.TheVariants.{Built}
use Rattle.ts_model.specs.History.{History, ◌▸◌}
use Rattle.ts_model.specs.Allowed.{consistent}
use Rattle.refresh_build.specs.declared.jobs.Job.{Job}
use Rattle.refresh_build.specs.Fitting.{IsJobOf, JobIsFor}
use Rattle.engine_state.specs.Nexts.{FinishesTo, StepsTo}
use Rattle.engine_state.specs.Stands.{StateValue, StandsFor}

-- a state after an event
pub steps_as : (s : StateValue) (e f : Event) (o : Option Job) (new made : StateValue) → e ≡ f → StepsTo s f new → made ≡ new → (h : History) → StandsFor h s → consistent h e ≡ true → JobIsFor h e o → StandsFor (h ▸ e) made
steps_as s e f o new made is steps last h st ok for_it = subst (λ z. StandsFor (h ▸ e) z) (sym last) (subst (λ e. StandsFor (h ▸ e) new) (sym is) (steps h st (subst (λ e. consistent h e ≡ true) is ok)))

-- a step by a job is a step by the finish that the job is for
pub finish_steps : (s : StateValue) (e : Event) (o : Option Job) (cut snap : ℕ) (job : Job) (new made : StateValue) → e ≡ Built cut snap → o ≡ Some job → FinishesTo s job new → made ≡ new → (h : History) → StandsFor h s → consistent h e ≡ true → JobIsFor h e o → StandsFor (h ▸ e) made
finish_steps s e o cut snap job new made is some f last h st ok for_it =
    let job_is : IsJobOf h cut snap job = subst (λ o. JobIsFor h (Built cut snap) o) some (subst (λ e. JobIsFor h e o) is for_it) in
    let finish : Built job.cut job.snap ≡ Built cut snap = λ i. Built (job_is.0 i) (job_is.1 i) in
    let same : Built job.cut job.snap ≡ e = finish ∙ sym is in
    subst (λ z. StandsFor (h ▸ e) z) (sym last) (subst (λ e. StandsFor (h ▸ e) new) same (f h st (subst (λ e. consistent h e ≡ true) (sym same) ok) job_is.2))
