-- A state after one more event.
use Rattle.std.specs.Prelude.{◌≡◌, ℕ, true, Option}
use Rattle.ts_model.specs.declared.events.Event.{Event}
use Rattle.ts_model.specs.declared.events.Event.TheVariants.{Commit, Built}
use Rattle.ts_model.specs.History.{History}
use Rattle.ts_model.specs.Allowed.{consistent}
use Rattle.ts_model.specs.Calls.{commit_result}
use Rattle.refresh_build.specs.declared.jobs.Job.{Job}
use Rattle.refresh_build.specs.Fitting.{JobIsFor}
use Rattle.engine_state.specs.Stands.{StateValue, StandsFor}

-- the numbers of rows that an event appends and removes, over all tables
abbrev pub CountsAre : History → Event → ℕ → ℕ → Type 0
CountsAre h (Commit ops) inserted removed =
    (inserted ≡ (commit_result ops h).inserted) × (removed ≡ (commit_result ops h).removed)
CountsAre h e inserted removed = (inserted ≡ 0) × (removed ≡ 0)

-- the state represents some history after which the event may come next, with this job
pub record IsNext (s : StateValue) (e : Event) (job : Option Job) : Type 0 where
  pub history : History
  pub stands : StandsFor history s
  pub fits : consistent history e ≡ true
  pub job_is : JobIsFor history e job

-- the finish of a refresh with this snapshot may come next
pub record IsNextFinish (s : StateValue) (cut snap : ℕ) : Type 0 where
  pub history : History
  pub stands : StandsFor history s
  pub fits : consistent history (Built cut snap) ≡ true
