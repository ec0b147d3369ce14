-- The parts of a state after one more event, for each history that they represent.
use Rattle.std.specs.Prelude.{◌≡◌, ℕ, Bool, true, ℤ, Option, IfSome}
use Rattle.ts_model.specs.declared.events.Event.{Event}
use Rattle.ts_model.specs.declared.events.Event.TheVariants.{Table, Mode, Built}
use Rattle.ts_model.specs.declared.refreshes.Window.{Window}
use Rattle.ts_model.specs.declared.tables.TableDef.{TableDef}
use Rattle.ts_model.specs.History.{History, ◌▸◌}
use Rattle.ts_model.specs.Roster.{view_of}
use Rattle.ts_model.specs.Allowed.{consistent}
use Rattle.ts_model.specs.Windows.{window}
use Rattle.refresh_build.specs.declared.jobs.Job.{Job}
use Rattle.refresh_build.specs.Fitting.{JobFits, JobIsFor}
use Rattle.engine_state.specs.Stands.{StateValue, StandsFor}
use Rattle.engine_state.specs.Afters.{CountsAre}

-- for each history that a state represents and with which the event is consistent, the new state represents the
-- history with the event
abbrev pub StepsTo : StateValue → Event → StateValue → Type 0
StepsTo s e new = (h : History) → StandsFor h s → consistent h e ≡ true → StandsFor (h ▸ e) new

-- the same for the event that creates a table, and for one that sets a mode
abbrev pub TablesTo : StateValue → Event → StateValue → Type 0
TablesTo s e new = (def : TableDef) → e ≡ Table def → StepsTo s (Table def) new

abbrev pub ModesTo : StateValue → Event → StateValue → Type 0
ModesTo s e new = (view : ℕ) (only : Bool) → e ≡ Mode view only → StepsTo s (Mode view only) new

-- the same for any event with a job, if the job is for it
abbrev pub GoesTo : StateValue → Event → Option Job → StateValue → Type 0
GoesTo s e job new = (h : History) → StandsFor h s → consistent h e ≡ true → JobIsFor h e job → StandsFor (h ▸ e) new

-- the same for the finish with a job, if the job fits the history
abbrev pub FinishesTo : StateValue → Job → StateValue → Type 0
FinishesTo s job new =
    (h : History) → StandsFor h s → consistent h (Built job.cut job.snap) ≡ true → JobFits h job
    → StandsFor (h ▸ Built job.cut job.snap) new

-- and the event appends and removes these numbers of rows
abbrev pub Counts : StateValue → Event → ℕ → ℕ → Type 0
Counts s e inserted removed = (h : History) → StandsFor h s → consistent h e ≡ true → CountsAre h e inserted removed

-- for each history that a state represents, a refresh of an aggregate with this window covers these buckets
abbrev pub WindowIs : StateValue → ℕ → Option ℤ → Option ℤ → Window → Type 0
WindowIs s view lo hi found =
    (h : History) → StandsFor h s → IfSome (view_of s.roster view) (λ def. found ≡ window view def h lo hi)
