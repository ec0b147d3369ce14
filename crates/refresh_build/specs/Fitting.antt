-- When a job fits a history.
use Rattle.std.specs.Prelude.{◌≡◌, ℕ, Option, Some, None}
use Rattle.ts_model.specs.declared.events.Event.{Event}
use Rattle.ts_model.specs.declared.events.Event.TheVariants.{Table, Hyper, View, Mode, Commit, Cut, Built}
use Rattle.ts_model.specs.declared.views.ViewDef.{ViewDef}
use Rattle.ts_model.specs.History.{History}
use Rattle.ts_model.specs.Roster.{roster, view_of}
use Rattle.ts_model.specs.Jobs.{Fits}
use Rattle.refresh_build.specs.declared.jobs.Job.{Job}

-- a job of an aggregate with this definition fits a history
abbrev pub FitsView : Option ViewDef → History → Job → Type 0
FitsView None h job = ⊥
FitsView (Some def) h job = Fits job.view def h job.cut job.snap job.span job.spans job.groups job.top

-- a job fits a history: its aggregate exists, and it is a job of it
abbrev pub JobFits : History → Job → Type 0
JobFits h job = FitsView (view_of (roster h) job.view) h job

-- a job is of the finish of this refresh with this snapshot, and fits a history
abbrev pub IsJobOf : History → ℕ → ℕ → Job → Type 0
IsJobOf h cut snap job = (job.cut ≡ cut) × (job.snap ≡ snap) × JobFits h job

-- an event that finishes a refresh needs its job. Other events need none
abbrev pub JobIsFor : History → Event → Option Job → Type 0
JobIsFor h (Table def) job = Unit {0}
JobIsFor h (Hyper t hyper) job = Unit {0}
JobIsFor h (View def) job = Unit {0}
JobIsFor h (Mode v only) job = Unit {0}
JobIsFor h (Commit ops) job = Unit {0}
JobIsFor h (Cut v span) job = Unit {0}
JobIsFor h (Built cut snap) None = ⊥
JobIsFor h (Built cut snap) (Some job) = IsJobOf h cut snap job
