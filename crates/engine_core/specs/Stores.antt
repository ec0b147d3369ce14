-- The state of a store in memory that only its owner changes.
use Rattle.std.specs.Prelude.{ℕ, suc, true, List, [], ◌∷◌, ◌++◌, None}
use Rattle.ts_model.specs.declared.outcomes.Outcome.{Outcome}
use Rattle.ts_model.specs.History.{History, start, resumed, ◌▸◌, position}
use Rattle.ts_model.specs.States.{Origin, State}
use Rattle.ts_model.specs.Calls.{Act, Called}
use Rattle.engine_core.specs.Histories.{history_of}
use Rattle.engine_core.specs.Values.{Past}

-- it begins with no event and no fault
abbrev pub nothing_before : Origin
nothing_before = record { faults = 0; opening = start; moment = 0 }

-- the numbers of the events of a history, in order
abbrev pub numbers_of : History → List ℕ
numbers_of start = []
numbers_of (resumed i) = []
numbers_of (h ▸ e) = numbers_of h ++ (suc (position h) ∷ [])

-- it has created each event of its history, and it never fails
abbrev pub state_of : History → State
state_of h = record { history = h; failed = None; faults = 0; made = numbers_of h; origin = nothing_before }

-- a call that does this, on an engine in memory that only the caller changes
abbrev pub EngineDoes : {A : Type 0} → (History → Act A) → Past → Outcome A → Past → Type 0
EngineDoes act old outcome new = Called true (state_of (history_of old)) act outcome (state_of (history_of new))
