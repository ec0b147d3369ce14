-- How a procedure runs on a store that others may change too, and its result on a history that nobody else changes.
use Rattle.std.specs.Prelude.{◌≡◌, Bool, true, false, ◌⊎◌, IsTrue}
use Rattle.ts_model.specs.History.{History, ◌▸◌}
use Rattle.ts_model.specs.States.{State, Found, Makes, Fails, stands_still}
use Rattle.ts_sessions.specs.Procedures.{Procedure, sees, adds, ends}

-- a read finds the last state that was seen, or the one that a call finds
abbrev pub Sees : Bool → State → State → Type 0
Sees alone old found = (found ≡ old) ⊎ Found alone old found

-- the first part led to a state, and the rest continued from there
pub record By (First Rest : State → Type 0) : Type 0 where
  pub mid : State
  pub first : First mid
  pub rest : Rest mid

-- a procedure that began at state `old` ended at state `new` with result y. failed: the disk failed at one of its
-- events, and the store stopped there
abbrev pub Walks : {A : Type 0} → Bool → Bool → State → Procedure A → State → A → Type 0
Walks alone failed old (sees shown f) new y =
    By (Sees alone old) (λ found. Walks alone failed found (f found.history) new y)
Walks alone failed old (adds e next stop) new y =
    (IsTrue (stands_still old) × Walks alone failed old stop new y)
    ⊎ By (Makes e old) (λ mid. Walks alone failed mid next new y)
    ⊎ ((failed ≡ true) × By (Fails e old) (λ mid. Walks alone false mid stop new y))
Walks alone failed old (ends a) new y = (failed ≡ false) × (new ≡ old) × (y ≡ a)

-- a procedure ran out of memory, whether the disk had failed before or not. The events that it had appended remain
abbrev pub Breaks : {A : Type 0} → Bool → State → Procedure A → State → Type 0
Breaks alone old (sees shown f) new = By (Sees alone old) (λ found. Breaks alone found (f found.history) new)
Breaks alone old (adds e next stop) new =
    (new ≡ old)
    ⊎ (IsTrue (stands_still old) × Breaks alone old stop new)
    ⊎ By (Makes e old) (λ mid. Breaks alone mid next new)
    ⊎ By (Fails e old) (λ mid. Breaks alone mid stop new)
Breaks alone old (ends a) new = new ≡ old

-- the history after a procedure, if nobody else changes it
abbrev pub history_after : {A : Type 0} → Procedure A → History → History
history_after (sees shown f) h = history_after (f h) h
history_after (adds e next stop) h = history_after next (h ▸ e)
history_after (ends a) h = h

-- the result of a procedure, if nobody else changes the history
abbrev pub end_of_walk : {A : Type 0} → Procedure A → History → A
end_of_walk (sees shown f) h = end_of_walk (f h) h
end_of_walk (adds e next stop) h = end_of_walk next (h ▸ e)
end_of_walk (ends a) h = a
