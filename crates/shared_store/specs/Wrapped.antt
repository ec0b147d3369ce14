-- A backend inside the lock.
use Rattle.std.specs.Prelude.{◌≡◌, ℕ, Bool, List, ◌++◌, None, IsTrue}
use Rattle.std.specs.declared.snapshot.Snapshot.{Snapshot}
use Rattle.ts_schema.specs.Faults.{Rose}
use Rattle.ts_model.specs.declared.events.Event.{Event}
use Rattle.ts_model.specs.History.{History, position, Begins}
use Rattle.ts_model.specs.declared.outcomes.Outcome.{Outcome}
use Rattle.ts_model.specs.Calls.{Act, Called, Looked}
use Rattle.ts_model.specs.States.{State, stands_still}
use Rattle.turn_lock.specs.Positions.{positions_between}
use Rattle.shared_store.specs.Histories.{events_after}

-- the value of a backend in contracts: its present value, and its value when it came into the lock
pub record Wrapped (B : Type 0) : Type 0 where
  pub backend : B
  pub opened : Snapshot B

-- the numbers of the events that lead from one state to another
abbrev pub positions_made : State → State → List ℕ
positions_made old new = positions_between (position old.history) (position new.history)

-- how a backend that nobody else uses continued its state at the start, if it had not stopped then
pub record GoesOn (first now : State) : Type 0 where
  pub went : first.failed ≡ None
  pub begins : Begins first.history now.history
  -- it appended each event since then
  pub made : now.made ≡ first.made ++ positions_made first now
  pub origin : now.origin ≡ first.origin
  -- its count of faults rose exactly if it has stopped
  pub counted : now.failed ≡ None → now.faults ≡ first.faults
  pub fell : IsTrue (stands_still now) → Rose first.faults now.faults

module _ {B K : Type 0} (alone : Bool) (state : B → State) (kin : B → K) where
  -- nobody else uses the backend. It has continued its state since it came into the lock, and has the same origin
  pub record IsKept (k : Wrapped B) : Type 0 where
    pub is_alone : IsTrue alone
    pub goes_on : GoesOn (state k.opened.value) (state k.backend)
    pub same_kin : kin k.backend ≡ kin k.opened.value

  -- a call left the backend in the lock
  pub record StaysKept (old new : Wrapped B) : Type 0 where
    pub opened : new.opened ≡ old.opened
    pub before : IsKept old
    pub after : IsKept new

module _ {B : Type 0} (alone : Bool) (state : B → State) where
  -- the backend had a call with this effect
  abbrev pub CalledIn : {A : Type 0} → Wrapped B → (History → Act A) → Outcome A → Wrapped B → Type 0
  CalledIn old act outcome new = Called alone (state old.backend) act outcome (state new.backend)

  -- the backend had a read call, which reports this about the history that it found
  abbrev pub LookedIn : Wrapped B → (History → Type 0) → Wrapped B → Type 0
  LookedIn old Tells new = Looked alone (state old.backend) Tells (state new.backend)

-- the events of a backend since it came into the lock
abbrev pub events_in : {B : Type 0} → (B → State) → Wrapped B → List Event
events_in state k = events_after (state k.opened.value).history (state k.backend).history
