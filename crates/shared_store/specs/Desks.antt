-- A store handle, through which one thread uses the store.
use Rattle.std.specs.Prelude.{◌≡◌, ℕ, Option, Some, None}
use Rattle.ts_model.specs.declared.events.Event.{Event}
use Rattle.ts_model.specs.States.{State, stop_of}
use Rattle.turn_lock.specs.Pass.{shares_of, closed_of, made_of}
use Rattle.shared_store.specs.Stores.{Ticket, Shared, IsPassOf, history_of}
use Rattle.shared_store.specs.declared.turns.TurnEnd.{TurnEnd}

-- the value of a store handle in contracts: its store, its pass, and what its last call left, if it has had one
pub record AtDesk (B : Type 0) : Type 0 where
  pub store : Shared B
  pub pass : Ticket B
  pub last : Option (TurnEnd B)

-- what identifies a store handle to its owner
pub record Place (B : Type 0) : Type 0 where
  pub store : Shared B
  pub shares : ℕ

abbrev pub place_of : {B : Type 0} → AtDesk B → Place B
place_of desk = record { store = desk.store; shares = shares_of desk.pass }

-- a store handle without a call yet
abbrev pub fresh_desk : {B : Type 0} → Shared B → Ticket B → AtDesk B
fresh_desk store pass = record { store = store; pass = pass; last = None }

module _ {B : Type 0} (state : B → State) where
  -- the event at which the disk failed, as the last call found or left it
  abbrev pub failed_at : Option (TurnEnd B) → Option Event
  failed_at None = None
  failed_at (Some left) = (state left.backend.value).failed

  -- the count of faults that the last call left, or that of the start before the first call
  abbrev pub faults_at : ℕ → Option (TurnEnd B) → ℕ
  faults_at first None = first
  faults_at first (Some left) = (state left.backend.value).faults

  -- the state of a store handle: what its pass has seen and appended
  abbrev pub desk_state : AtDesk B → State
  desk_state desk = record {
    history = history_of state desk.store desk.pass;
    failed = failed_at desk.last;
    faults = faults_at (state desk.store.opened.value).faults desk.last;
    made = made_of desk.pass;
    origin = (state desk.store.opened.value).origin;
  }

  -- what the last call left is what the pass has seen
  abbrev pub IsLast : AtDesk B → Option (TurnEnd B) → Type 0
  IsLast desk None = Unit {0}
  IsLast desk (Some left) =
      (closed_of desk.pass ≡ (state left.backend.value).failed)
      × ((state left.backend.value).history ≡ history_of state desk.store desk.pass)
      × (left.stopped ≡ stop_of (state left.backend.value))

  pub record IsDesk (desk : AtDesk B) : Type 0 where
    pub of_store : IsPassOf desk.store desk.pass
    pub last : IsLast desk desk.last
