-- A shared store and its passes.
use Rattle.std.specs.Prelude.{◌≡◌, ℕ, Some}
use Rattle.std.specs.declared.snapshot.Snapshot.{Snapshot}
use Rattle.atomic_table.specs.Seated.{TableId}
use Rattle.ts_model.specs.declared.events.Event.{Event}
use Rattle.ts_model.specs.History.{History, ◌▸▸◌}
use Rattle.ts_model.specs.States.{State}
use Rattle.turn_lock.specs.Pass.{Carried, Guarded, IsIdle, base_of, seen_of}
use Rattle.shared_store.specs.Wrapped.{Wrapped}

-- the value of a shared store's pass in contracts
abbrev pub Ticket : Type 0 → Type 0
Ticket B = Carried (Wrapped B) (Snapshot B) Event

-- the value of a shared store in contracts: its lock, and the backend and the number of shares with which it was
-- created
pub record Shared (B : Type 0) : Type 0 where
  pub lock : TableId
  pub opened : Snapshot B
  pub shares : ℕ

module _ {B : Type 0} where
  -- the store with this lock
  abbrev pub shared_of : Guarded (Wrapped B) → Shared B
  shared_of lock = record { lock = lock.lock; opened = lock.opened.opened; shares = lock.shares }

  -- the pass came from the store, and has no turn
  pub record IsPassOf (store : Shared B) (pass : Ticket B) : Type 0 where
    pub lock : pass.lock ≡ store.lock
    pub base : base_of pass ≡ Some store.opened
    pub idle : IsIdle pass

  -- the history that a pass of the store has seen
  abbrev pub history_of : (B → State) → Shared B → Ticket B → History
  history_of state store pass = (state store.opened.value).history ▸▸ seen_of pass
