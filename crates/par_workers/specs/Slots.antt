-- Workers and their passes.
use Rattle.std.specs.Prelude.{◌≡◌, ◌<◌, ℕ, Bool, false, List, [], length, map, slice_index_or, Option, Some, None}
use mathlib.Core.List.{IsPrefix}
use Rattle.ts_model.specs.declared.events.Event.{Event}
use Rattle.ts_model.specs.States.{State}
use Rattle.turn_lock.specs.Pass.{shares_of, seen_of, closed_of, made_of, StaysIn}
use Rattle.shared_store.specs.Stores.{Shared, Ticket, IsPassOf, history_of}
use Rattle.shared_store.specs.Desks.{desk_state, fresh_desk}

-- a pass begins at another: it has seen as much and has appended nothing
pub record IsFresh {B : Type 0} (store : Shared B) (start : Ticket B) (pass : Ticket B) : Type 0 where
  pub of_store : IsPassOf store pass
  pub shares : shares_of pass ≡ 1
  pub seen : seen_of pass ≡ seen_of start
  pub closed : closed_of pass ≡ closed_of start
  pub made : made_of pass ≡ []

module _ {B : Type 0} where
  -- P is true of the pass, if there is one
  abbrev pub OfPass : (Ticket B → Type 0) → Option (Ticket B) → Type 0
  OfPass P None = ⊥
  OfPass P (Some pass) = P pass

  -- the whole has seen what the pass has and, if the pass had seen that the store has stopped, no more
  abbrev pub Knows : Ticket B → Ticket B → Type 0
  Knows whole pass = IsPrefix (seen_of pass) (seen_of whole) × StaysIn whole pass

  abbrev pub shares_there : Option (Ticket B) → ℕ
  shares_there None = 0
  shares_there (Some pass) = shares_of pass

  abbrev pub made_there : Option (Ticket B) → List ℕ
  made_there None = []
  made_there (Some pass) = made_of pass

-- a worker, and its pass while it has one
abbrev pub Slot : Type 0 → Type 0 → Type 0
Slot W B = W × Option (Ticket B)

module _ {W B : Type 0} where
  abbrev pub workers_of : List (Slot W B) → List W
  workers_of slots = map (λ slot. slot.0) slots

  abbrev pub shares_in : Slot W B → ℕ
  shares_in slot = shares_there slot.1

  abbrev pub made_in : Slot W B → List ℕ
  made_in slot = made_there slot.1

  -- its pass is of the store
  abbrev pub HasPass : Shared B → Slot W B → Type 0
  HasPass store slot = OfPass (IsPassOf store) slot.1

  -- its pass begins at another
  abbrev pub BeginsAt : Shared B → Ticket B → Slot W B → Type 0
  BeginsAt store start slot = OfPass (IsFresh store start) slot.1

  abbrev pub IsKnownTo : Ticket B → Slot W B → Type 0
  IsKnownTo whole slot = OfPass (Knows whole) slot.1

  -- a worker has done its work at a store handle for its pass, and has left the handle
  pub record Served (state : B → State) (store : Shared B) (did : Bool → W → State → W → State → Type 0)
      (old new : Slot W B) : Type 0 where
    pub before : Ticket B
    pub after : Ticket B
    pub had : old.1 ≡ Some before
    pub has : new.1 ≡ Some after
    pub of_store : IsPassOf store after
    pub shares : shares_of after ≡ shares_of before
    pub left : State
    pub worked : did false old.0 (desk_state state (fresh_desk store before)) new.0 left
    pub history : left.history ≡ history_of state store after
    pub stops : (e : Event) → left.failed ≡ Some e → closed_of after ≡ Some e
    pub made : left.made ≡ made_of after

  -- each worker has done so
  pub record AllServed (state : B → State) (store : Shared B) (did : Bool → W → State → W → State → Type 0)
      (olds news : List (Slot W B)) : Type 0 where
    pub as_many : length olds ≡ length news
    pub each :
        (i : ℕ) (d : Slot W B) → i < length olds
        → Served state store did (slice_index_or olds i d) (slice_index_or news i d)
