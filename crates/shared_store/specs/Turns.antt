-- How a turn at the backend begins, and what it leaves.
use Rattle.std.specs.Prelude.{◌≡◌, Bool, ◌++◌, Some}
use mathlib.Core.List.{IsPrefix}
use Rattle.ts_model.specs.declared.events.Event.{Event}
use Rattle.ts_model.specs.History.{position, Begins}
use Rattle.ts_model.specs.States.{State}
use Rattle.turn_lock.specs.declared.held.Held.{Held}
use Rattle.turn_lock.specs.Pass.{IsSamePass, IsTurnOf, StaysClosed, shares_of, base_of, seen_of, closed_of, made_of, found_of, found_closed_of}
use Rattle.turn_lock.specs.Positions.{positions_added}
use Rattle.shared_store.specs.Wrapped.{Wrapped, IsKept, events_in}
use Rattle.shared_store.specs.Stores.{Ticket, Shared, IsPassOf, history_of}

module _ {B K : Type 0} (alone : Bool) (state : B → State) (kin : B → K) (store : Shared B) (old new : Ticket B) where
  -- a turn began: what is held begins with what the pass had seen, and is unchanged if the pass had seen it closed
  pub record Begun (held : Held (Wrapped B)) : Type 0 where
    pub same : IsSamePass old new
    pub turn : IsTurnOf new held
    pub found : found_of new ≡ events_in state held.value
    pub found_closed : found_closed_of new ≡ (state held.value.backend).failed
    pub opened : held.value.opened ≡ store.opened
    pub kept : IsKept alone state kin held.value
    pub begins : Begins (history_of state store old) (state held.value.backend).history
    pub stays : (e : Event) → closed_of old ≡ Some e
        → ((state held.value.backend).failed ≡ Some e) ×
        ((state held.value.backend).history ≡ history_of state store old)

module _ {B : Type 0} (state : B → State) (store : Shared B) where
  -- a turn of the pass may end: what is held continues what the turn found
  pub record CanEnd (pass : Ticket B) (held : Held (Wrapped B)) : Type 0 where
    pub lock : pass.lock ≡ store.lock
    pub base : base_of pass ≡ Some store.opened
    pub opened : held.value.opened ≡ store.opened
    pub turn : IsTurnOf pass held
    pub grown : IsPrefix (found_of pass) (events_in state held.value)
    pub stays :
        StaysClosed (found_closed_of pass) (found_of pass) (state held.value.backend).failed
        (events_in state held.value)

  -- a turn ended: the pass has seen what was returned, and added what the turn added
  pub record Ended (old new : Ticket B) (k : Wrapped B) : Type 0 where
    pub of_store : IsPassOf store new
    pub shares : shares_of new ≡ shares_of old
    pub seen : seen_of new ≡ events_in state k
    pub closed : closed_of new ≡ (state k.backend).failed
    pub made :
        let start = position (state k.opened.value).history in
        made_of new ≡ made_of old ++ positions_added start (found_of old) (events_in state k)
