-- The state of a store: what contracts see of it, and how one state follows another.
use Rattle.std.specs.Prelude.{◌≡◌, ℕ, suc, ◌≤◌, Bool, cond, List, [], ◌∷◌, ◌++◌, Option, Some, None, is_some, IsTrue}
use Rattle.ts_schema.specs.Faults.{Rose}
use Rattle.ts_model.specs.declared.events.Event.{Event}
use Rattle.ts_model.specs.History.{History, ◌▸◌, position, Begins}

-- what no call changes: how a store was opened
pub record Origin : Type 0 where
  -- the count of faults at the start
  pub faults : ℕ
  -- the history that it was opened with
  pub opening : History
  -- the moment of the start; the store defines its meaning
  pub moment : ℕ

pub record State : Type 0 where
  -- the history that it has seen
  pub history : History
  -- the event at whose append the disk failed. A store with one has stopped at the end of its history
  pub failed : Option Event
  -- the count of faults
  pub faults : ℕ
  -- the numbers of the events that calls of this value created, in order
  pub made : List ℕ
  pub origin : Origin

abbrev pub stands_still : State → Bool
stands_still s = is_some s.failed

-- the position at which a store has stopped, if it has
abbrev pub stop_of : State → Option ℕ
stop_of s = cond (stands_still s) (Some (position s.history)) None

-- what a call finds, if a state was seen before: others may have added events meanwhile, unless the store is
-- alone or had stopped
pub record Found (alone : Bool) (old found : State) : Type 0 where
  pub alone_found : IsTrue alone → found ≡ old
  pub begins : Begins old.history found.history
  pub still_there : IsTrue (stands_still old) → found.history ≡ old.history
  pub still_failed : IsTrue (stands_still old) → found.failed ≡ old.failed
  pub made : found.made ≡ old.made
  pub origin : found.origin ≡ old.origin
  -- the count hasn't fallen since the start, and it rose if the store has stopped
  pub counted : found.origin.faults ≤ found.faults
  pub fell : IsTrue (stands_still found) → Rose found.origin.faults found.faults

-- nothing changed
pub record Keeps (found new : State) : Type 0 where
  pub history : new.history ≡ found.history
  pub failed : new.failed ≡ found.failed
  pub faults : new.faults ≡ found.faults
  pub made : new.made ≡ found.made
  pub origin : new.origin ≡ found.origin

-- an event was appended, and counted among those of this value
pub record Makes (e : Event) (found new : State) : Type 0 where
  pub went_on : found.failed ≡ None
  pub history : new.history ≡ found.history ▸ e
  pub failed : new.failed ≡ None
  pub faults : new.faults ≡ found.faults
  pub made : new.made ≡ found.made ++ (suc (position found.history) ∷ [])
  pub origin : new.origin ≡ found.origin

-- the disk failed at an event, and from now on the store has stopped
pub record Fails (e : Event) (found new : State) : Type 0 where
  pub went_on : found.failed ≡ None
  pub history : new.history ≡ found.history
  pub failed : new.failed ≡ Some e
  pub faults : Rose found.faults new.faults
  pub made : new.made ≡ found.made
  pub origin : new.origin ≡ found.origin
