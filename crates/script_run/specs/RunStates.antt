-- How a store that nobody else uses, and that hadn't stopped, is left.
use Rattle.std.specs.Prelude.{◌≡◌, Bool, Some}
use Rattle.ts_io.specs.Faults.{Counted}
use Rattle.ts_model.specs.declared.events.Event.{Event}
use Rattle.ts_model.specs.History.{History, ◌▸◌, Begins}
use Rattle.ts_model.specs.States.{State, stands_still}

-- the flag says whether the store's disk failed. Exactly then the count of faults rose and the store has stopped
pub record WentOn (failed : Bool) (old new : State) : Type 0 where
  pub still : stands_still new ≡ failed
  pub faults : Counted old.faults new.faults failed
  pub origin : new.origin ≡ old.origin

-- the history of a state lies between two: it begins with the one, and the other begins with it
pub record IsBetween (from to : History) (s : State) : Type 0 where
  pub began : Begins from s.history
  pub within : Begins s.history to

-- the same, and the disk failed at the next event
pub record FailedBetween (from to : History) (s : State) : Type 0 where
  pub event : Event
  pub failed : s.failed ≡ Some event
  pub began : Begins from s.history
  pub next : Begins (s.history ▸ event) to
