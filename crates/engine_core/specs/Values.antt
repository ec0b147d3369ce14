-- The values in contracts of an engine, and of the events that it prepares.
use Rattle.std.specs.Prelude.{ℕ, List, Option}
use Rattle.ts_model.specs.declared.events.Event.{Event}
use Rattle.ts_model.specs.declared.images.Image.{Image}
use Rattle.engine_state.specs.Stands.{StateValue}

-- the history of an engine: the image that it was built from, if there is one, and the events after it, the
-- oldest first
pub record Past : Type 0 where
  pub base : Option Image
  pub events : List Event

-- of an engine: its history, and how many more events fit
pub record EngineValue : Type 0 where
  pub past : Past
  pub room : ℕ

-- of a state at a position: the state, and the numbers of rows that its last event appended and removed
pub record MomentValue : Type 0 where
  pub state : StateValue
  pub inserted : ℕ
  pub removed : ℕ

-- of a prepared event: the event, and the state of the history with it
pub record PreparedValue : Type 0 where
  pub event : Event
  pub moment : MomentValue
