-- The history of an engine: an image, if there is one, and the events after it.
use Rattle.std.specs.Prelude.{[], ◌∷◌, ◌++◌, Option, Some, None}
use Rattle.ts_model.specs.declared.events.Event.{Event}
use Rattle.ts_model.specs.declared.images.Image.{Image}
use Rattle.ts_model.specs.History.{History, start, resumed, ◌▸▸◌}
use Rattle.engine_core.specs.Values.{Past}

-- the history that begins with an image, if there is one
abbrev pub begun_by : Option Image → History
begun_by None = start
begun_by (Some image) = resumed image

-- the history with these events after its beginning, the oldest first
abbrev pub history_of : Past → History
history_of past = begun_by past.base ▸▸ past.events

-- no event yet
abbrev pub past_from : Option Image → Past
past_from base = record { base = base; events = [] }

-- one more event
abbrev pub with_event : Past → Event → Past
with_event past e = record { base = past.base; events = past.events ++ (e ∷ []) }
