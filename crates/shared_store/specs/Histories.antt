-- The events of a history after an earlier one.
use Rattle.std.specs.Prelude.{List, drop, length}
use Rattle.ts_model.specs.declared.events.Event.{Event}
use Rattle.ts_model.specs.History.{History, events_of}

-- the events of h after those of g, with which h begins
abbrev pub events_after : History → History → List Event
events_after g h = drop (length (events_of g)) (events_of h)
