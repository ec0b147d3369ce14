-- Timely events: nothing that others did stands in the way of an event.
use Rattle.std.specs.Prelude.{Bool, true, ◌&&◌, not, nat_lt, length, is_none}
use Rattle.ts_model.specs.declared.events.Event.{Event}
use Rattle.ts_model.specs.declared.events.Event.TheVariants.{Table, Hyper, View, Built}
use Rattle.ts_model.specs.declared.rosters.Roster.{Roster}
use Rattle.ts_model.specs.History.{History, position}
use Rattle.ts_model.specs.Roster.{roster, hyper_of, is_taken}
use Rattle.ts_model.specs.Pending.{pending, is_waiting}
use Rattle.ts_model.specs.Limits.{most_relations, last_position}

-- the name of a new relation is free and its kind hasn't reached its limit, and a table that would become a
-- hypertable isn't one
abbrev pub timely_in : Roster → Event → Bool
timely_in r (Table def) = not (is_taken r def.name) && nat_lt (length r.tables) most_relations
timely_in r (Hyper t hyper) = is_none (hyper_of r t)
timely_in r (View def) = not (is_taken r def.name) && nat_lt (length r.views) most_relations
timely_in r e = true

-- the same at a history, if a finish names a refresh that waits
abbrev pub timely_at : History → Event → Bool
timely_at h (Built cut snap) = is_waiting (pending h cut)
timely_at h e = timely_in (roster h) e

-- one more event fits
abbrev pub has_room : History → Bool
has_room h = nat_lt (position h) last_position

abbrev pub timely : History → Event → Bool
timely h e = timely_at h e && has_room h
