-- Allowed events and histories, and consistent ones, which may be longer.
use Rattle.std.specs.Prelude.{Bool, true, ◌&&◌, List, [], ◌∷◌, IsTrue, ⊤}
use Rattle.ts_model.specs.declared.events.Event.{Event}
use Rattle.ts_model.specs.declared.events.Event.TheVariants.{Commit}
use Rattle.ts_model.specs.declared.events.Op.{Op}
use Rattle.ts_model.specs.History.{History, start, resumed, ◌▸◌}
use Rattle.ts_model.specs.Valid.{valid}
use Rattle.ts_model.specs.Sound.{sound}
use Rattle.ts_model.specs.Timely.{timely, timely_at}

-- an event may come next
abbrev pub allowed : History → Event → Bool
allowed h e = sound h e && timely h e

-- each event of a history was allowed after those before it
abbrev pub all_allowed : History → Bool
all_allowed start = true
all_allowed (resumed i) = valid i
all_allowed (h ▸ e) = all_allowed h && allowed h e

-- an event is consistent with a history: it could come next if histories had no end
abbrev pub consistent : History → Event → Bool
consistent h e = sound h e && timely_at h e

-- each event of a history was consistent with those before it
abbrev pub all_consistent : History → Bool
all_consistent start = true
all_consistent (resumed i) = valid i
all_consistent (h ▸ e) = all_consistent h && consistent h e

-- a queue of operations is empty, or may be committed
abbrev pub QueueFits : List Op → History → Type 0
QueueFits [] h = ⊤
QueueFits (op ∷ ops) h = IsTrue (consistent h (Commit (op ∷ ops)))
