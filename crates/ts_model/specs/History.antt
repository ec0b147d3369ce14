-- Histories: what happened, event by event.
--
-- Letters in all definitions about histories: h and g are histories. p is a position, s that of a snapshot, and
-- k the number of an event or of a refresh. n is the number of an aggregate, and t that of a table (or a time).
-- b is the start of a bucket, e an event, and i an image.
use Rattle.std.specs.Prelude.{ℕ, zero, suc, cond, nat_lt, ◌==◌, List, [], ◌∷◌, ◌++◌, Option, Some, None}
use Rattle.ts_model.specs.declared.events.Event.{Event}
use Rattle.ts_model.specs.declared.images.Image.{Image}

infixl 20 ◌▸◌ ◌▸▸◌
-- a history is empty, begins with a checkpoint image, or is a history and one more event
pub data History : Type 0 where
  start : History
  resumed : Image → History
  ◌▸◌ : History → Event → History

-- the position of a history is that of its root and the number of events after it
abbrev pub position : History → ℕ
position start = zero
position (resumed i) = i.pos
position (h ▸ e) = suc (position h)

-- a history without its events: where it begins
abbrev pub root : History → History
root start = start
root (resumed i) = resumed i
root (h ▸ e) = root h

-- the position at which a history begins. No snapshot is below it
abbrev pub base_position : History → ℕ
base_position h = position (root h)

-- the history at position p: its root, and its events up to number p
abbrev pub prefix : History → ℕ → History
prefix start p = start
prefix (resumed i) p = resumed i
prefix (h ▸ e) p = cond (nat_lt (position h) p) (h ▸ e) (prefix h p)

-- event number k. Events are numbered by the position after them
abbrev pub event_at : History → ℕ → Option Event
event_at start k = None
event_at (resumed i) k = None
event_at (h ▸ e) k = cond (k == suc (position h)) (Some e) (event_at h k)

-- a history followed by these events, in order
abbrev pub ◌▸▸◌ : History → List Event → History
h ▸▸ [] = h
h ▸▸ (e ∷ es) = (h ▸ e) ▸▸ es

-- a history begins with itself, and with all that it began with before its last event
pub data Begins (old : History) : History → Type 0 where
  same : Begins old old
  further : {h : History} {e : Event} → Begins old h → Begins old (h ▸ e)

-- the events of a history after its root, in order
abbrev pub events_of : History → List Event
events_of start = []
events_of (resumed i) = []
events_of (h ▸ e) = events_of h ++ (e ∷ [])
