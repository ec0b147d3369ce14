-- Decoding.
use Rattle.std.specs.Prelude.{◌≡◌, ℕ, List, ◌++◌}
use Rattle.ts_model.specs.declared.events.Event.{Event}
use Rattle.event_codec.specs.declared.events.Decoded.{Decoded}
use Rattle.event_codec.specs.declared.events.Decoded.TheVariants as decoded
use Rattle.event_codec.specs.Formed.{IsFormed}
use Rattle.event_codec.specs.Spelling as spelling

-- the bytes of some event begin with these
pub record BeginsEvent (front : List ℕ) : Type 0 where
  pub event : Event
  pub formed : IsFormed event
  pub more : List ℕ
  pub spelled : spelling.event event ≡ front ++ more

-- P of an event that was decoded
abbrev pub IfEvent : Decoded → (Event → Type 0) → Type 0
IfEvent (decoded.Event e) P = P e
IfEvent (decoded.BadEvent n) P = Unit {0}
IfEvent decoded.NoMemory P = Unit {0}

-- P of the number of bytes after which no event begins
abbrev pub IfBad : Decoded → (ℕ → Type 0) → Type 0
IfBad (decoded.Event e) P = Unit {0}
IfBad (decoded.BadEvent n) P = P n
IfBad decoded.NoMemory P = Unit {0}
