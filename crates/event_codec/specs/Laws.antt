-- Laws of the bytes of events, each in one sentence.
use Rattle.std.specs.Prelude.{◌≡◌, ℕ, ◌<◌, ◌^◌, true, List, [], ◌++◌, length}
use Rattle.ts_model.specs.Allowed.{all_consistent}
use Rattle.ts_model.specs.Bytes.{event_bytes}
use Rattle.ts_model.specs.History.{History, position}
use Rattle.ts_model.specs.Sound.{sound}
use Rattle.ts_model.specs.declared.events.Event.{Event}
use Rattle.event_codec.specs.Formed.{IsFormed}
use Rattle.event_codec.specs.Spelling as spelling

-- an event has as many bytes as it takes in a journal
abbrev pub BytesAreCounted : Type 0
BytesAreCounted = (e : Event) → length (spelling.event e) ≡ event_bytes e

-- no event's bytes are a prefix of another's; if they are, it is the same event and nothing follows
abbrev pub NoneBeginsAnother : Type 0
NoneBeginsAnother =
    (d e : Event) (more : List ℕ) → IsFormed d → IsFormed e → spelling.event e ≡ spelling.event d ++ more
    → (d ≡ e) × (more ≡ [])

-- each sound event of a consistent history whose position has 64 bits can be encoded
abbrev pub SoundAreFormed : Type 0
SoundAreFormed = (h : History) (e : Event) → all_consistent h ≡ true → position h < 2 ^ 64 → sound h e ≡ true → IsFormed e
