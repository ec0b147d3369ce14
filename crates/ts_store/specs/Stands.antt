-- The history that the bytes of a journal contain, and the places at which they are damaged.
use Rattle.std.specs.Prelude.{◌≡◌, ◌⊎◌, ℕ, true, false, List, [], ◌∷◌, ◌++◌, Option, Some, None, IsTrue, ⊤}
use Rattle.ts_model.specs.declared.events.Event.{Event}
use Rattle.ts_model.specs.declared.images.Image.{Image}
use Rattle.ts_model.specs.Allowed.{allowed, all_allowed}
use Rattle.ts_model.specs.History.{History, start, resumed, ◌▸◌}
use Rattle.ts_model.specs.Valid.{valid}
use Rattle.base_image.specs.Formed.{IsFormed as IsFormedImage}
use Rattle.base_image.specs.Spelling as images
use Rattle.event_codec.specs.Formed.{IsFormed}
use Rattle.event_codec.specs.Spelling as spelling
use Rattle.txn_journal.specs.Contents.{Content, is_base}
use Rattle.txn_journal.specs.Frames.{Follows, StandsFor, IsDamaged}
use Rattle.txn_journal.specs.declared.versions.Version.{Version}

-- ---- histories

-- the bytes of each event of a history, the oldest first
abbrev pub payloads_of : History → List (List ℕ)
payloads_of start = []
payloads_of (resumed i) = []
payloads_of (h ▸ e) = payloads_of h ++ (spelling.event e ∷ [])

-- the bytes of the image that a history begins with, if it begins with one
abbrev pub base_of : History → Option (List ℕ)
base_of start = None
base_of (resumed i) = Some (images.image i)
base_of (h ▸ e) = base_of h

-- the content of a journal of a history: its base, and the bytes of each event after it
abbrev pub content_of : History → Content
content_of h = record { base = base_of h; payloads = payloads_of h }

-- all parts of the image that a history begins with, and of each event, are in the range of their fields
abbrev pub AllFormed : History → Type 0
AllFormed start = ⊤
AllFormed (resumed i) = IsFormedImage i
AllFormed (h ▸ e) = AllFormed h × IsFormed e

-- a journal may contain a history: its image is valid, if it begins with one, each event was allowed after those
-- before it, and all of them can be written
pub record IsSound (h : History) : Type 0 where
  pub allowed : all_allowed h ≡ true
  pub formed : AllFormed h

-- ---- files

-- a file contains a history: its content is the bytes of the history's image and of the events after it
pub record Stands (file : List ℕ) (h : History) : Type 0 where
  pub holds : StandsFor file (content_of h)
  pub sound : IsSound h

-- a payload is the bytes of an event that may come next
pub record IsNextEvent (h : History) (payload : List ℕ) (e : Event) : Type 0 where
  pub spelled : payload ≡ spelling.event e
  pub formed : IsFormed e
  pub fits : IsTrue (allowed h e)

-- a payload isn't the bytes of an event that may come next
abbrev pub IsNoEvent : History → List ℕ → Type 0
IsNoEvent h payload = (e : Event) → IsNextEvent h payload e → ⊥

-- a payload isn't the bytes of a valid image
abbrev pub IsNoImage : List ℕ → Type 0
IsNoImage payload = (i : Image) → IsFormedImage i → valid i ≡ true → payload ≡ images.image i → ⊥

-- a payload is neither that of a base that is valid nor that of an event that may come next
abbrev pub IsNeither : Version → History → List ℕ → Type 0
IsNeither version h payload =
    ((is_base version payload ≡ true) × IsNoImage payload)
    ⊎ ((is_base version payload ≡ false) × IsNoEvent h payload)

-- after the events of this history and the commit byte of 1 at this place there is a bad payload: it is neither
-- an event that may come next nor a base with a valid image
pub record IsWrong (file : List ℕ) (h : History) (at : ℕ) : Type 0 where
  pub version : Version
  pub payload : List ℕ
  pub follows : Follows file version (content_of h) payload at
  pub neither : IsNeither version h payload

-- a file is damaged at this place, after the events of this history. It doesn't begin like a journal, or too
-- few bytes follow a commit byte of 1, or a bad payload follows it. A bad payload is a base that isn't a valid
-- image, or another payload that isn't an event that may come next
pub record IsDamagedAfter (file : List ℕ) (h : History) (at : ℕ) : Type 0 where
  pub sound : IsSound h
  pub broken : IsDamaged file (content_of h) at ⊎ IsWrong file h at

-- a file is damaged at this place, and at none before it
pub record IsDamagedAt (file : List ℕ) (at : ℕ) : Type 0 where
  pub history : History
  pub damage : IsDamagedAfter file history at
