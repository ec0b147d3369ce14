-- The effect of a payload that was read.
use Rattle.std.specs.Prelude.{◌≡◌, ℕ, true, List, Some, ⊤}
use Rattle.ts_model.specs.declared.events.Event.{Event}
use Rattle.ts_model.specs.declared.images.Image.{Image}
use Rattle.ts_model.specs.Valid.{valid}
use Rattle.base_image.specs.Formed.{IsFormed as IsFormedImage}
use Rattle.base_image.specs.Spelling as images
use Rattle.engine_core.specs.Histories.{history_of, past_from, with_event}
use Rattle.engine_core.specs.Values.{Past}
use Rattle.ts_store.specs.Stands.{IsNextEvent, IsNoEvent, IsNoImage}
use Rattle.ts_store.specs.declared.replays.PayloadOutcome.{PayloadOutcome}
use Rattle.ts_store.specs.declared.replays.PayloadOutcome.TheVariants.{Done, NoEvent, NoMemory}

-- the event of a payload took effect
pub record IsTaken (payload : List ℕ) (old new : Past) : Type 0 where
  pub event : Event
  pub next : IsNextEvent (history_of old) payload event
  pub past : new ≡ with_event old event

-- the event of a payload took effect, or there is none that may come next
abbrev pub Takes : PayloadOutcome → List ℕ → Past → Past → Type 0
Takes Done payload old new = IsTaken payload old new
Takes NoEvent payload old new = IsNoEvent (history_of old) payload
Takes NoMemory payload old new = ⊤

-- a history begins with the valid image of a base
pub record IsResumed (payload : List ℕ) (new : Past) : Type 0 where
  pub image : Image
  pub spelled : payload ≡ images.image image
  pub formed : IsFormedImage image
  pub is_valid : valid image ≡ true
  pub past : new ≡ past_from (Some image)

-- the image of a base replaced the earlier history, or the base isn't a valid image
abbrev pub Resumes : PayloadOutcome → List ℕ → Past → Type 0
Resumes Done payload new = IsResumed payload new
Resumes NoEvent payload new = IsNoImage payload
Resumes NoMemory payload new = ⊤
