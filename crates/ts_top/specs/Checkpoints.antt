-- What a call that appends the image of its journal's history has done, by how it ended.
use Rattle.std.specs.Prelude.{◌≡◌, ◌≢◌, ◌⊎◌, ℕ, ◌<◌, ◌≤◌, ◌^◌, List, [], ◌++◌, Option, IsSomeAnd, codes, decimal}
use Rattle.std.specs.Io.KnownBytes.{Appends}
use Rattle.ts_io.specs.Whole.{AppendsPart}
use Rattle.ts_model.specs.History.{History, events_of, position}
use Rattle.result_text.specs.Refusals.{refusal_text}
use Rattle.ts_model.specs.Numbers.{image_long}
use Rattle.ts_store.specs.Checkpoints.{HasImage, HasImageWithin, StandsForImage, StandsSaved}
use Rattle.ts_store.specs.Stands.{Stands}
use Rattle.ts_store.specs.declared.checkpoints.CheckEnd.{CheckEnd}
use Rattle.ts_store.specs.declared.checkpoints.CheckEnd.TheVariants as ends
use Rattle.ts_top.specs.Outcomes.{HeaderFailed, IsDamaged, Outside, Over}
use Rattle.ts_top.specs.declared.endings.Status.{Status}
use Rattle.ts_top.specs.declared.endings.Status.TheVariants.{Done, Refused, BadWords, ReadFault, WriteFault, DiskFault, Damaged, NoMemory, InputLong}

-- ---- lines

-- the greatest length of an image in bytes
abbrev pub longest_image : ℕ
longest_image = 2 ^ 30

abbrev pub saved_text : ℕ → ℕ → List ℕ
saved_text pos bytes = codes "CHECKPOINT @" ++ decimal pos ++ codes " bytes " ++ decimal bytes ++ codes "\n"

abbrev pub nothing_text : ℕ → List ℕ
nothing_text pos = codes "NOTHING @" ++ decimal pos ++ codes "\n"

abbrev pub too_long_text : ℕ → ℕ → List ℕ
too_long_text pos bytes = refusal_text (record { code = image_long; pos = pos; mark = bytes })

-- a line reports that the image of a history with events after its own image was saved
pub record TellsSaved (h : History) (line : List ℕ) : Type 0 where
  pub later : events_of h ≢ []
  pub bytes : ℕ
  pub image : HasImage h bytes
  pub within : bytes ≤ longest_image
  pub text : line ≡ saved_text (position h) bytes

-- a line reports that no event follows the image that a history begins with, or that there is no event at all
pub record TellsNothing (h : History) (line : List ℕ) : Type 0 where
  pub none : events_of h ≡ []
  pub text : line ≡ nothing_text (position h)

-- a line reports that the image of a history is too long
pub record TellsTooLong (h : History) (line : List ℕ) : Type 0 where
  pub later : events_of h ≢ []
  pub bytes : ℕ
  pub image : HasImage h bytes
  pub beyond : longest_image < bytes
  pub text : line ≡ too_long_text (position h) bytes

-- ---- the journal

-- if the disk reported its bytes at first, reads give a file with the first property. If all of these bytes were on the
-- disk, what a crash at any moment of the call might have left has the second property
pub record JournalLeft (told : Type 0) (left : List ℕ → Type 0) (Shown MaySee : List ℕ → Type 0)
    (file : Option (List ℕ)) : Type 0 where
  pub holds : told → IsSomeAnd file Shown
  pub images : (c : List ℕ) → left c → MaySee c

-- the journal represents the history
abbrev pub AsBefore : Type 0 → (List ℕ → Type 0) → History → Option (List ℕ) → Type 0
AsBefore told left h file = JournalLeft told left (λ c. Stands c h) (λ c. Stands c h) file

-- the journal represents the image of the history; a crash image represents the history or its image
abbrev pub AsImage : Type 0 → (List ℕ → Type 0) → History → Option (List ℕ) → Type 0
AsImage told left h file = JournalLeft told left (StandsForImage h) (StandsSaved h) file

-- the journal represents the history, or its image
abbrev pub AsEither : Type 0 → (List ℕ → Type 0) → History → Option (List ℕ) → Type 0
AsEither told left h file = JournalLeft told left (StandsSaved h) (StandsSaved h) file

-- ---- the call

-- a line that reports this was written, and the journal is left like this
pub record Told (Tells Wrote : List ℕ → Type 0) (Journal : Type 0) : Type 0 where
  pub line : List ℕ
  pub tells : Tells line
  pub wrote : Wrote line
  pub journal : Journal

abbrev pub ToldSaved : Type 0 → (List ℕ → Type 0) → (List ℕ → Type 0) → Outside → History → Type 0
ToldSaved told left Wrote o h = Told (TellsSaved h) Wrote (AsImage told left h o.file)

abbrev pub ToldNothing : Type 0 → (List ℕ → Type 0) → (List ℕ → Type 0) → Outside → History → Type 0
ToldNothing told left Wrote o h = Told (TellsNothing h) Wrote (AsBefore told left h o.file)

abbrev pub ToldTooLong : Type 0 → (List ℕ → Type 0) → (List ℕ → Type 0) → Outside → History → Type 0
ToldTooLong told left Wrote o h = Told (TellsTooLong h) Wrote (AsBefore told left h o.file)

-- a history has events after its image, and the journal is left like this
abbrev pub Later : History → Type 0 → Type 0
Later h Journal = (events_of h ≢ []) × Journal

-- the disk failed while an image that isn't too long was written, and the journal is left like this
pub record ImageFailed (h : History) (Journal : Type 0) : Type 0 where
  pub later : events_of h ≢ []
  pub image : HasImageWithin h longest_image
  pub journal : Journal

-- what a checkpoint with this end has done. It prints one line, or nothing if the disk failed, the journal is damaged,
-- or memory ran out. An image that is too long is refused, and never ends as a disk fault
abbrev pub CheckpointTo : Status → Type 0 → (List ℕ → Type 0) → Type 0 → Type 0 → Outside → Type 0
CheckpointTo Done told left unprinted kept o =
    Over o
    (λ h. ToldSaved told left (Appends o.written_before o.written) o h
    ⊎ ToldNothing told left (Appends o.written_before o.written) o h)
CheckpointTo Refused told left unprinted kept o =
    Over o (ToldTooLong told left (Appends o.written_before o.written) o)
CheckpointTo BadWords told left unprinted kept o = ⊥
CheckpointTo ReadFault told left unprinted kept o = ⊥
CheckpointTo WriteFault told left unprinted kept o =
    Over o
    (λ h. ToldSaved told left (AppendsPart o.written_before o.written) o h
    ⊎ ToldNothing told left (AppendsPart o.written_before o.written) o h
    ⊎ ToldTooLong told left (AppendsPart o.written_before o.written) o h)
CheckpointTo DiskFault told left unprinted kept o =
    unprinted
    × ((kept ⊎ HeaderFailed told left o.file_before o.file)
    ⊎ Over o (λ h. ImageFailed h (AsEither told left h o.file)))
CheckpointTo (Damaged at) told left unprinted kept o = unprinted × kept × IsDamaged at o
CheckpointTo NoMemory told left unprinted kept o =
    unprinted × (kept ⊎ Over o (λ h. Later h (AsBefore told left h o.file)))
CheckpointTo InputLong told left unprinted kept o = ⊥

-- ---- how the call ends, by the checkpoint's end

-- a line was printed and the call ends like this, or the sink failed and a part of it was printed
abbrev pub Prints : Status → List ℕ → Status → Option (List ℕ) → Option (List ℕ) → Type 0
Prints end line status before written =
    ((status ≡ end) × Appends before written line) ⊎ ((status ≡ WriteFault) × AppendsPart before written line)

-- the line of the checkpoint's end was printed, if it has one
abbrev pub TellsEnd : CheckEnd → Status → Type 0 → Option (List ℕ) → Option (List ℕ) → Type 0
TellsEnd (ends.Done pos bytes) status unprinted before written =
    Prints Done (saved_text pos bytes) status before written
TellsEnd (ends.Nothing pos) status unprinted before written = Prints Done (nothing_text pos) status before written
TellsEnd (ends.TooLong pos bytes) status unprinted before written =
    Prints Refused (too_long_text pos bytes) status before written
TellsEnd ends.DiskFault status unprinted before written = (status ≡ DiskFault) × unprinted
TellsEnd (ends.Stopped pos) status unprinted before written = (status ≡ DiskFault) × unprinted
TellsEnd ends.NoMemory status unprinted before written = (status ≡ NoMemory) × unprinted
