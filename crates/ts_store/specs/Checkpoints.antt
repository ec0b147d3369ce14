-- The results of a checkpoint, and its effect on the disk.
use Rattle.std.specs.Prelude.{◌≡◌, ◌≢◌, ◌⊎◌, ℕ, ◌<◌, ◌≤◌, ◌^◌, ◌-◌, true, min, List, [], length, Option, Some, None, ⊤}
use Rattle.ts_schema.specs.Faults.{Rose}
use Rattle.ts_schema.specs.declared.rows.Row.{Row}
use Rattle.ts_disk.specs.CrashImage.{Only}
use Rattle.ts_model.specs.declared.events.Event.{Event}
use Rattle.ts_model.specs.declared.images.Image.{Image}
use Rattle.ts_model.specs.History.{History, Begins, position, resumed}
use Rattle.ts_model.specs.Rows.{rows}
use Rattle.ts_model.specs.Valid.{valid}
use Rattle.image_laws.specs.Images.{IsImage}
use Rattle.base_image.specs.Formed.{IsFormed as IsFormedImage}
use Rattle.base_image.specs.Spelling as images
use Rattle.engine_core.specs.Histories.{history_of}
use Rattle.engine_core.specs.Values.{Past}
use Rattle.ts_store.specs.Stands.{Stands}
use Rattle.ts_store.specs.Stores.{stop_at}
use Rattle.ts_store.specs.declared.checkpoints.CheckEnd.{CheckEnd}
use Rattle.ts_store.specs.declared.checkpoints.CheckEnd.TheVariants.{Done, Nothing, TooLong, DiskFault, Stopped, NoMemory}
use Rattle.ts_store.specs.declared.image_writes.SaveOutcome.{SaveOutcome}
use Rattle.ts_store.specs.declared.image_writes.SaveOutcome.TheVariants as saved

-- ---- the image

-- the image of a history has this many bytes, capped at the greatest number of 64 bits
pub record HasImage (h : History) (n : ℕ) : Type 0 where
  pub image : Image
  pub is : IsImage h image
  pub bytes : n ≡ min (length (images.image image)) (2 ^ 64 - 1)

-- the image of a history has at most this many bytes
pub record HasImageWithin (h : History) (most : ℕ) : Type 0 where
  pub bytes : ℕ
  pub image : HasImage h bytes
  pub within : bytes ≤ most

-- the images of a history have one length: one that is longer than allowed isn't within the limit too
abbrev pub ImagesHaveOneLength : Type 0
ImagesHaveOneLength = (h : History) (m n : ℕ) → HasImage h m → HasImage h n → m ≡ n

-- a payload is the bytes of the image of a history, which a journal may contain
pub record IsImageOf (h : History) (payload : List ℕ) : Type 0 where
  pub image : Image
  pub is : IsImage h image
  pub is_valid : valid image ≡ true
  pub formed : IsFormedImage image
  pub spelled : payload ≡ images.image image

-- the rows of each table of a history, by its number
abbrev pub held_rows : History → ℕ → List Row
held_rows h t = rows t h

-- the frame of the image is built, or the image is too long
abbrev pub Saves : SaveOutcome → History → ℕ → Type 0
Saves (saved.Framed frame bytes) h most = IsImageOf h frame × HasImage h bytes × (bytes ≤ most)
Saves (saved.TooLong bytes) h most = HasImage h bytes × (most < bytes)
Saves saved.NoMemory h most = ⊤

-- ---- answers

-- the store didn't stop, and has events after its base
abbrev pub Goes : Past → Option Event → Type 0
Goes past failed = (failed ≡ None) × (past.events ≢ [])

-- the condition for each result. `Stopped` is returned if and only if the store had stopped, and otherwise
-- `Nothing` if and only if no event follows the base. Otherwise it is `TooLong` if the image has more bytes
-- than allowed. So the disk fails only at an image that is short enough
abbrev pub EndsAs : CheckEnd → Past → Option Event → ℕ → Type 0
EndsAs (Done p n) past failed most =
    Goes past failed × (p ≡ position (history_of past)) × HasImage (history_of past) n × (n ≤ most)
EndsAs (Nothing p) past failed most = (failed ≡ None) × (past.events ≡ []) × (p ≡ position (history_of past))
EndsAs (TooLong p n) past failed most =
    Goes past failed × (p ≡ position (history_of past)) × HasImage (history_of past) n × (most < n)
EndsAs DiskFault past failed most = Goes past failed × HasImageWithin (history_of past) most
EndsAs (Stopped p) past failed most = stop_at (history_of past) failed ≡ Some p
EndsAs NoMemory past failed most = Goes past failed

-- P if something may have been written; the second one is P if nothing was
abbrev pub IfWritten : CheckEnd → Type 0 → Type 0
IfWritten (Done p n) P = P
IfWritten (Nothing p) P = ⊤
IfWritten (TooLong p n) P = ⊤
IfWritten DiskFault P = P
IfWritten (Stopped p) P = ⊤
IfWritten NoMemory P = ⊤

abbrev pub IfUntouched : CheckEnd → Type 0 → Type 0
IfUntouched (Done p n) P = ⊤
IfUntouched (Nothing p) P = P
IfUntouched (TooLong p n) P = P
IfUntouched DiskFault P = ⊤
IfUntouched (Stopped p) P = P
IfUntouched NoMemory P = P

-- P if the disk has the image
abbrev pub IfSaved : CheckEnd → Type 0 → Type 0
IfSaved (Done p n) P = P
IfSaved (Nothing p) P = ⊤
IfSaved (TooLong p n) P = ⊤
IfSaved DiskFault P = ⊤
IfSaved (Stopped p) P = ⊤
IfSaved NoMemory P = ⊤

-- the count of faults rises with a fault, and stays otherwise
abbrev pub CountsEnd : CheckEnd → ℕ → ℕ → Type 0
CountsEnd (Done p n) before now = now ≡ before
CountsEnd (Nothing p) before now = now ≡ before
CountsEnd (TooLong p n) before now = now ≡ before
CountsEnd DiskFault before now = Rose before now
CountsEnd (Stopped p) before now = now ≡ before
CountsEnd NoMemory before now = now ≡ before

-- ---- the disk

-- a file contains the image of a history, and no event
pub record StandsForImage (h : History) (file : List ℕ) : Type 0 where
  pub image : Image
  pub is : IsImage h image
  pub stands : Stands file (resumed image)

-- a file contains a history, or its image
abbrev pub StandsSaved : History → List ℕ → Type 0
StandsSaved h file = Stands file h ⊎ StandsForImage h file

-- a disk holds the image of a history, all of it is on the disk, and a crash leaves exactly that
pub record HoldsImage {D : Type 0} (bytes : D → Option (List ℕ)) (may_leave : D → List ℕ → Type 0) (disk : D)
    (h : History) : Type 0 where
  pub file : List ℕ
  pub told : bytes disk ≡ Some file
  pub durable : Only file (may_leave disk)
  pub stands : StandsForImage h file

-- a file contains a history that begins with this one, or the image of one
pub record BeginsSaved (h : History) (file : List ℕ) : Type 0 where
  pub all : History
  pub stands : StandsSaved all file
  pub begins : Begins h all
