-- Reading a whole journal in one call.
use Rattle.std.specs.Prelude.{◌≡◌, ◌≢◌, ℕ, List, [], ◌∷◌, ◌++◌, length, Option, None, Some, ⊤}
use Rattle.ts_schema.specs.Faults.{Rose}
use Rattle.txn_journal.specs.Calls.{IsAtRest, IsTold}
use Rattle.txn_journal.specs.Contents.{Content, payload_list}
use Rattle.txn_journal.specs.Frames.{StandsFor, IsDamaged, front, payloads_at, payloads_of}
use Rattle.txn_journal.specs.declared.journals.JournalState.TheVariants.{Still}
use Rattle.txn_journal.specs.declared.payloads.Payload.{Payload}
use Rattle.txn_journal.specs.declared.recovery.Recovered.{Recovered}
use Rattle.txn_journal.specs.declared.recovery.Recovered.TheVariants.{Ready, Damaged, DiskFault, NoMemory}

abbrev pub disk_of : {D : Type 0} → Recovered D → D
disk_of (Ready journal payloads) = journal.disk
disk_of (Damaged disk payloads at) = disk
disk_of (DiskFault disk) = disk
disk_of (NoMemory disk) = disk

-- after the commit byte of 1 at this place of a file is a frame of this payload
pub record IsFrameAt (file : List ℕ) (at : ℕ) (payload : List ℕ) : Type 0 where
  pub mark : ℕ
  pub before : List (List ℕ)
  pub rest : List ℕ
  pub split : file ≡ front mark (before ++ payload ∷ []) ++ rest
  pub place : at ≡ length (front mark before)

-- the content of a file begins at this place: at its base, or at the first commit byte if there is none
abbrev pub BeginsIn : List ℕ → Option (List ℕ) → ℕ → Type 0
BeginsIn file None first = first ≡ 8
BeginsIn file (Some base) first = IsFrameAt file first base

-- these payloads with their places are the content of a file, frame after frame
pub record AreListed (file : List ℕ) (payloads : List Payload) (content : Content) : Type 0 where
  pub first : ℕ
  pub all : payloads_of payloads ≡ payload_list content
  pub places : payloads ≡ payloads_at first (payloads_of payloads)
  pub begins : BeginsIn file content.base first

-- the content with the places of its payloads, or the content before the first damaged place
abbrev pub Recovers : {D : Type 0} → Recovered D → List ℕ → Type 0
Recovers (Ready journal payloads) file = (content : Content) × AreListed file payloads content × StandsFor file content
Recovers (Damaged disk payloads at) file =
    (content : Content) × AreListed file payloads content × IsDamaged file content at
Recovers (DiskFault disk) file = ⊤
Recovers (NoMemory disk) file = ⊤

abbrev pub CountsRecovered : {D : Type 0} → Recovered D → ℕ → ℕ → Type 0
CountsRecovered (Ready journal payloads) before now = now ≡ before
CountsRecovered (Damaged disk payloads at) before now = now ≡ before
CountsRecovered (DiskFault disk) before now = Rose before now
CountsRecovered (NoMemory disk) before now = now ≡ before

-- reads of the journal, once its file was read, return the content
abbrev pub TellsAfter : {D : Type 0} → (D → Option (List ℕ)) → List ℕ → Recovered D → Type 0
TellsAfter bytes file (Ready journal payloads) =
    (content : Content) × AreListed file payloads content × IsTold bytes journal content
TellsAfter bytes file (Damaged disk payloads at) = ⊤
TellsAfter bytes file (DiskFault disk) = ⊤
TellsAfter bytes file (NoMemory disk) = ⊤

-- and the journal is at rest
abbrev pub RestsAfter :
    {D : Type 0} → (D → Option (List ℕ)) → (D → List ℕ → Type 0) → List ℕ → Recovered D → Type 0
RestsAfter bytes may_leave file (Ready journal payloads) =
    (content : Content) × AreListed file payloads content × IsAtRest bytes may_leave journal content
RestsAfter bytes may_leave file (Damaged disk payloads at) = ⊤
RestsAfter bytes may_leave file (DiskFault disk) = ⊤
RestsAfter bytes may_leave file (NoMemory disk) = ⊤

-- the journal didn't stop
abbrev pub GoesOn : {D : Type 0} → Recovered D → Type 0
GoesOn (Ready journal payloads) = journal.standing ≢ Still
GoesOn (Damaged disk payloads at) = ⊤
GoesOn (DiskFault disk) = ⊤
GoesOn (NoMemory disk) = ⊤
