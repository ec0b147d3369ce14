-- The contracts of a journal's calls about its disk.
use Rattle.std.specs.Prelude.{◌≡◌, ◌≢◌, ℕ, ◌≤◌, List, Option, Some, length, ⊤}
use Rattle.ts_schema.specs.Faults.{Rose}
use Rattle.ts_disk.specs.CrashImage.{Only}
use Rattle.txn_journal.specs.Contents.{Content, nothing}
use Rattle.txn_journal.specs.Frames.{HoldsTo, StandsForMore, header}
use Rattle.txn_journal.specs.declared.journals.Append.{Append}
use Rattle.txn_journal.specs.declared.journals.Append.TheVariants.{Done, DiskFault, Stopped}
use Rattle.txn_journal.specs.declared.journals.JournalState.{JournalState}
use Rattle.txn_journal.specs.declared.journals.JournalState.TheVariants.{Bare, Ready, Still}
use Rattle.txn_journal.specs.declared.versions.Version.{Version}
use Rattle.txn_journal.specs.declared.versions.Version.TheVariants.{One}

-- a journal: its disk, its version, the place of the commit byte after its last payload, and whether it has a header
-- or has stopped
pub record Logged (D : Type 0) : Type 0 where
  pub disk : D
  pub version : Version
  pub end : ℕ
  pub standing : JournalState

-- a journal's file and its place: one without a header has at most nine bytes and will be of version 1, and another
-- holds payloads up to the place
abbrev pub LiesAs : JournalState → Version → List ℕ → ℕ → Content → Type 0
LiesAs Bare version file end content =
    (length file ≤ 9) × (file ≢ header) × (content ≡ nothing) × (version ≡ One)
LiesAs Ready version file end content = HoldsTo file version end content
LiesAs Still version file end content = ⊥

-- reads of a journal that hasn't stopped return this content
pub record IsTold {D : Type 0} (bytes : D → Option (List ℕ)) (journal : Logged D) (content : Content) : Type 0 where
  pub file : List ℕ
  pub told : bytes journal.disk ≡ Some file
  pub lies : LiesAs journal.standing journal.version file journal.end content

-- and all of it is on the disk
pub record IsAtRest {D : Type 0} (bytes : D → Option (List ℕ)) (may_leave : D → List ℕ → Type 0) (journal : Logged D)
    (content : Content) : Type 0 where
  pub tells : IsTold bytes journal content
  pub durable : Only tells.file (may_leave journal.disk)

-- each image since this moment has content that begins with this
abbrev pub BeginSince : {D : Type 0} → (D → ℕ → List ℕ → Type 0) → D → ℕ → Content → Type 0
BeginSince left_since disk t content = (c : List ℕ) → left_since disk t c → StandsForMore content c

-- an answer, and the state of the journal before and after it: it is `Stopped` if and only if the journal had
-- stopped before, and a fault stops it
abbrev pub Ends : Append → JournalState → JournalState → Type 0
Ends Done before now = (before ≢ Still) × (now ≡ Ready)
Ends DiskFault before now = (before ≢ Still) × (now ≡ Still)
Ends Stopped before now = (before ≡ Still) × (now ≡ Still)

-- the count of faults rises with a fault, and stays otherwise
abbrev pub IsCounted : Append → ℕ → ℕ → Type 0
IsCounted Done before now = now ≡ before
IsCounted DiskFault before now = Rose before now
IsCounted Stopped before now = now ≡ before

-- P if all was done; the second one is P if the journal had stopped
abbrev pub IfDone : Append → Type 0 → Type 0
IfDone Done P = P
IfDone DiskFault P = ⊤
IfDone Stopped P = ⊤

abbrev pub IfStopped : Append → Type 0 → Type 0
IfStopped Done P = ⊤
IfStopped DiskFault P = ⊤
IfStopped Stopped P = P
