-- The start of a store.
use Rattle.std.specs.Prelude.{◌≡◌, ◌≢◌, ℕ, false, List, Option, None, ⊤}
use Rattle.ts_schema.specs.Faults.{Rose}
use Rattle.ts_model.specs.History.{History, position}
use Rattle.engine_core.specs.Histories.{history_of}
use Rattle.engine_core.specs.Ledgers.{LedgerValue}
use Rattle.engine_core.specs.Values.{EngineValue, Past}
use Rattle.txn_journal.specs.Calls.{Logged, IsAtRest, IsTold}
use Rattle.txn_journal.specs.declared.journals.JournalState.TheVariants.{Still}
use Rattle.ts_store.specs.Stands.{Stands, IsDamagedAt, IsSound, content_of}
use Rattle.ts_store.specs.Stores.{StoreValue, opening_history, history_seen}
use Rattle.ts_store.specs.declared.histories.HistoryRead.{HistoryRead}
use Rattle.ts_store.specs.declared.histories.HistoryRead.TheVariants as read
use Rattle.ts_store.specs.declared.replays.ReplayOutcome.{ReplayOutcome}
use Rattle.ts_store.specs.declared.replays.ReplayOutcome.TheVariants as replayed
use Rattle.ts_store.specs.declared.starts.Started.{Started}
use Rattle.ts_store.specs.declared.starts.Started.TheVariants as started

-- ---- reading the events of a journal

-- the past of an engine, and of a ledger
abbrev pub past_of : EngineValue → Past
past_of e = e.past

abbrev pub told_to : LedgerValue → Past
told_to l = l.past

abbrev pub disk_of_replayed : {D T : Type 0} → ReplayOutcome D T → D
disk_of_replayed (replayed.Ready journal follower) = journal.disk
disk_of_replayed (replayed.Damaged disk at) = disk
disk_of_replayed (replayed.DiskFault disk) = disk
disk_of_replayed (replayed.NoMemory disk) = disk

-- the file contains the history that was followed, or is damaged at this place
abbrev pub Replays : {D T : Type 0} → (T → Past) → ReplayOutcome D T → List ℕ → Type 0
Replays past (replayed.Ready journal follower) file = Stands file (history_of (past follower))
Replays past (replayed.Damaged disk at) file = IsDamagedAt file at
Replays past (replayed.DiskFault disk) file = ⊤
Replays past (replayed.NoMemory disk) file = ⊤

-- the count of faults rises with a fault, and stays otherwise
abbrev pub CountsReplayed : {D T : Type 0} → ReplayOutcome D T → ℕ → ℕ → Type 0
CountsReplayed (replayed.Ready journal follower) before now = now ≡ before
CountsReplayed (replayed.Damaged disk at) before now = now ≡ before
CountsReplayed (replayed.DiskFault disk) before now = Rose before now
CountsReplayed (replayed.NoMemory disk) before now = now ≡ before

-- P of the journal and of the history that was followed
abbrev pub IfReplayed : {D T : Type 0} → (T → Past) → ReplayOutcome D T → (Logged D → History → Type 0) → Type 0
IfReplayed past (replayed.Ready journal follower) P = P journal (history_of (past follower))
IfReplayed past (replayed.Damaged disk at) P = ⊤
IfReplayed past (replayed.DiskFault disk) P = ⊤
IfReplayed past (replayed.NoMemory disk) P = ⊤

-- reads of the journal return the events of the history
abbrev pub TellsReplayed : {D T : Type 0} → (T → Past) → (D → Option (List ℕ)) → ReplayOutcome D T → Type 0
TellsReplayed past bytes found = IfReplayed past found (λ journal h. IsTold bytes journal (content_of h))

-- and the journal is at rest with them
abbrev pub RestsReplayed :
    {D T : Type 0} → (T → Past) → (D → Option (List ℕ)) → (D → List ℕ → Type 0) → ReplayOutcome D T → Type 0
RestsReplayed past bytes may_leave found =
    IfReplayed past found (λ journal h. IsAtRest bytes may_leave journal (content_of h))

-- a journal may contain the history
abbrev pub SoundReplayed : {D T : Type 0} → (T → Past) → ReplayOutcome D T → Type 0
SoundReplayed past found = IfReplayed past found (λ journal h. IsSound h)

-- the journal didn't stop
abbrev pub GoesOn : {D T : Type 0} → ReplayOutcome D T → Type 0
GoesOn (replayed.Ready journal follower) = journal.standing ≢ Still
GoesOn (replayed.Damaged disk at) = ⊤
GoesOn (replayed.DiskFault disk) = ⊤
GoesOn (replayed.NoMemory disk) = ⊤

-- ---- reading only a history

abbrev pub disk_of_read : {D : Type 0} → HistoryRead D → D
disk_of_read (read.Ready disk ledger) = disk
disk_of_read (read.Damaged disk at) = disk
disk_of_read (read.DiskFault disk) = disk
disk_of_read (read.NoMemory disk) = disk

-- the file contains the ledger's history, or is damaged at this place
abbrev pub ReadsHistory : {D : Type 0} → HistoryRead D → List ℕ → Type 0
ReadsHistory (read.Ready disk ledger) file = Stands file (history_of ledger.past)
ReadsHistory (read.Damaged disk at) file = IsDamagedAt file at
ReadsHistory (read.DiskFault disk) file = ⊤
ReadsHistory (read.NoMemory disk) file = ⊤

abbrev pub CountsRead : {D : Type 0} → HistoryRead D → ℕ → ℕ → Type 0
CountsRead (read.Ready disk ledger) before now = now ≡ before
CountsRead (read.Damaged disk at) before now = now ≡ before
CountsRead (read.DiskFault disk) before now = Rose before now
CountsRead (read.NoMemory disk) before now = now ≡ before

-- ---- the start

abbrev pub disk_of : {D : Type 0} → Started D → D
disk_of (started.Ready store) = store.journal.disk
disk_of (started.Damaged disk at) = disk
disk_of (started.DiskFault disk) = disk
disk_of (started.NoMemory disk) = disk

-- the file contains the store's history, or is damaged at this place
abbrev pub Starts : {D : Type 0} → Started D → List ℕ → Type 0
Starts (started.Ready store) file = Stands file (history_seen store)
Starts (started.Damaged disk at) file = IsDamagedAt file at
Starts (started.DiskFault disk) file = ⊤
Starts (started.NoMemory disk) file = ⊤

abbrev pub CountsStarted : {D : Type 0} → Started D → ℕ → ℕ → Type 0
CountsStarted (started.Ready store) before now = now ≡ before
CountsStarted (started.Damaged disk at) before now = now ≡ before
CountsStarted (started.DiskFault disk) before now = Rose before now
CountsStarted (started.NoMemory disk) before now = now ≡ before

-- P of a store that is ready
abbrev pub IfReady : {D : Type 0} → Started D → (StoreValue D → Type 0) → Type 0
IfReady (started.Ready store) P = P store
IfReady (started.Damaged disk at) P = ⊤
IfReady (started.DiskFault disk) P = ⊤
IfReady (started.NoMemory disk) P = ⊤

-- a store at its start: it didn't fail, it wasn't armed, its initial disk is this one, and it was opened with
-- its whole history
pub record IsNew {D : Type 0} (disk : D) (store : StoreValue D) : Type 0 where
  pub begun : store.begun ≡ disk
  pub goes_on : store.failed ≡ None
  pub unarmed : store.armed ≡ false
  pub opened : store.opened ≡ position (history_seen store)
  pub whole : opening_history store ≡ history_seen store
