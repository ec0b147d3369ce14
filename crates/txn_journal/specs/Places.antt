-- The place at which a journal writes next.
use Rattle.std.specs.Prelude.{ℕ, ◌+◌, ◌<◌, ◌≤◌, List, Option, ⊤}
use Rattle.ts_disk.specs.Disk.{HasLength, HasRange}
use Rattle.ts_disk.specs.declared.disks.TheConstants.{MOST_BYTES}
use Rattle.txn_journal.specs.declared.journals.JournalState.{JournalState}
use Rattle.txn_journal.specs.declared.journals.JournalState.TheVariants.{Bare, Ready, Still}

-- a journal that takes payloads has its commit byte within its file
abbrev pub IsPlaced : Option (List ℕ) → JournalState → ℕ → Type 0
IsPlaced told Bare end = ⊤
IsPlaced told Ready end = (8 ≤ end) × (end + 1 ≤ MOST_BYTES) × HasRange told (end + 1)
IsPlaced told Still end = ⊤

-- a reader is at a commit byte of its file
abbrev pub IsReading : Option (List ℕ) → JournalState → ℕ → ℕ → Type 0
IsReading told Bare size at = ⊤
IsReading told Ready size at = (8 ≤ at) × (at < size) × (size ≤ MOST_BYTES) × HasLength told size
IsReading told Still size at = ⊥
