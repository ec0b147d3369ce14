-- The start of reading.
use Rattle.std.specs.Prelude.{◌≡◌, ℕ, List, Option, ⊤}
use Rattle.ts_schema.specs.Faults.{Rose}
use Rattle.txn_journal.specs.Contents.{nothing}
use Rattle.txn_journal.specs.Frames.{IsDamaged}
use Rattle.txn_journal.specs.Reading.{HasRead}
use Rattle.txn_journal.specs.declared.openings.OpenOutcome.{OpenOutcome}
use Rattle.txn_journal.specs.declared.openings.OpenOutcome.TheVariants.{Reading, Damaged, DiskFault}

abbrev pub disk_of_opened : {D : Type 0} → OpenOutcome D → D
disk_of_opened (Reading reader) = reader.disk
disk_of_opened (Damaged disk at) = disk
disk_of_opened (DiskFault disk) = disk

abbrev pub Opens : {D : Type 0} → (D → Option (List ℕ)) → OpenOutcome D → List ℕ → Type 0
Opens bytes (Reading reader) file = HasRead bytes reader file nothing
Opens bytes (Damaged disk at) file = IsDamaged file nothing at
Opens bytes (DiskFault disk) file = ⊤

abbrev pub CountsOpened : {D : Type 0} → OpenOutcome D → ℕ → ℕ → Type 0
CountsOpened (Reading reader) before now = now ≡ before
CountsOpened (Damaged disk at) before now = now ≡ before
CountsOpened (DiskFault disk) before now = Rose before now
