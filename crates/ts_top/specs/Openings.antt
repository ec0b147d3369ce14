-- How a call that opened no journal ended. It didn't read its source.
use Rattle.std.specs.Prelude.{◌⊎◌, ℕ, List, Option, IfSome}
use Rattle.ts_store.specs.Stands.{IsDamagedAt}
use Rattle.ts_top.specs.declared.endings.Status.{Status}
use Rattle.ts_top.specs.declared.endings.Status.TheVariants.{DiskFault, Damaged, NoMemory}
use Rattle.ts_top.specs.Outcomes.{HeaderFailed}

-- no journal was opened: the disk is as it was, or its header was being written
abbrev pub NotOpened : Status → Type 0 → (List ℕ → Type 0) → Type 0 → Option (List ℕ) → Option (List ℕ) → Type 0
NotOpened DiskFault told left kept before after = kept ⊎ HeaderFailed told left before after
NotOpened (Damaged at) told left kept before after = kept × IfSome before (λ file. IsDamagedAt file at)
NotOpened NoMemory told left kept before after = kept
NotOpened other told left kept before after = ⊥
