-- Arming a store.
use Rattle.std.specs.Prelude.{Bool, true}
use Rattle.txn_journal.specs.declared.journals.Append.{Append}
use Rattle.txn_journal.specs.declared.journals.Append.TheVariants.{Done, DiskFault, Stopped}

-- a store is armed once its header was written or already existed
abbrev pub armed_after : Bool → Append → Bool
armed_after armed Done = true
armed_after armed DiskFault = armed
armed_after armed Stopped = armed
