-- A payload that is appended to a journal after its header.
use Rattle.std.proofs.Common.{◌≡◌, ℕ, Bool, true, sym, ◌∙◌, subst}
use Rattle.ts_schema.specs.Faults.{Rose}
use Rattle.txn_journal.specs.Calls.{Ends, IsCounted, IfDone, IfStopped}
use Rattle.txn_journal.specs.declared.journals.Append.{Append}
use Rattle.txn_journal.specs.declared.journals.Append.TheVariants.{Done, DiskFault, Stopped}
use Rattle.txn_journal.specs.declared.journals.JournalState.{JournalState}
use Rattle.txn_journal.specs.declared.journals.JournalState.TheVariants.{Ready, Still}
use Rattle.ts_store.specs.Arming.{armed_after}

ready_apart : Ready ≡ Still → ⊥
ready_apart is = cc is

-- after an existing header, the result is that of the payload only
pub ends_on : (answer : Append) (before mid now : JournalState) → Ends Done before mid → Ends answer mid now → Ends answer before now
ends_on Done before mid now first second = (first.0, second.1)
ends_on DiskFault before mid now first second = (first.0, second.1)
ends_on Stopped before mid now first second = absurd (ready_apart (sym first.1 ∙ second.0))

pub counted_on : (answer : Append) (before mid now : ℕ) → mid ≡ before → IsCounted answer mid now → IsCounted answer before now
counted_on Done before mid now first second = second ∙ first
counted_on DiskFault before mid now first second = subst (λ (n : ℕ). Rose n now) first second
counted_on Stopped before mid now first second = second ∙ first

pub stopped_on : (answer : Append) (before mid now : JournalState) (P Q : Type 0) → Ends Done before mid → Ends answer mid now → IfStopped answer P → IfStopped answer Q
stopped_on Done before mid now P Q first second stopped = tt
stopped_on DiskFault before mid now P Q first second stopped = tt
stopped_on Stopped before mid now P Q first second stopped = absurd (ready_apart (sym first.1 ∙ second.0))

-- a store is armed after a call that armed it
pub armed_done : (answer : Append) (before now : Bool) → now ≡ armed_after before answer → IfDone answer (now ≡ true)
armed_done Done before now is = is
armed_done DiskFault before now is = tt
armed_done Stopped before now is = tt

pub armed_stays : (answer : Append) (before now : Bool) → now ≡ armed_after before answer → before ≡ true → now ≡ true
armed_stays Done before now is was = is
armed_stays DiskFault before now is was = is ∙ was
armed_stays Stopped before now is was = is ∙ was
