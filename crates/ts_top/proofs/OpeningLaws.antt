-- A call that opened no journal has done what a call that runs a script has done.
use Rattle.std.proofs.Common.{◌≡◌, inl, inr, ℕ, List, Option, false, refl}
use Rattle.ts_top.specs.declared.endings.Status.{Status}
use Rattle.ts_top.specs.declared.endings.Status.TheVariants.{Done, Refused, BadWords, ReadFault, WriteFault, DiskFault, Damaged, NoMemory, InputLong}
use Rattle.ts_top.specs.Endings.{is_read_fault, is_write_fault}
use Rattle.ts_top.specs.Openings.{NotOpened}
use Rattle.ts_top.specs.Outcomes.{IfWentOn, Outside, RanTo}

module _ (told : Type 0) (left : List ℕ → Type 0) (before after : Option (List ℕ)) where
  -- if the header was reached, the disk may have changed
  pub failed_or_kept : (status : Status) (kept : Type 0) → NotOpened status told left ⊥ before after → NotOpened status told left kept before after
  failed_or_kept Done kept n = n
  failed_or_kept Refused kept n = n
  failed_or_kept BadWords kept n = n
  failed_or_kept ReadFault kept n = n
  failed_or_kept WriteFault kept n = n
  failed_or_kept DiskFault kept (inl never) = absurd never
  failed_or_kept DiskFault kept (inr failed) = inr failed
  failed_or_kept (Damaged at) kept n = absurd n.0
  failed_or_kept NoMemory kept n = absurd n
  failed_or_kept InputLong kept n = n

  -- nothing was read and nothing printed, so the call reports no fault of source or sink
  pub not_opened_reads : (status : Status) (kept : Type 0) → NotOpened status told left kept before after → is_read_fault status ≡ false
  not_opened_reads Done kept n = refl
  not_opened_reads Refused kept n = refl
  not_opened_reads BadWords kept n = refl
  not_opened_reads ReadFault kept n = absurd n
  not_opened_reads WriteFault kept n = refl
  not_opened_reads DiskFault kept n = refl
  not_opened_reads (Damaged at) kept n = refl
  not_opened_reads NoMemory kept n = refl
  not_opened_reads InputLong kept n = refl

  pub not_opened_writes : (status : Status) (kept : Type 0) → NotOpened status told left kept before after → is_write_fault status ≡ false
  not_opened_writes Done kept n = refl
  not_opened_writes Refused kept n = refl
  not_opened_writes BadWords kept n = refl
  not_opened_writes ReadFault kept n = refl
  not_opened_writes WriteFault kept n = absurd n
  not_opened_writes DiskFault kept n = refl
  not_opened_writes (Damaged at) kept n = refl
  not_opened_writes NoMemory kept n = refl
  not_opened_writes InputLong kept n = refl

  pub not_opened_header : (status : Status) (kept P : Type 0) → NotOpened status told left kept before after → IfWentOn status P
  not_opened_header Done kept P n = absurd n
  not_opened_header Refused kept P n = absurd n
  not_opened_header BadWords kept P n = absurd n
  not_opened_header ReadFault kept P n = absurd n
  not_opened_header WriteFault kept P n = absurd n
  not_opened_header DiskFault kept P n = tt
  not_opened_header (Damaged at) kept P n = tt
  not_opened_header NoMemory kept P n = tt
  not_opened_header InputLong kept P n = absurd n

-- a run that opened no journal
module _ (told : Type 0) (left : List ℕ → Type 0) (o : Outside) (unread unprinted kept : Type 0) (still : unread × unprinted × (o.reads ≡ 0)) where
  pub not_opened_run : (status : Status) → NotOpened status told left kept o.file_before o.file → RanTo status told left unread unprinted kept o
  not_opened_run Done n = absurd n
  not_opened_run Refused n = absurd n
  not_opened_run BadWords n = absurd n
  not_opened_run ReadFault n = absurd n
  not_opened_run WriteFault n = absurd n
  not_opened_run DiskFault n = inl (still.0, still.1, n, still.2)
  not_opened_run (Damaged at) n = ((still.0, still.1, n.0, still.2), n.1)
  not_opened_run NoMemory n = inl (still.0, still.1, n, still.2)
  not_opened_run InputLong n = absurd n
