-- A demonstration reads no input, and the disk of its caller doesn't fail in it.
use Rattle.std.proofs.Common.{◌≡◌, ◌↔◌, ℕ, Option, Some, None, false, refl}
use Rattle.ts_top.specs.declared.endings.Status.{Status}
use Rattle.ts_top.specs.declared.endings.Status.TheVariants.{Done, Refused, BadWords, ReadFault, WriteFault, DiskFault, Damaged, NoMemory, InputLong}
use Rattle.ts_top.specs.Calls.{DemoTo}
use Rattle.ts_top.specs.Endings.{is_disk_fault, is_read_fault}
use Rattle.ts_top.specs.Outcomes.{Outside}
use Rattle.ts_top.proofs.PrintLaws.{none_not_some}

module _ (demo : ℕ) (unprinted : Type 0) (o : Outside) where
  pub no_read_fault : (status : Status) → DemoTo demo status unprinted o → is_read_fault status ≡ false
  no_read_fault Done shown = refl
  no_read_fault Refused shown = absurd shown
  no_read_fault BadWords shown = refl
  no_read_fault ReadFault shown = absurd shown
  no_read_fault WriteFault shown = refl
  no_read_fault DiskFault shown = refl
  no_read_fault (Damaged at) shown = refl
  no_read_fault NoMemory shown = refl
  no_read_fault InputLong shown = refl

  pub no_disk_fault : (status : Status) → DemoTo demo status unprinted o → is_disk_fault status ≡ false
  no_disk_fault Done shown = refl
  no_disk_fault Refused shown = absurd shown
  no_disk_fault BadWords shown = refl
  no_disk_fault ReadFault shown = refl
  no_disk_fault WriteFault shown = refl
  no_disk_fault DiskFault shown = absurd shown
  no_disk_fault (Damaged at) shown = refl
  no_disk_fault NoMemory shown = refl
  no_disk_fault InputLong shown = refl

  good_words : (status : Status) → DemoTo demo status unprinted o → status ≡ BadWords → ⊥
  good_words Done shown bad = cc bad
  good_words Refused shown bad = absurd shown
  good_words BadWords shown bad = shown
  good_words ReadFault shown bad = cc bad
  good_words WriteFault shown bad = cc bad
  good_words DiskFault shown bad = cc bad
  good_words (Damaged at) shown bad = cc bad
  good_words NoMemory shown bad = cc bad
  good_words InputLong shown bad = cc bad

  pub not_bad_words : {T : Type 0} (status : Status) (asked : Option T) (x : T) → DemoTo demo status unprinted o → asked ≡ Some x → ((status ≡ BadWords) ↔ (asked ≡ None))
  not_bad_words status asked x shown is = (λ bad. absurd (good_words status shown bad), λ none. absurd (none_not_some x asked none is))
