-- How a call that prints a text of its journal ends.
use Rattle.std.proofs.Common.{◌≡◌, ◌↔◌, inr, ℕ, false, List, Option, Some, None, refl}
use Rattle.std.specs.Prelude.{IfSome, OnErr, OnOk, Result, Ok, Err}
use Rattle.std.specs.Io.KnownBytes.{Appends}
use Rattle.ts_io.specs.Whole.{AppendsPart}
use Rattle.ts_model.specs.History.{History}
use Rattle.ts_store.specs.Stands.{Stands}
use Rattle.ts_top.specs.Stops.{status_of_print}
use Rattle.ts_top.specs.declared.prints.PrintStop.{PrintStop}
use Rattle.ts_top.specs.declared.prints.PrintStop.TheVariants as stops
use Rattle.ts_top.specs.Endings.{is_read_fault}
use Rattle.ts_top.specs.Outcomes.{Outside, PrintedTo}
use Rattle.ts_top.specs.declared.endings.Status.{Status}
use Rattle.ts_top.specs.declared.endings.Status.TheVariants.{Done, Refused, BadWords, ReadFault, WriteFault, DiskFault, Damaged, NoMemory, InputLong}

-- the words named a command
pub good_words : (status : Status) (text : History → List ℕ) (unprinted : Type 0) (o : Outside) → PrintedTo text status unprinted o → status ≡ BadWords → ⊥
good_words Done text unprinted o outcome is = cc is
good_words Refused text unprinted o outcome is = outcome
good_words BadWords text unprinted o outcome is = outcome
good_words ReadFault text unprinted o outcome is = outcome
good_words WriteFault text unprinted o outcome is = cc is
good_words DiskFault text unprinted o outcome is = cc is
good_words (Damaged at) text unprinted o outcome is = cc is
good_words NoMemory text unprinted o outcome is = cc is
good_words InputLong text unprinted o outcome is = outcome

-- no read failed
pub no_read_fault : (status : Status) (text : History → List ℕ) (unprinted : Type 0) (o : Outside) → PrintedTo text status unprinted o → is_read_fault status ≡ false
no_read_fault Done text unprinted o outcome = refl
no_read_fault Refused text unprinted o outcome = absurd outcome
no_read_fault BadWords text unprinted o outcome = absurd outcome
no_read_fault ReadFault text unprinted o outcome = absurd outcome
no_read_fault WriteFault text unprinted o outcome = refl
no_read_fault DiskFault text unprinted o outcome = refl
no_read_fault (Damaged at) text unprinted o outcome = refl
no_read_fault NoMemory text unprinted o outcome = refl
no_read_fault InputLong text unprinted o outcome = absurd outcome

pub none_not_some : {T : Type 0} (x : T) (o : Option T) → o ≡ None → o ≡ Some x → ⊥
none_not_some x None n s = cc s
none_not_some x (Some y) n s = cc n

pub not_bad_words : {T : Type 0} (status : Status) (text : History → List ℕ) (unprinted : Type 0) (o : Outside) (asked : Option T) (x : T) → PrintedTo text status unprinted o → asked ≡ Some x → ((status ≡ BadWords) ↔ (asked ≡ None))
not_bad_words status text unprinted o asked x outcome is = (λ bad. absurd (good_words status text unprinted o outcome bad), λ none. absurd (none_not_some x asked none is))

-- what a call has printed, by the result of printing
pub printed_to : {T : Type 0} (result : Result T PrintStop) (text : History → List ℕ) (unprinted : Type 0) (o : Outside) (h : History) → IfSome o.file_before (λ file. Stands file h) → OnOk result (Appends o.written_before o.written (text h)) → OnErr result (AppendsPart o.written_before o.written (text h)) → PrintedTo text (status_of_print result) unprinted o
printed_to (Ok done) text unprinted o h stood all part = record { opening = h; stood = stood; ran = all }
printed_to (Err stops.WriteFault) text unprinted o h stood all part = record { opening = h; stood = stood; ran = part }
printed_to (Err stops.NoMemory) text unprinted o h stood all part = inr (record { opening = h; stood = stood; ran = part })

-- P is true, whatever failed
pub on_err : {T E : Type 0} (result : Result T E) (P : Type 0) → P → OnErr result P
on_err (Ok x) P p = tt
on_err (Err e) P p = p
