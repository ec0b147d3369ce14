-- An engine with its journal, as a part of a store.
use Rattle.std.specs.Prelude.{Bool, ℕ, ◌≤◌, List, Option, IsSomeAnd}
use Rattle.ts_disk.specs.CrashImage.{LeavesOnly}
use Rattle.ts_model.specs.declared.outcomes.Outcome.{Outcome}
use Rattle.ts_model.specs.Calls.{Act}
use Rattle.ts_model.specs.History.{History, Begins}
use Rattle.engine_core.specs.Histories.{history_of}
use Rattle.txn_journal.specs.Calls.{IsAtRest, IsTold, IfDone}
use Rattle.txn_journal.specs.declared.journals.Append.{Append}
use Rattle.ts_store.specs.declared.recorders.Recorder.{Recorder}
use Rattle.ts_store.specs.Images.{BeginSince}
use Rattle.ts_store.specs.Safe.{IsSafe}
use Rattle.ts_store.specs.Stands.{Stands, content_of}
use Rattle.ts_store.specs.Stores.{StoreValue, StoreDoes, IsKept}

-- the store that has this recorder
abbrev pub store_of : {D : Type 0} → Recorder D → D → ℕ → Bool → StoreValue D
store_of recorder begun opened armed =
    record {
      engine = recorder.engine;
      journal = recorder.journal;
      failed = recorder.failed;
      begun = begun;
      opened = opened;
      armed = armed;
    }

abbrev pub IsKeptIn :
    {D : Type 0} → (D → Option (List ℕ)) → (D → List ℕ → Type 0) → (D → ℕ) → (D → ℕ → List ℕ → Type 0) → (D → ℕ)
    → Recorder D → D → ℕ → Bool → Type 0
IsKeptIn bytes may_leave moment left_since faults recorder begun opened armed =
    IsKept bytes may_leave moment left_since faults (store_of recorder begun opened armed)

abbrev pub DoesIn :
    {D A : Type 0} → (D → ℕ) → (D → ℕ) → (History → Act A) → D → ℕ → Bool → Recorder D → Outcome A → Recorder D
    → Type 0
DoesIn faults moment act begun opened armed old outcome new =
    StoreDoes faults moment act (store_of old begun opened armed) outcome (store_of new begun opened armed)

-- the invariant of a store with this recorder is kept, for any such store
abbrev pub StaysKept :
    {D : Type 0} → (D → Option (List ℕ)) → (D → List ℕ → Type 0) → (D → ℕ) → (D → ℕ → List ℕ → Type 0) → (D → ℕ)
    → Recorder D → Recorder D → Type 0
StaysKept {D} bytes may_leave moment left_since faults old new =
    (begun : D) (opened : ℕ) (armed : Bool) → IsKeptIn bytes may_leave moment left_since faults old begun opened armed
    → IsKeptIn bytes may_leave moment left_since faults new begun opened armed

-- a call does this, in any store with this recorder
abbrev pub DoesKept :
    {D A : Type 0} → (D → Option (List ℕ)) → (D → List ℕ → Type 0) → (D → ℕ) → (D → ℕ → List ℕ → Type 0) → (D → ℕ)
    → (History → Act A) → Recorder D → Outcome A → Recorder D → Type 0
DoesKept {D} bytes may_leave moment left_since faults act old outcome new =
    (begun : D) (opened : ℕ) (armed : Bool) → IsKeptIn bytes may_leave moment left_since faults old begun opened armed
    → DoesIn faults moment act begun opened armed old outcome new

-- a call is safe, in any store with this recorder
abbrev pub IsSafeIn :
    {D : Type 0} → (D → Option (List ℕ)) → (D → List ℕ → Type 0) → (D → ℕ) → (D → ℕ → List ℕ → Type 0) → Recorder D
    → Recorder D → Type 0
IsSafeIn {D} bytes may_leave moment left_since old new =
    (begun : D) (opened : ℕ) (armed : Bool)
    → IsSafe bytes may_leave moment left_since (store_of old begun opened armed) (store_of new begun opened armed)

-- its journal didn't stop, and reads of it return the events of the history
abbrev pub TellsIn : {D : Type 0} → (D → Option (List ℕ)) → Recorder D → Type 0
TellsIn bytes recorder = IsTold bytes recorder.journal (content_of (history_of recorder.engine.past))

-- and all of it is on the disk
abbrev pub RestsIn : {D : Type 0} → (D → Option (List ℕ)) → (D → List ℕ → Type 0) → Recorder D → Type 0
RestsIn bytes may_leave recorder =
    IsAtRest bytes may_leave recorder.journal (content_of (history_of recorder.engine.past))

-- the effect of writing a header
pub record ArmsSafely {D : Type 0} (bytes : D → Option (List ℕ)) (may_leave : D → List ℕ → Type 0) (moment : D → ℕ)
    (left_since : D → ℕ → List ℕ → Type 0) (answer : Append) (old new : Recorder D) : Type 0 where
  pub tells : TellsIn bytes old → IfDone answer (TellsIn bytes new)
  pub done : RestsIn bytes may_leave old → IfDone answer (RestsIn bytes may_leave new)
  -- a crash at any moment leaves a file that contains the history
  pub any_moment : RestsIn bytes may_leave old
      → LeavesOnly moment left_since old.journal.disk new.journal.disk
      (λ file. Stands file (history_of old.engine.past))
  -- reads also return such a file, whether or not all of it was on the disk
  pub shown : TellsIn bytes old
      → IsSomeAnd (bytes new.journal.disk) (λ file. Stands file (history_of old.engine.past))
  -- if each image since an earlier moment contains a history that begins with `h`, each still does
  pub earlier : (t : ℕ) (h : History) → RestsIn bytes may_leave old → Begins h (history_of old.engine.past)
      → t ≤ moment old.journal.disk → BeginSince left_since old.journal.disk t h
      → BeginSince left_since new.journal.disk t h
