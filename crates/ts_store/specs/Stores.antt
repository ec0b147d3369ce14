-- What contracts see of a store.
use Rattle.std.specs.Prelude.{◌≡◌, ◌≢◌, ℕ, suc, ◌≤◌, ◌<◌, ◌^◌, Bool, true, false, cond, nat_lt, List, [], ◌∷◌, ◌++◌, Option, Some, None, is_some, IsTrue, IsSome, IsSomeAnd}
use Rattle.ts_schema.specs.Faults.{Rose}
use Rattle.ts_model.specs.declared.events.Event.{Event}
use Rattle.ts_model.specs.declared.outcomes.Outcome.{Outcome}
use Rattle.ts_model.specs.Calls.{Act, Called}
use Rattle.ts_model.specs.History.{History, start, resumed, ◌▸◌, position, prefix}
use Rattle.ts_model.specs.States.{Origin, State}
use Rattle.engine_core.specs.Histories.{history_of}
use Rattle.engine_core.specs.Values.{EngineValue}
use Rattle.txn_journal.specs.Calls.{Logged, IsAtRest, IsTold}
use Rattle.txn_journal.specs.declared.journals.JournalState.{JournalState}
use Rattle.txn_journal.specs.declared.journals.JournalState.TheVariants.{Bare, Ready, Still}
use Rattle.ts_store.specs.Images.{IsDurable, IsBetween, StandsForEither, latest}
use Rattle.ts_store.specs.Stands.{IsSound, content_of}

-- a store: its engine, its journal and the event at which the disk failed; the disk as it was at the start, the
-- position at which it was opened, and whether it was armed since
pub record StoreValue (D : Type 0) : Type 0 where
  pub engine : EngineValue
  pub journal : Logged D
  pub failed : Option Event
  pub begun : D
  pub opened : ℕ
  pub armed : Bool

-- a store at its start, with an engine and the journal from which its events were read
abbrev pub store_at_start : {D : Type 0} → EngineValue → Logged D → D → StoreValue D
store_at_start engine journal begun =
    record {
      engine = engine;
      journal = journal;
      failed = None;
      begun = begun;
      opened = position (history_of engine.past);
      armed = false;
    }

-- the identity of a store: the disk as it was at the start, and whether the store was armed since
pub record Known (D : Type 0) : Type 0 where
  pub disk : D
  pub armed : Bool

abbrev pub known_of : {D : Type 0} → StoreValue D → Known D
known_of s = record { disk = s.begun; armed = s.armed }

-- its history
abbrev pub history_seen : {D : Type 0} → StoreValue D → History
history_seen s = history_of s.engine.past

-- the history that it was opened with
abbrev pub opening_history : {D : Type 0} → StoreValue D → History
opening_history s = prefix (history_seen s) s.opened

-- the numbers of the events of a history above a position, in order
abbrev pub numbers_above : ℕ → History → List ℕ
numbers_above p start = []
numbers_above p (resumed i) = []
numbers_above p (h ▸ e) = cond (nat_lt (position h) p) [] (numbers_above p h ++ (suc (position h) ∷ []))

-- the moment of its origin is that of the disk at the start, and its count of faults is the disk's
abbrev pub origin_of : {D : Type 0} → (D → ℕ) → (D → ℕ) → StoreValue D → Origin
origin_of faults moment s = record { faults = faults s.begun; opening = opening_history s; moment = moment s.begun }

-- the position at which it stopped, if it did
abbrev pub stop_at : History → Option Event → Option ℕ
stop_at h failed = cond (is_some failed) (Some (position h)) None

-- its state: it has created each event after those that it was opened with
abbrev pub state_of : {D : Type 0} → (D → ℕ) → (D → ℕ) → StoreValue D → State
state_of faults moment s = record {
  history = history_seen s;
  failed = s.failed;
  faults = faults s.journal.disk;
  made = numbers_above s.opened (history_seen s);
  origin = origin_of faults moment s;
}

-- a journal stopped
abbrev pub is_still : JournalState → Bool
is_still Bare = false
is_still Ready = false
is_still Still = true

-- its journal didn't stop, and reads of it return the events of the history
abbrev pub Tells : {D : Type 0} → (D → Option (List ℕ)) → StoreValue D → Type 0
Tells bytes s = IsTold bytes s.journal (content_of (history_seen s))

-- and all of it is on the disk
abbrev pub Rests : {D : Type 0} → (D → Option (List ℕ)) → (D → List ℕ → Type 0) → StoreValue D → Type 0
Rests bytes may_leave s = IsAtRest bytes may_leave s.journal (content_of (history_seen s))

-- the invariant of each store: on the content of reads, if the bytes of the disk were known at the start; and
-- on each image since then, if all of these bytes were on the disk
pub record IsKept {D : Type 0} (bytes : D → Option (List ℕ)) (may_leave : D → List ℕ → Type 0) (moment : D → ℕ)
    (left_since : D → ℕ → List ℕ → Type 0) (faults : D → ℕ) (s : StoreValue D) : Type 0 where
  pub sound : IsSound (history_seen s)
  pub from : s.opened ≤ position (history_seen s)
  -- the count has 64 bits, it hasn't fallen, and it rose if the store has stopped
  pub bounded : faults s.begun < 2 ^ 64
  pub counted : faults s.begun ≤ faults s.journal.disk
  pub fell : IsTrue (is_some s.failed) → Rose (faults s.begun) (faults s.journal.disk)
  pub still : is_some s.failed ≡ is_still s.journal.standing
  -- if it was armed, its journal has a header
  pub headed : s.armed ≡ true → s.journal.standing ≢ Bare
  pub later : IsDurable bytes may_leave s.begun → moment s.begun ≤ moment s.journal.disk
  pub tells : IsSome (bytes s.begun) → s.failed ≡ None → Tells bytes s
  pub rests : IsDurable bytes may_leave s.begun → s.failed ≡ None → Rests bytes may_leave s
  -- the content of reads
  pub shown : IsSome (bytes s.begun)
      → IsSomeAnd (bytes s.journal.disk) (StandsForEither (history_seen s) (latest (history_seen s) s.failed))
  pub images : IsDurable bytes may_leave s.begun → (c : List ℕ) → left_since s.journal.disk (moment s.begun) c
      → IsBetween (opening_history s) (history_seen s) s.failed c

-- a call that does this, on a store that only the caller changes
abbrev pub StoreDoes :
    {D A : Type 0} → (D → ℕ) → (D → ℕ) → (History → Act A) → StoreValue D → Outcome A → StoreValue D → Type 0
StoreDoes faults moment act old outcome new =
    Called true (state_of faults moment old) act outcome (state_of faults moment new)
