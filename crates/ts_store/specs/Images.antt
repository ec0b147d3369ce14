-- The crash images of a store's disk.
use Rattle.std.specs.Prelude.{◌≡◌, ◌⊎◌, ℕ, ◌∷◌, ◌++◌, List, Option, Some, None}
use Rattle.ts_disk.specs.CrashImage.{Only}
use Rattle.ts_model.specs.declared.events.Event.{Event}
use Rattle.ts_model.specs.History.{History, ◌▸◌, Begins}
use Rattle.txn_journal.specs.Frames.{magic}
use Rattle.ts_store.specs.Stands.{Stands}

-- the bytes of a disk are known, and all of them are on it
pub record IsDurable {D : Type 0} (bytes : D → Option (List ℕ)) (may_leave : D → List ℕ → Type 0)
    (disk : D) : Type 0 where
  pub file : List ℕ
  pub told : bytes disk ≡ Some file
  pub durable : Only file (may_leave disk)

-- a file begins with the seven bytes of a journal, a version byte, and a commit byte
pub record HasHeader (file : List ℕ) : Type 0 where
  pub mark : ℕ
  pub gate : ℕ
  pub rest : List ℕ
  pub begins : file ≡ magic ++ mark ∷ gate ∷ rest

-- a file contains a history that begins with this one
pub record StandsForMore (h : History) (file : List ℕ) : Type 0 where
  pub all : History
  pub stands : Stands file all
  pub begins : Begins h all

-- each image since this moment contains a history that begins with this one
abbrev pub BeginSince : {D : Type 0} → (D → ℕ → List ℕ → Type 0) → D → ℕ → History → Type 0
BeginSince left_since disk t h = (c : List ℕ) → left_since disk t c → StandsForMore h c

-- a history, with the event at which the disk failed, if it did
abbrev pub latest : History → Option Event → History
latest h None = h
latest h (Some e) = h ▸ e

-- a file contains the first of these histories or the second
abbrev pub StandsForEither : History → History → List ℕ → Type 0
StandsForEither g h file = Stands file g ⊎ Stands file h

-- a file contains a history that begins with the opening one, and with which the one seen begins, or the one seen and
-- the event at which the disk failed
pub record IsBetween (opening seen : History) (failed : Option Event) (file : List ℕ) : Type 0 where
  pub history : History
  pub stands : Stands file history
  pub from : Begins opening history
  pub upto : Begins history seen ⊎ (history ≡ latest seen failed)
