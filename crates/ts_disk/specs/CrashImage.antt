-- The crash images of a file. Between two syncs each written range, and the part past the old end, may hold any
-- bytes. The length may be any number from the old to the new one. Bytes outside stay.
use Rattle.std.specs.Prelude.{◌≡◌, ◌⊎◌, ℕ, ◌+◌, ◌<◌, ◌≤◌, Bool, false, ◌&&◌, nat_lt, nat_le, max, List, [], ◌++◌, length, take, drop, slice_index}
use Rattle.std.specs.List.{list_any}
use Rattle.ts_disk.specs.declared.disk_acts.Piece.{Piece}

-- ---- one step of a disk

-- a file after a write of these bytes at this place
abbrev pub file_after_write : List ℕ → ℕ → List ℕ → List ℕ
file_after_write file at piece = take at file ++ piece ++ drop (at + length piece) file

-- after a write of n bytes that a crash cuts short: any bytes in the range and past the old end, the same elsewhere
pub record Torn (at n : ℕ) (old new : List ℕ) : Type 0 where
  pub before : take at new ≡ take at old
  pub after : drop (at + n) new ≡ drop (at + n) old
  pub no_shorter : length old ≤ length new
  pub no_longer : length new ≤ max (length old) (at + n)

-- each new outcome of a crash is an old outcome after a step
abbrev pub Follows : (List ℕ → List ℕ → Type 0) → (List ℕ → Type 0) → (List ℕ → Type 0) → Type 0
Follows step old new = (c : List ℕ) → new c → (d : List ℕ) × old d × step d c

-- a crash leaves only what it might have left before
abbrev pub LeavesNoMore : (List ℕ → Type 0) → (List ℕ → Type 0) → Type 0
LeavesNoMore old new = (c : List ℕ) → new c → old c

-- a crash leaves exactly this
abbrev pub Only : List ℕ → (List ℕ → Type 0) → Type 0
Only file outcomes = (c : List ℕ) → outcomes c → c ≡ file

-- ---- moments

-- time passes: a crash since t might have left what it might have left before, or what it may leave now
pub record Elapses (before now : ℕ) (past since : ℕ → List ℕ → Type 0) (may_leave : List ℕ → Type 0) : Type 0 where
  pub later : before ≤ now
  pub nothing_else : (t : ℕ) (c : List ℕ) → t ≤ before → since t c → past t c ⊎ may_leave c
  pub keeps : (t : ℕ) (c : List ℕ) → t ≤ before → past t c → since t c

-- a crash at any moment since `old` leaves a file with property P
pub record LeavesOnly {D : Type 0} (moment : D → ℕ) (left_since : D → ℕ → List ℕ → Type 0) (old new : D)
    (P : List ℕ → Type 0) : Type 0 where
  pub later : moment old ≤ moment new
  pub each : (c : List ℕ) → left_since new (moment old) c → P c
  -- for a run that began earlier
  pub before : (t : ℕ) (c : List ℕ) → t ≤ moment old → left_since new t c → left_since old t c ⊎ P c
  -- and each outcome that it might have left stays possible
  pub keeps : (t : ℕ) (c : List ℕ) → t ≤ moment old → left_since old t c → left_since new t c

-- ---- the images between two syncs

-- the bytes of the last sync that succeeded, the writes since then in order, and the bytes that a read returns
pub record State : Type 0 where
  pub synced : List ℕ
  pub writes : List Piece
  pub now : List ℕ

-- the state in which all bytes are on the disk
abbrev pub at_rest : List ℕ → State
at_rest file = record { synced = file; writes = []; now = file }

-- place i lies in the range of a write
abbrev pub covers : ℕ → Piece → Bool
covers i piece = nat_le piece.at i && nat_lt i (piece.at + length piece.bytes)

-- what a crash may leave in this state
pub record IsImage (state : State) (c : List ℕ) : Type 0 where
  pub no_shorter : length state.synced ≤ length c
  pub no_longer : length c ≤ length state.now
  pub outside : (i : ℕ) → i < length state.synced → list_any (covers i) state.writes ≡ false
      → slice_index c i ≡ slice_index state.synced i
