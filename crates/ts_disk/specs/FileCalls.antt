-- The known state of a file, and the effect of each call on it.
use Rattle.std.specs.Prelude.{◌≡◌, ◌⊎◌, ℕ, ◌+◌, ◌-◌, ◌<◌, ◌≤◌, List, ◌++◌, length, take, drop, slice_index, replicate, Option, None, Some, IfSome, IsSomeAnd, Result, MatchResult, ⊤}
use Rattle.ts_schema.specs.Counts.{one_more}
use Rattle.ts_disk.specs.PickedImages.{file_with}

-- the bytes that reads return, the number of syncs that succeeded, and the number of calls that failed
pub record FileState : Type 0 where
  pub bytes : List ℕ
  pub syncs : ℕ
  pub failed : ℕ

-- ---- states, if they are known

-- after a call that failed and did nothing
abbrev pub after_failure : Option FileState → Option FileState
after_failure None = None
after_failure (Some s) = Some (record s { failed = one_more s.failed })

-- after a write of these bytes at this place; a gap before them is filled with zeros
abbrev pub after_write : Option FileState → ℕ → List ℕ → Option FileState
after_write None at piece = None
after_write (Some s) at piece = Some (record s { bytes = file_with s.bytes at piece })

-- after a sync
abbrev pub after_sync : Option FileState → Option FileState
after_sync None = None
after_sync (Some s) = Some (record s { syncs = one_more s.syncs })

-- after n zeros were added at the end
abbrev pub after_zeros : Option FileState → ℕ → Option FileState
after_zeros None n = None
after_zeros (Some s) n = Some (record s { bytes = s.bytes ++ replicate n 0 })

-- ---- the bytes that a failed write leaves unchanged

-- bytes outside the n places from this one on stay, the file doesn't get shorter, and nothing was synced
pub record SparesRest (at n : ℕ) (old new : FileState) : Type 0 where
  pub outside : (i : ℕ) → i < length old.bytes → (i < at) ⊎ (at + n ≤ i) → slice_index new.bytes i ≡ slice_index old.bytes i
  pub no_shorter : length old.bytes ≤ length new.bytes
  pub syncs : new.syncs ≡ old.syncs

-- a failed write of n bytes at this place didn't change the rest
abbrev pub Spares : Option FileState → ℕ → ℕ → Option FileState → Type 0
Spares None at n new = new ≡ None
Spares (Some s) at n new = IsSomeAnd new (SparesRest at n s)

-- ---- calls

-- the length returned is the file's
abbrev pub IsLengthOf : Option FileState → ℕ → Type 0
IsLengthOf known n = IfSome known (λ s. n ≡ length s.bytes)

-- a call that reads the length
abbrev pub Measures : {E : Type 0} → Option FileState → Result ℕ E → Option FileState → Type 0
Measures old result new = MatchResult result (λ n. IsLengthOf old n × (new ≡ old)) (λ _. new ≡ after_failure old)

-- these are the file's bytes from this place on
abbrev pub AreBytesAt : Option FileState → ℕ → List ℕ → Type 0
AreBytesAt known at bytes = IfSome known (λ s. bytes ≡ take (length bytes) (drop at s.bytes))

-- a call that reads at this place
abbrev pub ReadsFile : {T E : Type 0} → Option FileState → ℕ → Result T E → List ℕ → Option FileState → Type 0
ReadsFile old at result into new = MatchResult result (λ _. AreBytesAt old at into × (new ≡ old)) (λ _. new ≡ after_failure old)

-- a call that writes at this place
abbrev pub WritesFile : {T E : Type 0} → Option FileState → ℕ → List ℕ → Result T E → Option FileState → Type 0
WritesFile old at piece result new =
    MatchResult result (λ _. new ≡ after_write old at piece) (λ _. Spares old at (length piece) new)

-- a call that syncs
abbrev pub SyncsFile : {T E : Type 0} → Option FileState → Result T E → Option FileState → Type 0
SyncsFile old result new = MatchResult result (λ _. new ≡ after_sync old) (λ _. new ≡ after_failure old)

-- ---- a disk on a file

-- the file, and the number of calls of the disk that failed
pub record OnFile (F : Type 0) : Type 0 where
  pub file : F
  pub faults : ℕ

-- as a disk it states no bytes, and nothing about what a crash leaves
abbrev pub untold : {F : Type 0} → OnFile F → Option (List ℕ)
untold disk = None

abbrev pub any_image : {F : Type 0} → OnFile F → List ℕ → Type 0
any_image disk c = ⊤

abbrev pub one_moment : {F : Type 0} → OnFile F → ℕ
one_moment disk = 0

abbrev pub any_past : {F : Type 0} → OnFile F → ℕ → List ℕ → Type 0
any_past disk t c = ⊤

-- only zeros were added at the end
abbrev pub AddsZeros : Option FileState → Option FileState → Type 0
AddsZeros None new = new ≡ None
AddsZeros (Some s) new = IsSomeAnd new (λ t. t ≡ record s { bytes = s.bytes ++ replicate (length t.bytes - length s.bytes) 0 })

-- a write of a disk: one write of the file, after which zeros may be added at its end
abbrev pub WritesAhead : {T E : Type 0} → Option FileState → ℕ → List ℕ → Result T E → Option FileState → Type 0
WritesAhead old at piece result new =
    MatchResult result (λ _. AddsZeros (after_write old at piece) new) (λ _. Spares old at (length piece) new)
