-- The effect of a disk's calls on its known bytes, and the bytes that stay.
use Rattle.std.specs.Prelude.{◌≡◌, ℕ, ◌≤◌, List, Option, None, Some, IsSomeAnd, IfSome, Result, MatchResult, length, take, drop}
use Rattle.ts_schema.specs.Faults.{Rose}
use Rattle.ts_disk.specs.CrashImage.{Torn, file_after_write}

-- the count of faults stays if a call succeeds, and rises if it fails
abbrev pub Counted : {T E : Type 0} → ℕ → ℕ → Result T E → Type 0
Counted before now result = MatchResult result (λ _. now ≡ before) (λ _. Rose before now)

-- if the bytes are known, there are n of them
abbrev pub HasLength : Option (List ℕ) → ℕ → Type 0
HasLength told n = IfSome told (λ file. n ≡ length file)

-- if the bytes are known, there are at least `end` of them
abbrev pub HasRange : Option (List ℕ) → ℕ → Type 0
HasRange told end = IfSome told (λ file. end ≤ length file)

-- if the bytes are known, these are in them from this place on
abbrev pub IsRange : Option (List ℕ) → ℕ → List ℕ → Type 0
IsRange told at bytes = IfSome told (λ file. bytes ≡ take (length bytes) (drop at file))

-- a write stores its piece at its place. A write that failed may have stored any bytes in its range and past
-- the old end, and doesn't change the others. Unknown bytes stay unknown
abbrev pub Writes : {T E : Type 0} → Option (List ℕ) → ℕ → List ℕ → Result T E → Option (List ℕ) → Type 0
Writes None at piece result new = new ≡ None
Writes (Some file) at piece result new =
    MatchResult result (λ _. new ≡ Some (file_after_write file at piece)) (λ _. IsSomeAnd new (Torn at (length piece) file))

-- the bytes, the moment, and what a crash may leave or might have left, stay as they were
pub record Keeps {D : Type 0} (bytes : D → Option (List ℕ)) (may_leave : D → List ℕ → Type 0) (moment : D → ℕ)
    (left_since : D → ℕ → List ℕ → Type 0) (old new : D) : Type 0 where
  pub same : bytes new ≡ bytes old
  pub at_moment : moment new ≡ moment old
  pub leaves : (c : List ℕ) → may_leave new c → may_leave old c
  pub left : (c : List ℕ) → may_leave old c → may_leave new c
  pub past : (t : ℕ) (c : List ℕ) → left_since new t c → left_since old t c
  pub past_left : (t : ℕ) (c : List ℕ) → left_since old t c → left_since new t c
