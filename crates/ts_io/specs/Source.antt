-- What a read does to the bytes that a source has left.
use Rattle.std.specs.Prelude.{◌≡◌, ℕ, ◌+◌, ◌<◌, ◌≤◌, Bool, true, false, ◌==◌, ◌&&◌, nat_lt, List, Option, length, take, drop}
use Rattle.std.specs.Io.KnownBytes.{Consumes, IsAtEnd, Keeps}
use Rattle.ts_io.specs.declared.sources.Got.{Got}
use Rattle.ts_io.specs.declared.sources.Got.TheVariants.{Bytes, Failed}

-- a read of n bytes took the first n bytes left and stored them at the front of the slice. It took none only if
-- the slice was empty or at the end. A read that failed took nothing
abbrev pub Gives : Option (List ℕ) → Option (List ℕ) → Got → List ℕ → Type 0
Gives old new (Bytes n) into =
    (n ≤ length into) × Consumes old new (take n into) × (n ≡ 0 → 0 < length into → IsAtEnd new)
Gives old new Failed into = Keeps old new

-- the read failed
abbrev pub is_failed : Got → Bool
is_failed (Bytes n) = false
is_failed Failed = true

-- the read reported the end: it gave no byte
abbrev pub is_end : Got → Bool
is_end (Bytes n) = n == 0
is_end Failed = false

-- whether a source has reported its end after a read: it reports it by returning no byte although there was
-- room
abbrev pub told_end : Got → List ℕ → Bool
told_end got into = is_end got && nat_lt 0 (length into)

-- a read whose bytes were appended to those held: it took what they grew by, and nothing only at the end
abbrev pub Fills : Option (List ℕ) → Option (List ℕ) → Got → List ℕ → List ℕ → Type 0
Fills old new (Bytes n) before now = (take (length before) now ≡ before) × Consumes old new (drop (length before) now)
    × (length now ≡ length before + n) × (n ≡ 0 → IsAtEnd new)
Fills old new Failed before now = Keeps old new × (now ≡ before)
