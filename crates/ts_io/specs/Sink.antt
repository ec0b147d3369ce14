-- What a write does to the bytes that a sink holds.
use Rattle.std.specs.Prelude.{ℕ, ◌<◌, ◌≤◌, Bool, true, false, List, Option, length, take}
use Rattle.std.specs.Io.KnownBytes.{Appends, Keeps}
use Rattle.ts_io.specs.declared.sinks.Put.{Put}
use Rattle.ts_io.specs.declared.sinks.Put.TheVariants.{Bytes, Failed}

-- a write of n bytes appended the first n bytes of the piece: at least one, unless the piece is empty. A write
-- that failed wrote nothing
abbrev pub Takes : Option (List ℕ) → Option (List ℕ) → Put → List ℕ → Type 0
Takes old new (Bytes n) piece = (n ≤ length piece) × (0 < length piece → 0 < n) × Appends old new (take n piece)
Takes old new Failed piece = Keeps old new

-- the write failed
abbrev pub is_failed : Put → Bool
is_failed (Bytes n) = false
is_failed Failed = true
