-- A whole input and a whole text.
use Rattle.std.specs.Prelude.{◌≡◌, ℕ, ◌+◌, ◌<◌, Bool, true, false, List, ◌++◌, Option, Some, None, length, take, drop, ⊤}
use Rattle.std.specs.Io.KnownBytes.{Appends, Consumes, IsAtEnd}
use Rattle.ts_io.specs.declared.limits.TheConstants.{INPUT_LIMIT}
use Rattle.ts_io.specs.declared.whole.AllEnd.{AllEnd}
use Rattle.ts_io.specs.declared.whole.AllEnd.TheVariants.{End, InputLong, ReadFault, NoMemory}

-- the bytes written grew by a prefix of the text
pub record AppendsPart (old new : Option (List ℕ)) (text : List ℕ) : Type 0 where
  pub done : List ℕ
  pub todo : List ℕ
  pub split : text ≡ done ++ todo
  pub grew : Appends old new done

-- the source had more than n bytes: the first n were taken, and one more
abbrev pub Passes : ℕ → Option (List ℕ) → Option (List ℕ) → List ℕ → Type 0
Passes n None new out = ⊤
Passes n (Some xs) None out = ⊥
Passes n (Some xs) (Some ys) out = (n < length xs) × (out ≡ take n xs) × (ys ≡ drop (n + 1) xs)

-- what each end of reading says of the bytes left before and after, and of the bytes read
abbrev pub ReadsAll : AllEnd → Option (List ℕ) → Option (List ℕ) → List ℕ → Type 0
ReadsAll End old new out = Consumes old new out × IsAtEnd new
ReadsAll InputLong old new out = Passes INPUT_LIMIT old new out
ReadsAll ReadFault old new out = Consumes old new out
ReadsAll NoMemory old new out = Consumes old new out

-- reading ended with a fault
abbrev pub is_read_fault : AllEnd → Bool
is_read_fault End = false
is_read_fault InputLong = false
is_read_fault ReadFault = true
is_read_fault NoMemory = false
