-- A reader of lines over a source.
use Rattle.std.specs.Prelude.{◌≡◌, ℕ, ◌+◌, ◌<◌, ◌≤◌, Bool, true, false, List, [], ◌∷◌, length, Option, None, Some, ⊤}
use Rattle.std.specs.Io.KnownBytes.{IsAtEnd, prepend_known}
use Rattle.ts_io.specs.Lines.{lines_within}
use Rattle.ts_io.specs.declared.limits.TheConstants.{INPUT_LIMIT, LINE_LIMIT}
use Rattle.ts_io.specs.declared.line_reader.LineEnd.{LineEnd}
use Rattle.ts_io.specs.declared.line_reader.LineEnd.TheVariants.{Line, LineLong, End, InputLong, ReadFault}

-- the bytes read and not yet returned; how many bytes from these on lie within the limit of the input; the line
-- returned last; whether there may be another; and whether the source has reported its end
pub record Reading : Type 0 where
  pub held : List ℕ
  pub allowed : ℕ
  pub line : List ℕ
  pub is_open : Bool
  pub at_end : Bool

-- the first of the lines is too long, and these follow
abbrev pub SkipsLong : List (List ℕ) → List (List ℕ) → Type 0
SkipsLong [] rest = ⊥
SkipsLong (line ∷ lines) rest = (LINE_LIMIT < length line) × (lines ≡ rest)

-- what each answer says of the text to come, with n bytes allowed, and of the text to come after the answer,
-- with m bytes allowed
abbrev pub Answers : LineEnd → ℕ → List ℕ → ℕ → List ℕ → List ℕ → Type 0
Answers Line n text m rest line = (lines_within n text ≡ line ∷ lines_within m rest) × (length line ≤ LINE_LIMIT)
Answers LineLong n text m rest line = SkipsLong (lines_within n text) (lines_within m rest)
Answers End n text m rest line = (lines_within n text ≡ []) × (text ≡ []) × (rest ≡ [])
Answers InputLong n text m rest line = (lines_within n text ≡ []) × (n < length text)
Answers ReadFault n text m rest line = ⊤

-- the same, if the text to come is known
abbrev pub ReadsLine : LineEnd → ℕ → Option (List ℕ) → ℕ → Option (List ℕ) → List ℕ → Type 0
ReadsLine end n None m new line = ⊤
ReadsLine end n (Some text) m None line = ⊥
ReadsLine end n (Some text) m (Some rest) line = Answers end n text m rest line

-- a line takes at least one byte and at least its own bytes of those that were allowed; a line that is too long
-- takes more than a line may have
abbrev pub Spends : LineEnd → ℕ → ℕ → List ℕ → Type 0
Spends Line n m line = (length line ≤ LINE_LIMIT) × (m < n) × (m + length line ≤ n)
Spends LineLong n m line = m + LINE_LIMIT < n
Spends End n m line = ⊤
Spends InputLong n m line = ⊤
Spends ReadFault n m line = ⊤

-- as many bytes are gone from the text to come as from those that were allowed
abbrev pub SpendsAlike : ℕ → Option (List ℕ) → ℕ → Option (List ℕ) → Type 0
SpendsAlike n None m new = ⊤
SpendsAlike n (Some text) m None = ⊥
SpendsAlike n (Some text) m (Some rest) = length text + m ≡ length rest + n

-- the same of a reader, for any rest of its source
abbrev pub SpendsHeld : Reading → Reading → Type 0
SpendsHeld old new =
    (left : Option (List ℕ))
    → SpendsAlike old.allowed (prepend_known old.held left) new.allowed (prepend_known new.held left)

-- a reader that has taken nothing yet
abbrev pub IsFresh : Reading → Type 0
IsFresh reading = (reading.held ≡ []) × (reading.allowed ≡ INPUT_LIMIT) × (reading.is_open ≡ true)

-- whether another line may follow
abbrev pub goes_on : LineEnd → Bool
goes_on Line = true
goes_on LineLong = true
goes_on End = false
goes_on InputLong = false
goes_on ReadFault = false

-- a read failed
abbrev pub is_read_fault : LineEnd → Bool
is_read_fault Line = false
is_read_fault LineLong = false
is_read_fault End = false
is_read_fault InputLong = false
is_read_fault ReadFault = true

-- a reader knows whether its source has reported its end, and then no byte is left there
pub record Follows (reading : Reading) (ended : Bool) (left : Option (List ℕ)) : Type 0 where
  pub knows : ended ≡ reading.at_end
  pub empty : reading.at_end ≡ true → IsAtEnd left

-- a reader of a source that hasn't reported its end follows it
abbrev pub FollowsAtStart : Reading → Type 0
FollowsAtStart reading = (ended : Bool) (left : Option (List ℕ)) → ended ≡ false → Follows reading ended left
