-- Why a text is refused, and which refusal comes first.
use Rattle.std.specs.Prelude.{◌≡◌, ℕ, ◌≤◌, Bool, true, false, ◌⊎◌, List, [], ◌∷◌, ◌++◌, length, Result, Ok, Err}
use Rattle.std.specs.List.{AllByRecursion}
use Rattle.stmt_tokens.specs.Tokens.{Token, word, number, quoted, mark}
use Rattle.stmt_syntax.specs.Limits.{is_i64}
use Rattle.stmt_tokens.specs.Streams.{Placed, Stream, ends, stops, ◌then◌, onto, plain, stream}
use Rattle.stmt_reader.specs.Grammar.{Rule, statement}
use Rattle.stmt_reader.specs.Reading.{statement as reading}
use Rattle.stmt_reader.specs.declared.faults.Fault.{Fault}
use Rattle.stmt_reader.specs.declared.faults.Fault.TheVariants.{NoToken, Syntax, BadNumber}
use Rattle.stmt_syntax.specs.declared.statements.Stmt.{Stmt as Statement}
use Rattle.stmt_reader.specs.declared.reading.ReadStmt.{ReadStmt}
use Rattle.stmt_reader.specs.declared.reading.ReadStmt.TheVariants as reads

-- a token that isn't a number, or a number that is an i64
abbrev pub is_fit : Token → Bool
is_fit (word w) = true
is_fit (number z) = is_i64 z
is_fit (quoted w) = true
is_fit (mark m) = true

-- these tokens begin something in the rule
abbrev pub Begins : {A : Type 0} → Rule A → List Token → Type 0
Begins {A} L ts = (more : List Token) × (a : A) × L (ts ++ more) a

-- all tokens of the stream together mean this
abbrev pub IsSaid : {A : Type 0} → Rule A → Stream → A → Type 0
IsSaid L s a = (ts : List Placed) × (p : ℕ) × (s ≡ onto ts (ends p)) × L (plain ts) a

-- ---- what may be wrong, at its place

-- there is a token, and the tokens up to it begin nothing in the rule
abbrev pub NothingAt : {A : Type 0} → Rule A → Stream → ℕ → Type 0
NothingAt L s p =
    (ts : List Placed) × (t : Placed) × (left : Stream) × (s ≡ onto ts (t then left)) × (t.at ≡ p)
    × (Begins L (plain ts ++ t.token ∷ []) → ⊥)

-- the end is there, and the tokens aren't complete
abbrev pub IncompleteAt : {A : Type 0} → Rule A → Stream → ℕ → Type 0
IncompleteAt {A} L s p = (ts : List Placed) × (s ≡ onto ts (ends p)) × ((a : A) → L (plain ts) a → ⊥)

-- why tokens are refused at a place
abbrev pub Refuses : {A : Type 0} → Rule A → Stream → Fault → Type 0
-- no token begins there
Refuses L s (NoToken p) = (ts : List Placed) × (s ≡ onto ts (stops p))
Refuses L s (Syntax p) = NothingAt L s p ⊎ IncompleteAt L s p
-- a number there isn't an i64
Refuses L s (BadNumber p) =
    (ts : List Placed) × (t : Placed) × (left : Stream) × (s ≡ onto ts (t then left)) × (t.at ≡ p)
    × (is_fit t.token ≡ false)

-- ---- which comes first

-- the place of a fault
abbrev pub fault_place : Fault → ℕ
fault_place (NoToken p) = p
fault_place (Syntax p) = p
fault_place (BadNumber p) = p

-- if both are at one place, a number that isn't an i64 comes second
abbrev pub Comes : Fault → Fault → Type 0
Comes (BadNumber p) (Syntax q) = p ≡ q → ⊥
Comes (BadNumber p) (NoToken q) = Unit {0}
Comes (BadNumber p) (BadNumber q) = Unit {0}
Comes (NoToken p) g = Unit {0}
Comes (Syntax p) g = Unit {0}

-- the first error: the one at the least place
abbrev pub First : {A : Type 0} → Rule A → Stream → Fault → Type 0
First L s f = Refuses L s f × ((g : Fault) → Refuses L s g → (fault_place f ≤ fault_place g) × Comes f g)

-- what the grammar says of the result of reading: the meaning of the tokens if there is no error, or the first
-- error
abbrev pub Verdict : {A : Type 0} → Rule A → Stream → Result (A × Stream) Fault → Type 0
Verdict L s (Ok x) = IsSaid L s x.0 × ((g : Fault) → Refuses L s g → ⊥)
Verdict L s (Err f) = First L s f

-- what it says of an answer
abbrev pub Judges : Stream → ReadStmt → Type 0
Judges s (reads.Stmt a) = IsSaid statement s a × ((g : Fault) → Refuses statement s g → ⊥)
Judges s (reads.NoToken p) = First statement s (NoToken p)
Judges s (reads.Syntax p) = First statement s (Syntax p)
Judges s (reads.BadNumber p) = First statement s (BadNumber p)
Judges s reads.NoMemory = Unit {0}

-- the same statement, or the same fault
abbrev pub IsSame : Result (Statement × Stream) Fault → Result (Statement × Stream) Fault → Type 0
IsSame (Ok x) (Ok y) = x.0 ≡ y.0
IsSame (Ok x) (Err g) = ⊥
IsSame (Err f) (Ok y) = ⊥
IsSame (Err f) (Err g) = f ≡ g

-- the result of reading each text is what the grammar says of it, and the grammar says nothing else
pub record ReadsByTheGrammar : Type 0 where
  pub gives :
      (text : List ℕ) (skip : ℕ) → skip ≤ length text
      → Verdict statement (stream text skip) (reading (stream text skip))
  pub only : (text : List ℕ) (skip : ℕ) (r : Result (Statement × Stream) Fault) → skip ≤ length text
      → Verdict statement (stream text skip) r → IsSame r (reading (stream text skip))

-- tokens whose numbers are i64 are at most one statement
abbrev pub OneReading : Type 0
OneReading =
    (ts : List Token) (a b : Statement) → AllByRecursion (λ t. is_fit t ≡ true) ts → statement ts a → statement ts b
    → a ≡ b
