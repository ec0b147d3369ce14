-- The read positions that one line of a reply prints, and the events that it names, read from its text.
use Rattle.std.specs.Prelude.{ℕ, ◌+◌, ◌-◌, ◌*◌, ◌^◌, min, Bool, not, ◌==◌, nat_eq, ◌||◌, if◌then◌else◌, List, [], ◌∷◌, codes}
use Rattle.std.specs.Char.{is_ascii_digit}
use Rattle.std.specs.List.{list_any, starts_with}
use Rattle.audit_looks.specs.declared.lines.Head.{Head}
use Rattle.audit_looks.specs.declared.lines.Head.TheVariants as heads

-- ---- numbers

-- a number with one more digit after it, or the greatest number of 64 bits
abbrev pub with_digit : ℕ → ℕ → ℕ
with_digit n digit = min (n * 10 + (digit - 48)) (2 ^ 64 - 1)

-- a number, continued by the digits of a text
abbrev pub number_from : ℕ → List ℕ → ℕ
number_from n [] = n
number_from n (b ∷ text) = if is_ascii_digit b then number_from (with_digit n b) text else n

-- the number that a text begins with
abbrev pub number_in : List ℕ → ℕ
number_in text = number_from 0 text

-- the text before the first such byte, or all of it if there is none
abbrev pub ahead : ℕ → List ℕ → List ℕ
ahead byte [] = []
ahead byte (b ∷ text) = if b == byte then [] else b ∷ ahead byte text

-- the text after the first such byte, or nothing if there is none
abbrev pub behind : ℕ → List ℕ → List ℕ
behind byte [] = []
behind byte (b ∷ text) = if b == byte then text else behind byte text

-- ---- heads

abbrev pub begins : List ℕ → List ℕ → Bool
begins line head = starts_with nat_eq line head

-- a line that has a position begins with an event
abbrev pub is_event : List ℕ → Bool
is_event line =
    begins line (codes "TABLE ") || begins line (codes "HYPERTABLE ") || begins line (codes "VIEW ")
    || begins line (codes "MODE ") || begins line (codes "COMMIT ") || begins line (codes "FINISH ")

-- a line has a position
abbrev pub has_position : List ℕ → Bool
has_position line = list_any (λ b. nat_eq b 64) line

-- what the head of a line says about its read positions
abbrev pub head_of : List ℕ → Head
head_of line =
    if begins line (codes "CUT ") then heads.Cut
    else if begins line (codes "REFRESH ") then heads.Refresh
    else if not (has_position line) then heads.Quiet
    else if begins line (codes "ANSWER ") then heads.Answer
    else if begins line (codes "FAULT ") then heads.Fault
    else if is_event line then heads.Event
    else heads.Look

-- ---- read positions

-- the position of a line: the number after its first @
abbrev pub position_in : List ℕ → ℕ
position_in line = number_in (behind 64 line)

-- the event that begins a refresh: the number after the first blank
abbrev pub cut_in : List ℕ → ℕ
cut_in line = number_in (behind 32 line)

-- the snapshot of a refresh: the number after the second blank after the @
abbrev pub snapshot_in : List ℕ → ℕ
snapshot_in line = number_in (behind 32 (behind 32 (behind 64 line)))

-- the read positions of a line with this head. An event comes directly after its read position
abbrev pub told_in : Head → List ℕ → List ℕ
told_in heads.Event line = (position_in line - 1) ∷ []
told_in heads.Cut line = (cut_in line - 1) ∷ []
told_in heads.Refresh line = (cut_in line - 1) ∷ snapshot_in line ∷ (position_in line - 1) ∷ []
told_in heads.Look line = position_in line ∷ []
told_in heads.Fault line = position_in line ∷ position_in line ∷ []
told_in heads.Answer line = position_in line ∷ []
told_in heads.Quiet line = []

-- ---- events

-- the numbers of the events that a line with this head names: an event has the number of its position. A cut is named
-- by its number, and a whole refresh by the number of its cut and by its position
abbrev pub named_in : Head → List ℕ → List ℕ
named_in heads.Event line = position_in line ∷ []
named_in heads.Cut line = cut_in line ∷ []
named_in heads.Refresh line = cut_in line ∷ position_in line ∷ []
named_in other line = []
