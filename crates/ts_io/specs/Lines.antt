-- The lines of a text.
use Rattle.std.specs.Prelude.{◌≡◌, ℕ, ◌<◌, List, [], ◌∷◌, length, take, slice_index, ◌==◌, if◌then◌else◌, nat_le}

-- the byte placed in front of the first line, or as a line if there is none
abbrev pub onto_first : ℕ → List (List ℕ) → List (List ℕ)
onto_first b [] = (b ∷ []) ∷ []
onto_first b (line ∷ lines) = (b ∷ line) ∷ lines

-- each line ends with the byte LF, which isn't part of it; bytes after the last LF form a line if there are any
abbrev pub lines_of : List ℕ → List (List ℕ)
lines_of [] = []
lines_of (b ∷ text) = if b == 10 then [] ∷ lines_of text else onto_first b (lines_of text)

-- the byte placed in front of the first line, if there is one
abbrev pub onto_ended : ℕ → List (List ℕ) → List (List ℕ)
onto_ended b [] = []
onto_ended b (line ∷ lines) = (b ∷ line) ∷ lines

-- the lines that end with LF, not those that the end of the text ends
abbrev pub ended_lines : List ℕ → List (List ℕ)
ended_lines [] = []
ended_lines (b ∷ text) = if b == 10 then [] ∷ ended_lines text else onto_ended b (ended_lines text)

-- the lines that end within the first n bytes, by their LF or by the end of the text
abbrev pub lines_within : ℕ → List ℕ → List (List ℕ)
lines_within n text = if nat_le (length text) n then lines_of text else ended_lines (take n text)

-- the first line end of the text is at place n
abbrev pub IsFirstEnd : List ℕ → ℕ → Type 0
IsFirstEnd text n = (n < length text) × (slice_index text n ≡ 10) × (ended_lines (take n text) ≡ [])
