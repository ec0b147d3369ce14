-- The read positions that a reply prints, and the events that it names, read from its text.
use Rattle.std.specs.Prelude.{ℕ, ◌+◌, Bool, true, false, cond, nat_eq, List, [], ◌∷◌, ◌++◌, length, drop}
use Rattle.std.specs.List.{flat_map, slice_split}
use Rattle.audit_looks.specs.declared.lines.Head.{Head}
use Rattle.audit_looks.specs.declared.lines.Head.TheVariants as heads
use Rattle.audit_looks.specs.Lines.{head_of, named_in, told_in}

-- no line follows an answer
abbrev pub is_last : Head → Bool
is_last heads.Answer = true
is_last other = false

abbrev pub is_line_end : ℕ → Bool
is_line_end b = nat_eq b 10

-- the read positions of lines, each without its first `skip` bytes
abbrev pub looks_in_lines : ℕ → List (List ℕ) → List ℕ
looks_in_lines skip [] = []
looks_in_lines skip (line ∷ lines) =
    told_in (head_of (drop skip line)) (drop skip line)
    ++ cond (is_last (head_of (drop skip line))) [] (looks_in_lines skip lines)

-- the read positions of a reply of a session: each line begins with the name, a colon and a blank
abbrev pub looks_in : List ℕ → List ℕ → List ℕ
looks_in name text = looks_in_lines (length name + 2) (slice_split is_line_end text)

-- ---- events

-- the numbers of the events that a line names
abbrev pub numbers_named : List ℕ → List ℕ
numbers_named said = named_in (head_of said) said

-- the numbers of the events that the lines of a text name, each without its first `skip` bytes
abbrev pub numbers_past : ℕ → List ℕ → List ℕ
numbers_past skip text = flat_map (λ line. numbers_named (drop skip line)) (slice_split is_line_end text)

-- the numbers of the events that a reply of a session names: each line begins with the name, a colon and a blank
abbrev pub numbers_in : List ℕ → List ℕ → List ℕ
numbers_in name text = numbers_past (length name + 2) text
