-- The commands that the words of the command line name.
use Rattle.std.specs.Prelude.{ℕ, Bool, true, false, ◌+◌, ◌*◌, ◌-◌, ◌&&◌, nat_eq, nat_lt, nat_le, List, [], ◌∷◌, Option, Some, None, option_map, codes, bytes_eq, if◌then◌else◌}
use Rattle.ts_top.specs.declared.commands.Command.{Command}
use Rattle.ts_top.specs.declared.commands.Command.TheVariants.{Run, Par, ParJson, Demo, Print, Checkpoint, Audit}
use Rattle.ts_top.specs.declared.commands.Text.TheVariants.{Log, Check}

-- the command that a word names
abbrev pub of_word : List ℕ → Option Command
of_word word =
    if bytes_eq word (codes "run") then Some Run
    else if bytes_eq word (codes "par") then Some Par
    else if bytes_eq word (codes "log") then Some (Print Log)
    else if bytes_eq word (codes "check") then Some (Print Check)
    else if bytes_eq word (codes "checkpoint") then Some Checkpoint
    else if bytes_eq word (codes "audit") then Some Audit
    else None

abbrev pub is_digit : ℕ → Bool
is_digit byte = nat_le 48 byte && nat_le byte 57

-- a number continued by digits, if it stays below a million
abbrev pub number_from : ℕ → List ℕ → Option ℕ
number_from n [] = Some n
number_from n (digit ∷ digits) =
    if is_digit digit && nat_lt n 100000 then number_from (10 * n + (digit - 48)) digits else None

-- a number below a million, without leading zeros
abbrev pub demo_number : List ℕ → Option ℕ
demo_number [] = None
demo_number (first ∷ []) = number_from 0 (first ∷ [])
demo_number (first ∷ next ∷ more) = if nat_eq first 48 then None else number_from 0 (first ∷ next ∷ more)

-- the command that two words name
abbrev pub of_words : List ℕ → List ℕ → Option Command
of_words word next =
    if bytes_eq word (codes "demo") then option_map Demo (demo_number next)
    else if bytes_eq word (codes "par") && bytes_eq next (codes "json") then Some ParJson
    else None

-- the command that words name
abbrev pub command_of_words : List (List ℕ) → Option Command
command_of_words [] = None
command_of_words (word ∷ []) = of_word word
command_of_words (word ∷ next ∷ []) = of_words word next
command_of_words (word ∷ next ∷ last ∷ more) = None

-- the words without a first `--`
abbrev pub after_dashes : List (List ℕ) → List (List ℕ)
after_dashes [] = []
after_dashes (word ∷ words) = if bytes_eq word (codes "--") then words else word ∷ words

-- the command that words name, with or without `--` before them
abbrev pub command_of : List (List ℕ) → Option Command
command_of words = command_of_words (after_dashes words)

-- whether a command writes to the journal
abbrev pub writes : Command → Bool
writes Run = true
writes Par = true
writes ParJson = true
writes (Demo demo) = false
writes (Print text) = false
writes Checkpoint = true
writes Audit = false
