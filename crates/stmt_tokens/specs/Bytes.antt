use Rattle.std.specs.Prelude.{ℕ, Bool, ◌||◌, ◌==◌, List, map}
use Rattle.std.specs.Char.{to_ascii_lowercase}
use Rattle.ts_schema.specs.Names.{is_head, is_tail}

-- a space or a tab
abbrev pub is_space : ℕ → Bool
is_space b = b == 32 || b == 9

-- a letter in either case or _
abbrev pub begins_word : ℕ → Bool
begins_word b = is_head (to_ascii_lowercase b)

-- a letter in either case, a digit or _
abbrev pub continues_word : ℕ → Bool
continues_word b = is_tail (to_ascii_lowercase b)

-- a word in lower case
abbrev pub lower : List ℕ → List ℕ
lower w = map to_ascii_lowercase w
