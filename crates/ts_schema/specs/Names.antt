use Rattle.std.specs.Prelude.{◌≡◌, ℕ, Bool, false, ◌&&◌, ◌||◌, ◌==◌, List, [], ◌∷◌, length, Option, MatchOption, IsTrue}
use Rattle.std.specs.Prelude.{nat_le}
use Rattle.std.specs.List.{list_all}

-- a letter from a to z or _
abbrev pub is_head : ℕ → Bool
is_head b = (nat_le 97 b && nat_le b 122) || b == 95

-- a letter from a to z, _ or a digit
abbrev pub is_tail : ℕ → Bool
is_tail b = is_head b || (nat_le 48 b && nat_le b 57)

-- a name in lower case: a letter or _, then letters, digits and _, 1 to 63 bytes in all
abbrev pub is_name : List ℕ → Bool
is_name [] = false
is_name (b ∷ bs) = nat_le (length (b ∷ bs)) 63 && is_head b && list_all is_tail bs

-- the result of reading a name: the text itself if it is a name, otherwise nothing
abbrev pub IsNameOf : List ℕ → Option (List ℕ) → Type 0
IsNameOf text read = MatchOption read (is_name text ≡ false) (λ name. (name ≡ text) × IsTrue (is_name name))
