-- Which calls of an object in memory fail.
use Rattle.std.specs.Prelude.{ℕ, Bool, List, ◌==◌}
use Rattle.std.specs.List.{list_any}

-- whether the call of this number is among those that fail
abbrev pub is_listed : List ℕ → ℕ → Bool
is_listed fails number = list_any (λ listed. listed == number) fails
