-- How the least and the greatest value are kept: as plain numbers, which count only if there are values.
use Rattle.std.specs.Prelude.{◌≡◌, ℕ, zero, suc, Option, None, Some, ℤ, pos}
use Rattle.partial_agg.specs.Summaries.{IsBounded}

-- the end stored along with this many values: none if there are none
abbrev pub end_of : ℕ → ℤ → Option ℤ
end_of zero v = None
end_of (suc n) v = Some v

-- the number that is kept of an end: 0 if there is none
abbrev pub kept_end : Option ℤ → ℤ
kept_end None = pos 0
kept_end (Some v) = v

-- a number is kept as it is beside some values, and is 0 beside none
abbrev pub IsEnd : ℕ → ℤ → Type 0
IsEnd values v = kept_end (end_of values v) ≡ v

-- what is kept of a column is bounded, and its ends are kept so
pub record IsKept (count values : ℕ) (sum least most : ℤ) : Type 0 where
  pub bounded : IsBounded count values sum
  pub least_is : IsEnd values least
  pub most_is : IsEnd values most

-- along with this many values, this end is stored as this number
pub record EndsIn (values : ℕ) (end : Option ℤ) (v : ℤ) : Type 0 where
  pub kept : IsEnd values v
  pub shown : end_of values v ≡ end
