-- Whether the totals of groups can be stored: counts in 64 bits, and sums in 128.
use Rattle.std.specs.Prelude.{ℕ, ◌+◌, ◌*◌, ◌^◌, ◌<◌, ◌≤◌, max, List, [], ◌∷◌, map, ℤ, pos, neg_ℤ, ◌≤ℤ◌, Option, IfSome, IsTrue, FitsSigned}
use Rattle.std.specs.Int.{w128}
use Rattle.std.specs.List.{AllByRecursion, sum_by}
use Rattle.ts_num.specs.declared.values.Datum.{Datum}
use Rattle.ts_model.specs.Limits.{is_word}
use Rattle.partial_agg.specs.declared.groups.Group.{Group}
use Rattle.partial_agg.specs.Summaries.{Summary}
use Rattle.partial_agg.specs.Summaries.{value_of}

-- the counts of a part take 64 bits, and its sum 128
pub record CanBeKept (p : Summary) : Type 0 where
  pub count : p.count < 2 ^ 64
  pub values : p.values < 2 ^ 64
  pub sum : FitsSigned w128 p.sum

-- ---- rows of 64-bit numbers

-- NULL, or a number of 64 bits
abbrev pub IsWordOrNone : Option ℤ → Type 0
IsWordOrNone v = IfSome v (λ n. IsTrue (is_word n))

-- the cells show only such numbers
abbrev pub ShowWords : List Datum → Type 0
ShowWords cells = AllByRecursion IsWordOrNone (map value_of cells)

-- the sum of a part is one that this many such numbers can have
pub record IsOfWords (p : Summary) : Type 0 where
  pub low : neg_ℤ (pos (2 ^ 63 * p.values)) ≤ℤ p.sum
  pub high : p.sum ≤ℤ pos (2 ^ 63 * p.values)

-- a lower bound of the number of rows of a group: the greatest of its counts
abbrev pub taken_by : List Summary → ℕ
taken_by [] = 0
taken_by (p ∷ ps) = max (p.count + p.values) (taken_by ps)

-- the sum of these bounds over groups
abbrev pub taken_by_all : List Group → ℕ
taken_by_all groups = sum_by (λ g. taken_by g.parts) groups

-- groups of at most this many rows in all, whose cells show numbers of 64 bits
pub record AreOfRows (n : ℕ) (groups : List Group) : Type 0 where
  pub few : taken_by_all groups ≤ n
  pub words : AllByRecursion (λ g. AllByRecursion IsOfWords g.parts) groups
