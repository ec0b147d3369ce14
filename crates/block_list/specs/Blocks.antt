-- Parts of a list, in order, and where each of them begins: blocks of items, and inner nodes of blocks.
use Rattle.std.specs.Prelude.{◌≡◌, ℕ, ◌+◌, ◌^◌, ◌<◌, ◌≤◌, List, [], ◌∷◌, ◌++◌, length, take, drop, Option, Some, None, refl}
use Rattle.std.specs.Arc.{arc_value}
use Rattle.std.specs.declared.sync.Arc.{Arc}
use Rattle.std.specs.Coded.{Coded, code_by, coded×, coded_ℕ, coded_list}

-- the greatest number of items of a block
abbrev pub block_len : ℕ
block_len = 64

-- the greatest number of items that are in parts
abbrev pub most_items : ℕ
most_items = 2 ^ 62

-- a part: how many items are before it, and its own
pub record PartValue (X : Type 0) : Type 0 where
  pub start : ℕ
  pub items : List X

abbrev pub part_value_code : {X : Type 0} → Coded X → Coded (PartValue X)
part_value_code {X} x =
    code_by (ℕ × List X) (coded× coded_ℕ (coded_list x)) (λ p. (p.start, p.items))
    (λ p. record { start = p.0; items = p.1 }) (λ _. refl)

module _ {X : Type 0} where
  -- the items of the parts, one part after another
  abbrev pub items_of : List (PartValue X) → List X
  items_of [] = []
  items_of (p ∷ ps) = p.items ++ items_of ps

  -- each part says how many items are before it, if n are before the first
  abbrev pub AreParts : ℕ → List (PartValue X) → Type 0
  AreParts n [] = Unit {0}
  AreParts n (p ∷ ps) = (p.start ≡ n) × AreParts (n + length p.items) ps

  -- parts, and how many items they have, which is at most what can be counted
  abbrev pub AreCounted : ℕ → List (PartValue X) → Type 0
  AreCounted n ps = AreParts 0 ps × (n ≡ length (items_of ps)) × (n ≤ most_items)

  -- what is shared, if something is
  abbrev pub shared_if : {Z : Type 0} → Option (Arc (List X) Z) → List X
  shared_if None = []
  shared_if (Some xs) = arc_value xs

  -- these are the items of a list from a place on, at least one, and they end at or before another place
  pub record IsRun (all : List X) (at end : ℕ) (run : List X) : Type 0 where
    pub some : 0 < length run
    pub within : at + length run ≤ end
    pub items : take (length run) (drop at all) ≡ run

  -- these are the items of a list from a place on, at least one
  abbrev pub IsRunFrom : List X → ℕ → List X → Type 0
  IsRunFrom all at run = IsRun all at (length all) run
