-- Rows of cells in one list, row after row, given by where each row ends.
use Rattle.std.specs.Prelude.{◌≡◌, ℕ, ◌-◌, ◌≤◌, List, [], ◌∷◌, length, take, drop}

module _ {X : Type 0} where
  -- the parts of a list that end at these places, with this many items before the list
  abbrev pub parts : ℕ → List ℕ → List X → List (List X)
  parts from [] cells = []
  parts from (end ∷ ends) cells = take (end - from) cells ∷ parts end ends (drop (end - from) cells)

  -- the places rise, and the last one is the end of the list
  abbrev pub AreParts : ℕ → List ℕ → List X → Type 0
  AreParts from [] cells = cells ≡ []
  AreParts from (end ∷ ends) cells =
      (from ≤ end) × (end - from ≤ length cells) × AreParts end ends (drop (end - from) cells)
