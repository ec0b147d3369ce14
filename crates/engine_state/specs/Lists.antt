-- Lists related place by place.
use Rattle.std.specs.Prelude.{ℕ, suc, List, [], ◌∷◌}

-- two lists have the same length, and from place i on each place and the two items there are related
abbrev pub EachFrom : {A B : Type 0} → (ℕ → A → B → Type 0) → ℕ → List A → List B → Type 0
EachFrom R i [] [] = Unit {0}
EachFrom R i [] (b ∷ ys) = ⊥
EachFrom R i (a ∷ xs) [] = ⊥
EachFrom R i (a ∷ xs) (b ∷ ys) = R i a b × EachFrom R (suc i) xs ys

-- the same from the first place on
abbrev pub Each : {A B : Type 0} → (ℕ → A → B → Type 0) → List A → List B → Type 0
Each R xs ys = EachFrom R 0 xs ys
