-- Values whose marks of NULL are separate from the numbers.
use Rattle.std.specs.Prelude.{ℤ, Bool, true, false, List, [], ◌∷◌, Option, Some, None}

-- a number, or NULL if it is marked
abbrev pub unless_marked : Bool → ℤ → Option ℤ
unless_marked false n = Some n
unless_marked true n = None

-- numbers by their marks, place by place; those after the last mark aren't marked
abbrev pub marked_values : List Bool → List ℤ → List (Option ℤ)
marked_values marks [] = []
marked_values [] (n ∷ numbers) = Some n ∷ marked_values [] numbers
marked_values (m ∷ marks) (n ∷ numbers) = unless_marked m n ∷ marked_values marks numbers
