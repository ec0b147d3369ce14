-- An item of a list changed in its place.
use Rattle.std.proofs.Common.{◌≡◌, ℕ, zero, suc, ◌<◌, ◌≤◌, List, [], ◌∷◌, length, get_or, set, sym, ap, ◌∙◌, refl, arith}
use Rattle.ts_model.specs.Roster.{change_at}

pub changed_at : {X : Type 0} (xs : List X) (i : ℕ) (f : X → X) (x y : X) → i < length xs → x ≡ get_or xs i x → y ≡ f x → change_at xs i f ≡ set xs i y
changed_at [] i f x y l e g = absurd (omega arith)
changed_at (z ∷ xs) zero f x y l e g = ap (λ w. w ∷ xs) (ap f (sym e) ∙ sym g)
changed_at (z ∷ xs) (suc i) f x y l e g = ap (λ ws. z ∷ ws) (changed_at xs i f x y (omega arith) e g)

pub changed_past : {X : Type 0} (xs : List X) (i : ℕ) (f : X → X) → length xs ≤ i → change_at xs i f ≡ xs
changed_past [] i f l = refl
changed_past (z ∷ xs) zero f l = absurd (omega arith)
changed_past (z ∷ xs) (suc i) f l = ap (λ ys. z ∷ ys) (changed_past xs i f (omega arith))
