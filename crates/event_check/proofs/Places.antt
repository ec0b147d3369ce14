-- There is a place if and only if some item passes.
use Rattle.std.proofs.Common.{◌≡◌, ℕ, suc, ◌+◌, Bool, true, false, ◌||◌, not, cond, nat_lt, List, [], ◌∷◌, length, Some, None, refl, ◌∙◌, arith}
use Rattle.std.specs.Prelude.{is_some, position}
use Rattle.std.specs.List.{list_any, position_or_len}
use Rattle.std.proofs.lemmas.Bool.Decides.{nat_tests}

chosen : (b : Bool) (n : ℕ) → is_some (cond b (Some n) None) ≡ b
chosen true n = refl
chosen false n = refl

place_within : {X : Type 0} (p : X → Bool) (xs : List X) → nat_lt (position_or_len p xs) (length xs) ≡ list_any p xs
place_within p [] = refl
place_within p (x ∷ xs) =
    let rest = place_within p xs in
    elim (p x) as (λ b. nat_lt (cond (not b) (1 + position_or_len p xs) 0) (suc (length xs)) ≡ (b || list_any p xs)) [
      | true ↦ grind (arith, nat_tests)
      | false ↦ less_both (position_or_len p xs) (length xs) ∙ rest
    ]
  where
    less_both : (m n : ℕ) → nat_lt (1 + m) (suc n) ≡ nat_lt m n
    less_both m n = grind (arith, nat_tests)

pub some_place : {X : Type 0} (p : X → Bool) (xs : List X) → is_some (position p xs) ≡ list_any p xs
some_place p xs = chosen (nat_lt (position_or_len p xs) (length xs)) (position_or_len p xs) ∙ place_within p xs
