-- How many items of a list pass a test, if the list is created from the numbers of a range.
use Rattle.std.proofs.Common.{◌≡◌, ℕ, zero, suc, ◌+◌, ◌<◌, ◌≤◌, Bool, true, false, ◌||◌, cond, eqb, ◌∷◌, ◌++◌, map, refl, ap, ◌∙◌, arith}
use Rattle.std.specs.List.{count_by, list_any, range_with_len}
use Rattle.std.proofs.lemmas.Bool.{eqb-true, eqb-false, or_left, or_right}
use Rattle.std.proofs.lemmas.List.{map-append}
use Rattle.std.proofs.Math.Nat.{zero-add, add-zero}
use Rattle.ts_model.proofs.CountLaws.{count_cons}
use Rattle.ts_schema.proofs.Cases.{count-append}

-- a range in two parts
pub range-append : (first m n : ℕ) → range_with_len first (m + n) ≡ range_with_len first m ++ range_with_len (first + m) n
range-append first zero n = rw (zero-add, add-zero)
range-append first (suc m) n =
    let more : suc m + n ≡ suc (m + n) = omega arith in
    let next : (first + 1) + m ≡ first + suc m = omega arith in
    rw more (ap (λ xs. first ∷ xs) (range-append (first + 1) m n ∙ ap (λ k. range_with_len (first + 1) m ++ range_with_len k n) next))

-- if the test says the same of all items, all pass or none
pub count-range : {X : Type 0} (test : X → Bool) (f : ℕ → X) (b : Bool) (first n : ℕ) → ((k : ℕ) → first ≤ k → k < first + n → test (f k) ≡ b) → count_by test (map f (range_with_len first n)) ≡ cond b n 0
count-range test f true first zero same = refl
count-range test f false first zero same = refl
count-range test f b first (suc n) same =
    count_cons test (f first) (map f (range_with_len (first + 1) n))
    ∙ ap (λ t. cond t 1 0 + count_by test (map f (range_with_len (first + 1) n))) (same first (omega arith) (omega arith))
    ∙ ap (λ m. cond b 1 0 + m) (count-range test f b (first + 1) n (λ k l h. same k (omega arith) (omega arith)))
    ∙ one_more b n
  where
    one_more : (b : Bool) (n : ℕ) → cond b 1 0 + cond b n 0 ≡ cond b (suc n) 0
    one_more true n = omega arith
    one_more false n = refl

-- in two parts
pub count-parts : {X : Type 0} (test : X → Bool) (f : ℕ → X) (a b : Bool) (first m n : ℕ) → ((k : ℕ) → first ≤ k → k < first + m → test (f k) ≡ a) → ((k : ℕ) → first + m ≤ k → k < first + m + n → test (f k) ≡ b) → count_by test (map f (range_with_len first (m + n))) ≡ cond a m 0 + cond b n 0
count-parts test f a b first m n before after =
    ap (λ xs. count_by test (map f xs)) (range-append first m n)
    ∙ ap (count_by test) (map-append f (range_with_len first m) (range_with_len (first + m) n))
    ∙ count-append test (map f (range_with_len first m)) (map f (range_with_len (first + m) n))
    ∙ ap (λ c. c + count_by test (map f (range_with_len (first + m) n))) (count-range test f a first m before)
    ∙ ap (λ c. cond a m 0 + c) (count-range test f b (first + m) n after)

-- if one item passes, some item does
pub any-range : {X : Type 0} (test : X → Bool) (f : ℕ → X) (first n k : ℕ) → first ≤ k → k < first + n → test (f k) ≡ true → list_any test (map f (range_with_len first n)) ≡ true
any-range test f first zero k l h e = absurd (omega arith)
any-range test f first (suc n) k l h e = by_cases (eqb first k) refl (λ m. any-range test f (first + 1) n k m (omega arith) e)
  where
    by_cases : (t : Bool) → eqb first k ≡ t → (first + 1 ≤ k → list_any test (map f (range_with_len (first + 1) n)) ≡ true) → (test (f first) || list_any test (map f (range_with_len (first + 1) n))) ≡ true
    by_cases true q rest = or_left _ _ (ap (λ j. test (f j)) (eqb-true first k q) ∙ e)
    by_cases false q rest = let apart : first ≡ k → ⊥ = eqb-false first k q in or_right _ _ (rest (omega arith))
