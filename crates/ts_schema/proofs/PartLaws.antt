-- Parts of parts of a list.
use Rattle.std.proofs.Common.{◌≡◌, refl, ap, ◌∙◌, ℕ, zero, suc, ◌+◌, ◌-◌, ◌≤◌, List, [], ◌∷◌, length, take, drop, arith, min}
use Rattle.std.proofs.lemmas.List.{drop-take, length-take}

-- dropping items twice is dropping them in one step
pub drop_twice : {X : Type 0} (f a : ℕ) (xs : List X) → drop a (drop f xs) ≡ drop (f + a) xs
drop_twice zero a xs = let e : 0 + a ≡ a = omega arith in rw e refl
drop_twice (suc f) zero [] = let e : suc f + 0 ≡ suc f = omega arith in rw e refl
drop_twice (suc f) (suc a) [] = let e : suc f + suc a ≡ suc (f + suc a) = omega arith in rw e refl
drop_twice (suc f) a (x ∷ xs) = let e : suc f + a ≡ suc (f + a) = omega arith in rw e (drop_twice f a xs)

-- the first items of the first ones
pub take_less : {X : Type 0} (m n : ℕ) (xs : List X) → m ≤ n → take m (take n xs) ≡ take m xs
take_less zero n xs p = refl
take_less (suc m) zero xs p = let no : ⊥ = omega (arith, p) in elim no [ ]
take_less (suc m) (suc n) [] p = refl
take_less (suc m) (suc n) (x ∷ xs) p = ap (λ ys. x ∷ ys) (take_less m n xs (omega (arith, p)))

-- the first n items are at most n
pub no_longer : {X : Type 0} (n : ℕ) (xs : List X) → length (take n xs) ≤ n
no_longer n xs = let e : length (take n xs) ≡ min n (length xs) = length-take n xs in omega (arith, e)

-- the items from a to b of the first n items from place f on
pub part_of_part : {X : Type 0} (f a b n : ℕ) (xs : List X) → a ≤ b → b ≤ n
    → take (b - a) (drop a (take n (drop f xs))) ≡ take ((f + b) - (f + a)) (drop (f + a) xs)
part_of_part f a b n xs p q =
    let whole : n ≡ a + (n - a) = omega (arith, p, q) in
    let fewer : b - a ≤ n - a = omega (arith, p, q) in
    let moved : b - a ≡ (f + b) - (f + a) = omega (arith, p) in
    ap (λ k. take (b - a) (drop a (take k (drop f xs)))) whole
    ∙ ap (take (b - a)) (drop-take a (n - a) (drop f xs))
    ∙ take_less (b - a) (n - a) (drop a (drop f xs)) fewer
    ∙ ap (take (b - a)) (drop_twice f a xs)
    ∙ ap (λ k. take k (drop (f + a) xs)) moved
