-- Lists related place by place, read item by item.
use Rattle.std.proofs.Common.{◌≡◌, ℕ, zero, suc, ◌+◌, ◌<◌, ◌≤◌, List, [], ◌∷◌, ◌++◌, length, get_or, take, sym, refl, ap, ◌∙◌, subst, arith}
use Rattle.std.specs.List.{AllByRecursion}
use Rattle.std.proofs.lemmas.List.{take_more}
use Rattle.engine_state.specs.Lists.{Each}
use Rattle.engine_state.specs.Steps.{AllFrom, sum_from}
use Rattle.engine_state.proofs.EachLaws.{each_pushed}

taken_length : {A : Type 0} (xs : List A) (i : ℕ) → i ≤ length xs → length (take i xs) ≡ i
taken_length xs zero l = refl
taken_length [] (suc i) l = absurd (omega arith)
taken_length (x ∷ xs) (suc i) l = ap suc (taken_length xs i (omega arith))

one_more : {A : Type 0} (xs : List A) (i : ℕ) (x : A) → i < length xs → x ≡ get_or xs i x → take (i + 1) xs ≡ take i xs ++ (x ∷ [])
one_more xs i x l is = take_more xs i x l ∙ ap (λ y. take i xs ++ (y ∷ [])) (sym is)

-- one more item of the first list, and the item related to it
pub each_taken : {A B : Type 0} (R : ℕ → A → B → Type 0) (xs : List A) (ys : List B) (i : ℕ) (x : A) (y : B) → i < length xs → x ≡ get_or xs i x → Each R (take i xs) ys → R i x y → Each R (take (i + 1) xs) (ys ++ (y ∷ []))
each_taken R xs ys i x y l is e r =
    let long : length (take i xs) ≡ i = taken_length xs i (omega (arith, l)) in
    let place : i ≡ 0 + length (take i xs) = omega (arith, long) in
    subst (λ zs. Each R zs (ys ++ (y ∷ []))) (sym (one_more xs i x l is)) (each_pushed R 0 (take i xs) ys x y e (subst (λ n. R n x y) place r))

sum_pushed : {A : Type 0} (f : ℕ → A → ℕ) (s : ℕ) (xs : List A) (x : A) → sum_from f s (xs ++ (x ∷ [])) ≡ sum_from f s xs + f (s + length xs) x
sum_pushed f s [] x = let place : s + 0 ≡ s = omega arith in ap (λ n. f n x + 0) (sym place) ∙ omega arith
sum_pushed f s (y ∷ ys) x =
    let place : suc s + length ys ≡ s + suc (length ys) = omega arith in
    let rest = sum_pushed f (suc s) ys x ∙ ap (λ n. sum_from f (suc s) ys + f n x) place in
    ap (λ n. f s y + n) rest ∙ omega arith

-- the sum with one more item
pub sum_taken : {A : Type 0} (f : ℕ → A → ℕ) (xs : List A) (i : ℕ) (x : A) → i < length xs → x ≡ get_or xs i x → sum_from f 0 (take (i + 1) xs) ≡ sum_from f 0 (take i xs) + f i x
sum_taken f xs i x l is =
    let long : length (take i xs) ≡ i = taken_length xs i (omega (arith, l)) in
    let place : 0 + length (take i xs) ≡ i = omega (arith, long) in
    ap (sum_from f 0) (one_more xs i x l is) ∙ sum_pushed f 0 (take i xs) x ∙ ap (λ n. sum_from f 0 (take i xs) + f n x) place

all_from : {A : Type 0} (P : ℕ → A → Type 0) (s : ℕ) (xs : List A) (i : ℕ) (d : A) → AllFrom P s xs → i < length xs → P (s + i) (get_or xs i d)
all_from P s [] i d all l = absurd (omega arith)
all_from P s (x ∷ xs) zero d all l = subst (λ n. P n x) (let place : s ≡ s + 0 = omega arith in place) all.0
all_from P s (x ∷ xs) (suc i) d all l = subst (λ n. P n (get_or xs i d)) (let place : suc s + i ≡ s + suc i = omega arith in place) (all_from P (suc s) xs i d all.1 (omega arith))

-- what is true of each place is true of this one
pub all_at : {A : Type 0} (P : ℕ → A → Type 0) (xs : List A) (i : ℕ) (x : A) → AllFrom P 0 xs → i < length xs → x ≡ get_or xs i x → P i x
all_at P xs i x all l is = subst (P i) (sym is) (subst (λ n. P n (get_or xs i x)) (let place : 0 + i ≡ i = omega arith in place) (all_from P 0 xs i x all l))

pub each_is : {A : Type 0} (P : A → Type 0) (xs : List A) (i : ℕ) (x : A) → AllByRecursion P xs → i < length xs → x ≡ get_or xs i x → P x
each_is P xs i x all l is = subst P (sym is) (at xs i all l)
  where
    at : (xs : List _) (i : ℕ) → AllByRecursion P xs → i < length xs → P (get_or xs i x)
    at [] i all l = absurd (omega arith)
    at (y ∷ ys) zero all l = all.0
    at (y ∷ ys) (suc i) all l = at ys i all.1 (omega arith)
