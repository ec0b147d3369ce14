-- Positions, and how often each is in a list.
use Rattle.std.proofs.Common.{◌≡◌, ℕ, zero, suc, ◌+◌, ◌-◌, ◌<◌, ◌≤◌, ◌&&◌, cond, true, false, List, [], ◌∷◌, ◌++◌, eqb, refl, sym, ap, ◌∙◌, subst, arith, eq-eqb, ne_eqb, length-append}
use Rattle.std.specs.Prelude.{IsPermutation, nat_lt, nat_le}
use Rattle.std.proofs.lemmas.List.Sums.{sum_by-cons, sum_by-append}
use Rattle.std.proofs.lemmas.List.Sorted.{IsPermutation-refl, IsPermutation-cons, IsPermutation-trans, IsPermutation-sym, IsPermutation-middle}
use mathlib.Core.Logic.{dite}
use native.Mathlib.Decide.{ℕ_discrete}
use Rattle.std.proofs.lemmas.Bool.Decides.{nat_tests}
use Rattle.turn_lock.specs.Positions.{positions_after, positions_between, times, end_of}

pub positions_more : (p m n : ℕ) → positions_after p (m + n) ≡ positions_after p m ++ positions_after (p + m) n
positions_more p zero n = (λ i. positions_after p ((let e : 0 + n ≡ n = omega arith in e) i)) ∙ λ i. positions_after ((let e : p ≡ p + 0 = omega arith in e) i) n
positions_more p (suc m) n =
    (λ i. positions_after p ((let e : suc m + n ≡ suc (m + n) = omega arith in e) i))
    ∙ (λ i. (p + 1) ∷ positions_more (p + 1) m n i)
    ∙ (λ i. (p + 1) ∷ (positions_after (p + 1) m ++ positions_after ((let e : p + 1 + m ≡ p + suc m = omega arith in e) i) n))

-- the positions after p up to r are those up to q and those after q
pub positions_meet : (p q r : ℕ) → p ≤ q → q ≤ r → positions_between p r ≡ positions_between p q ++ positions_between q r
positions_meet p q r a b =
    (λ i. positions_after p ((let e : r - p ≡ (q - p) + (r - q) = omega arith in e) i))
    ∙ positions_more p (q - p) (r - q)
    ∙ (λ i. positions_after p (q - p) ++ positions_after ((let e : p + (q - p) ≡ q = omega arith in e) i) (r - q))

pub positions_none : (p : ℕ) → positions_between p p ≡ []
positions_none p = λ i. positions_after p ((let e : p - p ≡ 0 = omega arith in e) i)

-- the one position that one event adds
pub positions_one : (p : ℕ) → positions_between p (p + 1) ≡ (p + 1) ∷ []
positions_one p = λ i. positions_after p ((let e : p + 1 - p ≡ suc 0 = omega arith in e) i)

-- the position that one more event adds
pub positions_added : {E : Type 0} (p : ℕ) (events : List E) (e : E) → positions_between (end_of p events) (end_of p (events ++ e ∷ [])) ≡ end_of p (events ++ e ∷ []) ∷ []
positions_added p events e =
    let more : end_of p (events ++ e ∷ []) ≡ end_of p events + 1 = omega (arith, length-append events (e ∷ [])) in
    ap (positions_between (end_of p events)) more ∙ positions_one (end_of p events) ∙ ap (λ n. n ∷ []) (sym more)

pub times-append : (p : ℕ) (xs ys : List ℕ) → times p (xs ++ ys) ≡ times p xs + times p ys
times-append p xs ys = sum_by-append (λ q. cond (eqb q p) 1 0) xs ys

pub times-cons : (p x : ℕ) (xs : List ℕ) → times p (x ∷ xs) ≡ cond (eqb x p) 1 0 + times p xs
times-cons p x xs = sum_by-cons (λ q. cond (eqb q p) 1 0) x xs

-- each of the positions after p up to p + n is there once
pub times_after : (p q n : ℕ) → times q (positions_after p n) ≡ cond (nat_lt p q && nat_le q (p + n)) 1 0
times_after p q zero = grind (arith, nat_tests)
times_after p q (suc n) = let t = times_after (p + 1) q n in let c = times-cons q (p + 1) (positions_after (p + 1) n) in grind (arith, nat_tests, t, c)

pub times_between : (p q r : ℕ) → p ≤ r → times q (positions_between p r) ≡ cond (nat_lt p q && nat_le q r) 1 0
times_between p q r le = times_after p q (r - p) ∙ λ i. cond (nat_lt p q && nat_le q ((let e : p + (r - p) ≡ r = omega arith in e) i)) 1 0

-- an element of a list has elements before and after it
pub found_in : (x : ℕ) (ys : List ℕ) → 0 < times x ys → (front : List ℕ) × ((rest : List ℕ) × (ys ≡ front ++ x ∷ rest))
found_in x [] h = absurd (omega arith)
found_in x (y ∷ ys) h = dite (ℕ_discrete y x)
    (λ e. ([], (ys, λ i. e i ∷ ys)))
    (λ ne. let c = times-cons x y ys in let z : eqb y x ≡ false = ne_eqb y x ne in
    let h' : 0 < times x ys = subst (λ b. 0 < cond b 1 0 + times x ys → 0 < times x ys) (sym z) (λ k. omega arith) (subst (λ n. 0 < n) c h) in
    let r = found_in x ys h' in (y ∷ r.0, (r.1.0, λ i. y ∷ r.1.1 i)))

-- two lists that have each number equally often are one in another order
pub counts_permute : (xs ys : List ℕ) → ((p : ℕ) → times p xs ≡ times p ys) → IsPermutation xs ys
counts_permute [] [] h = IsPermutation-refl []
counts_permute [] (y ∷ ys) h = absurd (let e = h y in let c = times-cons y y ys in let t : eqb y y ≡ true = eq-eqb y y refl in
    let u : times y (y ∷ ys) ≡ 1 + times y ys = c ∙ ap (λ b. cond b 1 0 + times y ys) t in omega (arith, e, u))
counts_permute (x ∷ xs) ys h =
    let c = times-cons x x xs in let t : eqb x x ≡ true = eq-eqb x x refl in
    let u : times x (x ∷ xs) ≡ 1 + times x xs = c ∙ ap (λ b. cond b 1 0 + times x xs) t in
    let f = found_in x ys (let e = h x in omega (arith, e, u)) in
    let fewer : (p : ℕ) → times p xs ≡ times p (f.0 ++ f.1.0) = λ p.
    let a = h p in let b = times-cons p x xs in let d = ap (times p) f.1.1 in let g = times-append p f.0 (x ∷ f.1.0) in
    let k = times-cons p x f.1.0 in let l = times-append p f.0 f.1.0 in omega (arith, a, b, d, g, k, l) in
    subst (IsPermutation (x ∷ xs)) (sym f.1.1)
    (IsPermutation-trans _ _ _ (IsPermutation-cons x _ _ (counts_permute xs (f.0 ++ f.1.0) fewer)) (IsPermutation-sym _ _ (IsPermutation-middle f.0 x f.1.0)))
