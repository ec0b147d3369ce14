-- Lists that begin others, lists read by `get_elem?`, and sums over them.
use Rattle.std.proofs.Common.{◌≡◌, ◌≢◌, ℕ, zero, suc, ◌+◌, ◌<◌, ◌≤◌, List, [], ◌∷◌, ◌++◌, length, get_or, set, sum_by, refl, sym, ap, ◌∙◌, subst, ⊎_elim, arith, append_assoc, append-nil, length-append}
use Rattle.std.proofs.lemmas.List.Sums.{sum_by-cons}
use mathlib.Core.Option.{some, some-injective, some-ne-none}
use mathlib.Core.List.{IsPrefix}
use lib.ListN.{get_elem?}
use Rattle.atomic_table.proofs.Lists.{at_set, set_here}

pub set_same : (ns : List ℕ) (i : ℕ) → set ns i (get_or ns i 0) ≡ ns
set_same [] i = refl
set_same (n ∷ ns) zero = refl
set_same (n ∷ ns) (suc i) = λ j. n ∷ set_same ns i j

module _ {A : Type 0} where
  pub prefix_self : (xs : List A) → IsPrefix xs xs
  prefix_self xs = ([], append-nil xs)

  pub prefix_none : (xs : List A) → IsPrefix [] xs
  prefix_none xs = (xs, refl)

  pub prefix_then : (xs ys zs : List A) → IsPrefix xs ys → IsPrefix ys zs → IsPrefix xs zs
  prefix_then xs ys zs p q = (p.0 ++ q.0, sym (append_assoc xs p.0 q.0) ∙ ap (λ l. l ++ q.0) p.1 ∙ q.1)

  pub prefix_length : (xs ys : List A) → IsPrefix xs ys → length xs ≤ length ys
  prefix_length xs ys p = let e = ap length p.1 in omega (arith, length-append xs p.0, e)

  prefix_tail : (x y : A) (xs ys zs : List A) → (x ∷ xs) ++ zs ≡ y ∷ ys → (x ≡ y) × (xs ++ zs ≡ ys)
  prefix_tail x y xs ys zs e = (cc, cc)

  -- of two prefixes of one list the shorter begins the other
  pub prefix_shorter : (xs ys zs : List A) → IsPrefix xs zs → IsPrefix ys zs → length xs ≤ length ys → IsPrefix xs ys
  prefix_shorter [] ys zs p q le = prefix_none ys
  prefix_shorter (x ∷ xs) [] zs p q le = absurd (omega arith)
  prefix_shorter (x ∷ xs) (y ∷ ys) [] p q le = absurd (let e : x ∷ (xs ++ p.0) ≡ [] = p.1 in cc)
  prefix_shorter (x ∷ xs) (y ∷ ys) (z ∷ zs) p q le =
      let a = prefix_tail x z xs zs p.0 p.1 in let b = prefix_tail y z ys zs q.0 q.1 in
      let rest = prefix_shorter xs ys zs (p.0, a.1) (q.0, b.1) (omega arith) in
      (rest.0, λ k. (a.0 ∙ sym b.0) k ∷ rest.1 k)

  -- a prefix that is as long is the whole
  pub prefix_whole : (xs ys : List A) → IsPrefix xs ys → length ys ≤ length xs → xs ≡ ys
  prefix_whole xs ys p le = let q = prefix_shorter ys xs ys (prefix_self ys) p le in both p.0 p.1 q
    where
      both : (rest : List A) → xs ++ rest ≡ ys → IsPrefix ys xs → xs ≡ ys
      both [] e q = sym (append-nil xs) ∙ e
      both (r ∷ rest) e q = absurd (let l = ap length e in let m = prefix_length ys xs q in omega (arith, length-append xs (r ∷ rest), l, m))

  pub one_at : (vs : List A) (i : ℕ) (v w : A) → get_elem? vs i ≡ some v → get_elem? vs i ≡ some w → v ≡ w
  one_at vs i v w a b = some-injective v w (sym a ∙ b)

  pub within : (vs : List A) (i : ℕ) (v : A) → get_elem? vs i ≡ some v → i < length vs
  within [] i v e = absurd (some-ne-none v (sym e))
  within (x ∷ xs) zero v e = omega arith
  within (x ∷ xs) (suc i) v e = let h = within xs i v e in omega arith

  pub set_at : (vs : List A) (i : ℕ) (v w : A) → get_elem? vs i ≡ some v → get_elem? (set vs i w) i ≡ some w
  set_at vs i v w e = set_here vs i w (within vs i v e)

  -- what is true of the value set, and of each other value, is true of all
  pub all_set : (P : ℕ → A → Type 0) (vs : List A) (i : ℕ) (w : A) → P i w → ((j : ℕ) (u : A) → j ≢ i → get_elem? vs j ≡ some u → P j u)
      → (j : ℕ) (u : A) → get_elem? (set vs i w) j ≡ some u → P j u
  all_set P vs i w this others j u e = ⊎_elim (λ t. subst (λ (k : ℕ). P k u) (sym t.0) (subst (P i) t.1 this)) (λ t. others j u t.0 t.1) (at_set vs i j w u e)

  pub only_one : (x : A) (j : ℕ) (v : A) → get_elem? (x ∷ []) j ≡ some v → x ≡ v
  only_one x zero v e = some-injective x v e
  only_one x (suc j) v e = absurd (some-ne-none v (sym e))

  module _ (f : A → ℕ) where
    pub sum_set : (vs : List A) (i : ℕ) (v w : A) → get_elem? vs i ≡ some v → sum_by f (set vs i w) + f v ≡ sum_by f vs + f w
    sum_set [] i v w e = absurd (some-ne-none v (sym e))
    sum_set (x ∷ xs) zero v w e = let s = ap f (some-injective x v e) in omega (arith, sum_by-cons f w xs, sum_by-cons f x xs, s)
    sum_set (x ∷ xs) (suc i) v w e = let s = sum_set xs i v w e in omega (arith, sum_by-cons f x (set xs i w), sum_by-cons f x xs, s)

    pub sum_at : (vs : List A) (i : ℕ) (v : A) → get_elem? vs i ≡ some v → f v ≤ sum_by f vs
    sum_at [] i v e = absurd (some-ne-none v (sym e))
    sum_at (x ∷ xs) zero v e = let s = ap f (some-injective x v e) in omega (arith, sum_by-cons f x xs, s)
    sum_at (x ∷ xs) (suc i) v e = let s = sum_at xs i v e in omega (arith, sum_by-cons f x xs, s)

    pub sum_two : (vs : List A) (i j : ℕ) (v w : A) → get_elem? vs i ≡ some v → get_elem? vs j ≡ some w → j ≢ i → f v + f w ≤ sum_by f vs
    sum_two [] i j v w a b ne = absurd (some-ne-none v (sym a))
    sum_two (x ∷ xs) zero zero v w a b ne = absurd (ne refl)
    sum_two (x ∷ xs) zero (suc j) v w a b ne = let s = ap f (some-injective x v a) in let t = sum_at xs j w b in omega (arith, sum_by-cons f x xs, s, t)
    sum_two (x ∷ xs) (suc i) zero v w a b ne = let s = ap f (some-injective x w b) in let t = sum_at xs i v a in omega (arith, sum_by-cons f x xs, s, t)
    sum_two (x ∷ xs) (suc i) (suc j) v w a b ne = let t = sum_two xs i j v w a b (λ e. ne (ap suc e)) in omega (arith, sum_by-cons f x xs, t)

    sum_none : (vs : List A) → ((j : ℕ) (u : A) → get_elem? vs j ≡ some u → f u ≡ 0) → sum_by f vs ≡ 0
    sum_none [] none = refl
    sum_none (x ∷ xs) none = let s = none 0 x refl in let t = sum_none xs (λ j u e. none (suc j) u e) in omega (arith, sum_by-cons f x xs, s, t)

    pub sum_only : (vs : List A) (i : ℕ) (v : A) → get_elem? vs i ≡ some v → ((j : ℕ) (u : A) → j ≢ i → get_elem? vs j ≡ some u → f u ≡ 0) → sum_by f vs ≡ f v
    sum_only [] i v e none = absurd (some-ne-none v (sym e))
    sum_only (x ∷ xs) zero v e none =
        let s = ap f (some-injective x v e) in let t = sum_none xs (λ j u a. none (suc j) u (λ z. absurd (omega arith)) a) in omega (arith, sum_by-cons f x xs, s, t)
    sum_only (x ∷ xs) (suc i) v e none =
        let s = none 0 x (λ z. absurd (omega arith)) refl in let t = sum_only xs i v e (λ j u ne a. none (suc j) u (λ z. ne (omega arith)) a) in omega (arith, sum_by-cons f x xs, s, t)
