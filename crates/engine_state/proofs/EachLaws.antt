-- Lists related place by place: appending an item to both, changing one item, reading the items at a place.
use Rattle.std.proofs.Common.{◌≡◌, ℕ, zero, suc, ◌+◌, ◌<◌, ◌≤◌, List, [], ◌∷◌, ◌++◌, length, set, Some, sym, refl, ap, ◌∙◌, subst, arith}
use Rattle.std.specs.List.{slice_get}
use Rattle.ts_model.specs.Roster.{change_at}
use Rattle.engine_state.specs.Lists.{Each, EachFrom}

module _ {A B : Type 0} where
  -- the lists are xs long
  pub each_length : (R : ℕ → A → B → Type 0) (i : ℕ) (xs : List A) (ys : List B) → EachFrom R i xs ys → length xs ≡ length ys
  each_length R i [] [] e = refl
  each_length R i [] (b ∷ ys) e = absurd e
  each_length R i (a ∷ xs) [] e = absurd e
  each_length R i (a ∷ xs) (b ∷ ys) e = ap suc (each_length R (suc i) xs ys e.1)

  -- what is true of each place for one reason is true for another
  pub each_map : (P Q : ℕ → A → B → Type 0) (i : ℕ) (xs : List A) (ys : List B) → ((j : ℕ) (a : A) (b : B) → P j a b → Q j a b) → EachFrom P i xs ys → EachFrom Q i xs ys
  each_map P Q i [] [] f e = tt
  each_map P Q i [] (b ∷ ys) f e = absurd e
  each_map P Q i (a ∷ xs) [] f e = absurd e
  each_map P Q i (a ∷ xs) (b ∷ ys) f e = (f i a b e.0, each_map P Q (suc i) xs ys f e.1)

  -- one more item in both
  pub each_pushed : (R : ℕ → A → B → Type 0) (i : ℕ) (xs : List A) (ys : List B) (a : A) (b : B) → EachFrom R i xs ys → R (i + length xs) a b → EachFrom R i (xs ++ (a ∷ [])) (ys ++ (b ∷ []))
  each_pushed R i [] [] a b e r = (subst (λ n. R n a b) (let n : i + 0 ≡ i = omega arith in n) r, tt)
  each_pushed R i [] (y ∷ ys) a b e r = absurd e
  each_pushed R i (x ∷ xs) [] a b e r = absurd e
  each_pushed R i (x ∷ xs) (y ∷ ys) a b e r = (e.0, each_pushed R (suc i) xs ys a b e.1 (subst (λ n. R n a b) (let n : i + suc (length xs) ≡ suc i + length xs = omega arith in n) r))

  -- an item of the first list is related to the item at the same place of the second
  pub each_from : (R : ℕ → A → B → Type 0) (i t : ℕ) (xs : List A) (ys : List B) (a : A) → EachFrom R i xs ys → slice_get xs t ≡ Some a → (b : B) × (slice_get ys t ≡ Some b) × R (i + t) a b
  each_from R i t [] [] a e is = absurd (cc)
  each_from R i t [] (y ∷ ys) a e is = absurd e
  each_from R i t (x ∷ xs) [] a e is = absurd e
  each_from R i zero (x ∷ xs) (y ∷ ys) a e is =
      let same : x ≡ a = cc in
      (y, refl, subst (λ n. R n a y) (let n : i ≡ i + 0 = omega arith in n) (subst (λ z. R i z y) same e.0))
  each_from R i (suc t) (x ∷ xs) (y ∷ ys) a e is =
      let rest = each_from R (suc i) t xs ys a e.1 is in
      (rest.0, rest.1, subst (λ n. R n a rest.0) (let n : suc i + t ≡ i + suc t = omega arith in n) rest.2)

  pub each_at : (R : ℕ → A → B → Type 0) (t : ℕ) (xs : List A) (ys : List B) (a : A) → Each R xs ys → slice_get xs t ≡ Some a → (b : B) × (slice_get ys t ≡ Some b) × R t a b
  each_at R t xs ys a e is =
      let found = each_from R 0 t xs ys a e is in
      (found.0, found.1, subst (λ n. R n a found.0) (let n : 0 + t ≡ t = omega arith in n) found.2)

  -- and conversely
  pub each_to : (R : ℕ → A → B → Type 0) (i t : ℕ) (xs : List A) (ys : List B) (b : B) → EachFrom R i xs ys → slice_get ys t ≡ Some b → (a : A) × (slice_get xs t ≡ Some a) × R (i + t) a b
  each_to R i t [] [] b e is = absurd (cc)
  each_to R i t [] (y ∷ ys) b e is = absurd e
  each_to R i t (x ∷ xs) [] b e is = absurd e
  each_to R i zero (x ∷ xs) (y ∷ ys) b e is =
      let same : y ≡ b = cc in
      (x, refl, subst (λ n. R n x b) (let n : i ≡ i + 0 = omega arith in n) (subst (λ z. R i x z) same e.0))
  each_to R i (suc t) (x ∷ xs) (y ∷ ys) b e is =
      let rest = each_to R (suc i) t xs ys b e.1 is in
      (rest.0, rest.1, subst (λ n. R n rest.0 b) (let n : suc i + t ≡ i + suc t = omega arith in n) rest.2)

  pub each_of : (R : ℕ → A → B → Type 0) (t : ℕ) (xs : List A) (ys : List B) (b : B) → Each R xs ys → slice_get ys t ≡ Some b → (a : A) × (slice_get xs t ≡ Some a) × R t a b
  each_of R t xs ys b e is =
      let found = each_to R 0 t xs ys b e is in
      (found.0, found.1, subst (λ n. R n found.0 b) (let n : 0 + t ≡ t = omega arith in n) found.2)

  -- one item of the second list is changed
  pub each_set : (P Q : ℕ → A → B → Type 0) (i t : ℕ) (xs : List A) (ys : List B) (new : B) → ((j : ℕ) (a : A) (b : B) → (j ≡ i + t → ⊥) → P j a b → Q j a b) → ((a : A) → slice_get xs t ≡ Some a → Q (i + t) a new) → EachFrom P i xs ys → EachFrom Q i xs (set ys t new)
  each_set P Q i t [] [] new other this e = tt
  each_set P Q i t [] (y ∷ ys) new other this e = absurd e
  each_set P Q i t (x ∷ xs) [] new other this e = absurd e
  each_set P Q i zero (x ∷ xs) (y ∷ ys) new other this e =
      (subst (λ n. Q n x new) (let n : i + 0 ≡ i = omega arith in n) (this x refl), rest (suc i) xs ys (omega arith) e.1)
    where
      rest : (k : ℕ) (xs : List A) (ys : List B) → suc i ≤ k → EachFrom P k xs ys → EachFrom Q k xs ys
      rest k [] [] l e = tt
      rest k [] (y ∷ ys) l e = absurd e
      rest k (x ∷ xs) [] l e = absurd e
      rest k (x ∷ xs) (y ∷ ys) l e = (other k x y (λ is. let n : k ≡ i + 0 = is in omega arith) e.0, rest (suc k) xs ys (omega arith) e.1)
  each_set P Q i (suc t) (x ∷ xs) (y ∷ ys) new other this e = (
    other i x y (λ is. let n : i ≡ i + suc t = is in omega arith) e.0,
    each_set P Q (suc i) t xs ys new
        (λ j a b differs p. other j a b (λ is. differs (let n : i + suc t ≡ suc i + t = omega arith in is ∙ n)) p)
        (λ a is. subst (λ n. Q n a new) (let n : i + suc t ≡ suc i + t = omega arith in n) (this a is)) e.1,
  )

  pub each_set_at : (P Q : ℕ → A → B → Type 0) (t : ℕ) (xs : List A) (ys : List B) (new : B) → ((j : ℕ) (a : A) (b : B) → (j ≡ t → ⊥) → P j a b → Q j a b) → ((a : A) → slice_get xs t ≡ Some a → Q t a new) → Each P xs ys → Each Q xs (set ys t new)
  each_set_at P Q t xs ys new other this e =
      let start : 0 + t ≡ t = omega arith in
      each_set P Q 0 t xs ys new (λ j a b differs p. other j a b (λ is. differs (is ∙ sym start)) p) (λ a is. subst (λ n. Q n a new) (sym start) (this a is)) e

  -- one item of the first list is changed, if it exists
  pub each_changed : (P Q : ℕ → A → B → Type 0) (i t : ℕ) (xs : List A) (ys : List B) (f : A → A) → ((j : ℕ) (a : A) (b : B) → P j a b → Q j a b) → ((a : A) (b : B) → slice_get xs t ≡ Some a → slice_get ys t ≡ Some b → P (i + t) a b → Q (i + t) (f a) b) → EachFrom P i xs ys → EachFrom Q i (change_at xs t f) ys
  each_changed P Q i t [] [] f other this e = tt
  each_changed P Q i t [] (y ∷ ys) f other this e = absurd e
  each_changed P Q i t (x ∷ xs) [] f other this e = absurd e
  each_changed P Q i zero (x ∷ xs) (y ∷ ys) f other this e =
      let start : i + 0 ≡ i = omega arith in
      (subst (λ n. Q n (f x) y) start (this x y refl refl (subst (λ n. P n x y) (sym start) e.0)), each_map P Q (suc i) xs ys other e.1)
  each_changed P Q i (suc t) (x ∷ xs) (y ∷ ys) f other this e =
      let next : i + suc t ≡ suc i + t = omega arith in
      (other i x y e.0, each_changed P Q (suc i) t xs ys f other (λ a b a_is b_is p. subst (λ n. Q n (f a) b) next (this a b a_is b_is (subst (λ n. P n a b) (sym next) p))) e.1)

  pub each_changed_at : (P Q : ℕ → A → B → Type 0) (t : ℕ) (xs : List A) (ys : List B) (f : A → A) → ((j : ℕ) (a : A) (b : B) → P j a b → Q j a b) → ((a : A) (b : B) → slice_get xs t ≡ Some a → slice_get ys t ≡ Some b → P t a b → Q t (f a) b) → Each P xs ys → Each Q (change_at xs t f) ys
  each_changed_at P Q t xs ys f other this e =
      let start : 0 + t ≡ t = omega arith in
      each_changed P Q 0 t xs ys f other (λ a b a_is b_is p. subst (λ n. Q n (f a) b) (sym start) (this a b a_is b_is (subst (λ n. P n a b) start p))) e

-- through a list between
pub each_through : {A B C : Type 0} (P : ℕ → A → B → Type 0) (Q : ℕ → B → C → Type 0) (R : ℕ → A → C → Type 0) (i : ℕ) (xs : List A) (ys : List B) (zs : List C) → ((j : ℕ) (a : A) (b : B) (c : C) → P j a b → Q j b c → R j a c) → EachFrom P i xs ys → EachFrom Q i ys zs → EachFrom R i xs zs
each_through P Q R i [] [] [] f p q = tt
each_through P Q R i [] [] (c ∷ zs) f p q = absurd q
each_through P Q R i [] (b ∷ ys) zs f p q = absurd p
each_through P Q R i (a ∷ xs) [] zs f p q = absurd p
each_through P Q R i (a ∷ xs) (b ∷ ys) [] f p q = absurd q
each_through P Q R i (a ∷ xs) (b ∷ ys) (c ∷ zs) f p q = (f i a b c p.0 q.0, each_through P Q R (suc i) xs ys zs f p.1 q.1)

module _ {A B : Type 0} where
  -- what is true of each existing place for one reason is true for another
  pub each_map_below : (P Q : ℕ → A → B → Type 0) (i : ℕ) (xs : List A) (ys : List B) → ((j : ℕ) (a : A) (b : B) → j < i + length xs → P j a b → Q j a b) → EachFrom P i xs ys → EachFrom Q i xs ys
  each_map_below P Q i [] [] f e = tt
  each_map_below P Q i [] (y ∷ ys) f e = absurd e
  each_map_below P Q i (x ∷ xs) [] f e = absurd e
  each_map_below P Q i (x ∷ xs) (y ∷ ys) f e = (f i x y (omega arith) e.0, each_map_below P Q (suc i) xs ys (λ j a b l p. f j a b (omega (arith, l)) p) e.1)

  -- one item of both is changed
  pub each_both : (P Q : ℕ → A → B → Type 0) (i t : ℕ) (xs : List A) (ys : List B) (f : A → A) (new : B) → ((j : ℕ) (a : A) (b : B) → P j a b → Q j a b) → ((a : A) → slice_get xs t ≡ Some a → Q (i + t) (f a) new) → EachFrom P i xs ys → EachFrom Q i (change_at xs t f) (set ys t new)
  each_both P Q i t [] [] f new other this e = tt
  each_both P Q i t [] (y ∷ ys) f new other this e = absurd e
  each_both P Q i t (x ∷ xs) [] f new other this e = absurd e
  each_both P Q i zero (x ∷ xs) (y ∷ ys) f new other this e =
      let start : i + 0 ≡ i = omega arith in
      (subst (λ n. Q n (f x) new) start (this x refl), each_map P Q (suc i) xs ys other e.1)
  each_both P Q i (suc t) (x ∷ xs) (y ∷ ys) f new other this e =
      let next : i + suc t ≡ suc i + t = omega arith in
      (other i x y e.0, each_both P Q (suc i) t xs ys f new other (λ a is. subst (λ n. Q n (f a) new) next (this a is)) e.1)

  pub each_both_at : (P Q : ℕ → A → B → Type 0) (t : ℕ) (xs : List A) (ys : List B) (f : A → A) (new : B) → ((j : ℕ) (a : A) (b : B) → P j a b → Q j a b) → ((a : A) → slice_get xs t ≡ Some a → Q t (f a) new) → Each P xs ys → Each Q (change_at xs t f) (set ys t new)
  each_both_at P Q t xs ys f new other this e =
      let start : 0 + t ≡ t = omega arith in
      each_both P Q 0 t xs ys f new other (λ a is. subst (λ n. Q n (f a) new) (sym start) (this a is)) e

  -- two relations between the same lists
  pub each_joined : {C : Type 0} (P : ℕ → A → B → Type 0) (Q : ℕ → B → C → Type 0) (R : ℕ → A → C → Type 0) (xs : List A) (ys : List B) (zs : List C) → ((j : ℕ) (a : A) (b : B) (c : C) → P j a b → Q j b c → R j a c) → Each P xs ys → Each Q ys zs → Each R xs zs
  each_joined P Q R xs ys zs f p q = each_through P Q R 0 xs ys zs f p q

-- the same relation, which also says that each item of the first list is at its place
append_one : {A : Type 0} (ws : List A) (x : A) (xs : List A) → (ws ++ (x ∷ [])) ++ xs ≡ ws ++ (x ∷ xs)
append_one [] x xs = refl
append_one (w ∷ ws) x xs = ap (λ zs. w ∷ zs) (append_one ws x xs)

length_one : {A : Type 0} (ws : List A) (x : A) → length (ws ++ (x ∷ [])) ≡ suc (length ws)
length_one [] x = refl
length_one (w ∷ ws) x = ap suc (length_one ws x)

get_after : {A : Type 0} (ws : List A) (x : A) (xs : List A) → slice_get (ws ++ (x ∷ xs)) (length ws) ≡ Some x
get_after [] x xs = refl
get_after (w ∷ ws) x xs = get_after ws x xs

each_placed_from : {A B : Type 0} (P : ℕ → A → B → Type 0) (ws xs : List A) (ys : List B) → EachFrom P (length ws) xs ys → EachFrom (λ j a b. (slice_get (ws ++ xs) j ≡ Some a) × P j a b) (length ws) xs ys
each_placed_from P ws [] [] e = tt
each_placed_from P ws [] (y ∷ ys) e = absurd e
each_placed_from P ws (x ∷ xs) [] e = absurd e
each_placed_from {A} {B} P ws (x ∷ xs) (y ∷ ys) e =
    let Q : List A → ℕ → Type 0 = λ all k. EachFrom (λ j a b. (slice_get all j ≡ Some a) × P j a b) k xs ys in
    let rest = each_placed_from P (ws ++ (x ∷ [])) xs ys (subst (λ k. EachFrom P k xs ys) (sym (length_one ws x)) e.1) in
    ((get_after ws x xs, e.0), subst (λ all. Q all (suc (length ws))) (append_one ws x xs) (subst (λ k. Q ((ws ++ (x ∷ [])) ++ xs) k) (length_one ws x) rest))

pub each_placed : {A B : Type 0} (P : ℕ → A → B → Type 0) (xs : List A) (ys : List B) → Each P xs ys → Each (λ j a b. (slice_get xs j ≡ Some a) × P j a b) xs ys
each_placed P xs ys e = each_placed_from P [] xs ys e
