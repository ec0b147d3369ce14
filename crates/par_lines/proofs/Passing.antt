-- Which items of a list pass a test.
use Rattle.std.proofs.Common.{◌≡◌, ℕ, zero, suc, ◌<◌, ◌≤◌, Bool, true, false, cond, not, ◌||◌, List, [], ◌∷◌, ◌++◌, length, get_or, take, drop, map, Some, None, refl, sym, ap, ◌∙◌, true≢false, ltb, arith}
use Rattle.std.specs.List.{filter, list_any, position, position_or_len}
use Rattle.std.proofs.lemmas.Bool.{ltb-false}
use Rattle.std.proofs.lemmas.List.Folds.{list_any_at, list_any_none}
use Rattle.std.proofs.lemmas.List.Sums.{fails_before_first}

module _ {X : Type 0} (test : X → Bool) where
  -- ---- whether one passes

  -- if no index is found, no item passes
  pub position_none : (xs : List X) → position test xs ≡ None → list_any test xs ≡ false
  position_none xs none =
      let many = by (ltb (position_or_len test xs) (length xs)) refl none in
      list_any_none test xs (λ k d l. fails_before_first test xs k d (omega (arith, many)))
    where
      by : (b : Bool) → ltb (position_or_len test xs) (length xs) ≡ b → cond b (Some (position_or_len test xs)) None ≡ None → length xs ≤ position_or_len test xs
      by true less some = absurd cc
      by false less none = ltb-false (position_or_len test xs) (length xs) less

  -- if no item passes, the one at an index doesn't
  pub none_at : (xs : List X) → list_any test xs ≡ false → (k : ℕ) (d : X) → k < length xs → test (get_or xs k d) ≡ false
  none_at xs none k d l = by (test (get_or xs k d)) refl
    where
      by : (b : Bool) → test (get_or xs k d) ≡ b → b ≡ false
      by true passes = sym (list_any_at test xs k d l passes) ∙ none
      by false fails = refl

  -- ---- those that pass, and the others

  abbrev fails : X → Bool
  fails x = not (test x)

  filter_step : (b : Bool) (x : X) (xs : List X) → test x ≡ b → filter test (x ∷ xs) ≡ cond b (x ∷ filter test xs) (filter test xs)
  filter_step b x xs e = ap (λ b. cond b (x ∷ filter test xs) (filter test xs)) e

  others_step : (b : Bool) (x : X) (xs : List X) → test x ≡ b → filter fails (x ∷ xs) ≡ cond (not b) (x ∷ filter fails xs) (filter fails xs)
  others_step b x xs e = ap (λ b. cond (not b) (x ∷ filter fails xs) (filter fails xs)) e

  -- no item passes
  pub record NonePasses (xs : List X) : Type 0 where
    pub passing : filter test xs ≡ []
    pub others : filter fails xs ≡ xs

  pub none_passes : (xs : List X) → list_any test xs ≡ false → NonePasses xs
  none_passes [] none = record { passing = refl; others = refl }
  none_passes (x ∷ xs) none = by (test x) refl none (none_passes xs)
    where
      by : (b : Bool) → test x ≡ b → (b || list_any test xs) ≡ false → (list_any test xs ≡ false → NonePasses xs) → NonePasses (x ∷ xs)
      by true e none rest = absurd (true≢false none)
      by false e none rest = record { passing = filter_step false x xs e ∙ (rest none).passing; others = others_step false x xs e ∙ ap (λ l. x ∷ l) (rest none).others }

  -- only the item at an index passes
  pub record OnePasses (xs : List X) (i : ℕ) (x : X) : Type 0 where
    pub passing : filter test xs ≡ x ∷ []
    pub others : filter fails xs ≡ take i xs ++ drop (suc i) xs

  pub one_passes : (xs : List X) (i : ℕ) (x : X) → i < length xs → x ≡ get_or xs i x → test x ≡ true → ((k : ℕ) → k < i → test (get_or xs k x) ≡ false)
      → ((k : ℕ) (d : X) → i < k → k < length xs → test (get_or xs k d) ≡ false) → OnePasses xs i x
  one_passes [] i x within at passes before after = absurd (omega arith)
  one_passes (y ∷ xs) zero x within at passes before after =
      let first : test y ≡ true = ap test (sym at) ∙ passes in
      let rest = none_passes xs (list_any_none test xs (λ k d l. after (suc k) d (omega arith) (omega arith))) in
      record { passing = filter_step true y xs first ∙ (λ i. sym at i ∷ rest.passing i); others = others_step true y xs first ∙ rest.others }
  one_passes (y ∷ xs) (suc i) x within at passes before after =
      let first : test y ≡ false = before 0 (omega arith) in
      let rest = one_passes xs i x (omega arith) at passes (λ k l. before (suc k) (omega arith)) (λ k d l m. after (suc k) d (omega arith) (omega arith)) in
      record { passing = filter_step false y xs first ∙ rest.passing; others = others_step false y xs first ∙ ap (λ l. y ∷ l) rest.others }

-- ---- two tests

module _ {X : Type 0} (p q : X → Bool) where
  -- of the items that fail one test, those that fail another too
  pub others_twice : (xs : List X) → filter (fails q) (filter (fails p) xs) ≡ filter (λ x. not (p x || q x)) xs
  others_twice [] = refl
  others_twice (x ∷ xs) = by (p x) (q x) refl refl (others_twice xs)
    where
      by : (a b : Bool) → p x ≡ a → q x ≡ b → filter (fails q) (filter (fails p) xs) ≡ filter (λ x. not (p x || q x)) xs
          → filter (fails q) (filter (fails p) (x ∷ xs)) ≡ filter (λ x. not (p x || q x)) (x ∷ xs)
      by true b e f rest = ap (filter (fails q)) (others_step p true x xs e) ∙ rest ∙ sym (ap (λ a. cond (not (a || q x)) (x ∷ filter (λ x. not (p x || q x)) xs) (filter (λ x. not (p x || q x)) xs)) e)
      by false true e f rest =
          ap (filter (fails q)) (others_step p false x xs e) ∙ others_step q true x (filter (fails p) xs) f ∙ rest
          ∙ sym (λ i. cond (not (e i || f i)) (x ∷ filter (λ x. not (p x || q x)) xs) (filter (λ x. not (p x || q x)) xs))
      by false false e f rest =
          ap (filter (fails q)) (others_step p false x xs e) ∙ others_step q false x (filter (fails p) xs) f ∙ ap (λ l. x ∷ l) rest
          ∙ sym (λ i. cond (not (e i || f i)) (x ∷ filter (λ x. not (p x || q x)) xs) (filter (λ x. not (p x || q x)) xs))

  -- if no item passes both tests, removing those that pass one keeps those that pass the other
  pub passing_others : ((x : X) → q x ≡ true → p x ≡ false) → (xs : List X) → filter q (filter (fails p) xs) ≡ filter q xs
  passing_others apart [] = refl
  passing_others apart (x ∷ xs) = by (p x) (q x) refl refl (passing_others apart xs)
    where
      by : (a b : Bool) → p x ≡ a → q x ≡ b → filter q (filter (fails p) xs) ≡ filter q xs → filter q (filter (fails p) (x ∷ xs)) ≡ filter q (x ∷ xs)
      by true true e f rest = absurd (true≢false (sym e ∙ apart x f))
      by true false e f rest = ap (filter q) (others_step p true x xs e) ∙ rest ∙ sym (filter_step q false x xs f)
      by false b e f rest =
          ap (filter q) (others_step p false x xs e) ∙ filter_step q b x (filter (fails p) xs) f ∙ (λ i. cond b (x ∷ rest i) (rest i))
          ∙ sym (filter_step q b x xs f)

-- ---- a test of mapped items

module _ {X Y : Type 0} (f : X → Y) (test : Y → Bool) where
  pub filter_mapped : (xs : List X) → map f (filter (λ x. test (f x)) xs) ≡ filter test (map f xs)
  filter_mapped [] = refl
  filter_mapped (x ∷ xs) = by (test (f x)) refl (filter_mapped xs)
    where
      by : (b : Bool) → test (f x) ≡ b → map f (filter (λ x. test (f x)) xs) ≡ filter test (map f xs) → map f (filter (λ x. test (f x)) (x ∷ xs)) ≡ filter test (map f (x ∷ xs))
      by true e rest = ap (map f) (filter_step (λ x. test (f x)) true x xs e) ∙ ap (λ l. f x ∷ l) rest ∙ sym (filter_step test true (f x) (map f xs) e)
      by false e rest = ap (map f) (filter_step (λ x. test (f x)) false x xs e) ∙ rest ∙ sym (filter_step test false (f x) (map f xs) e)

  pub any_mapped : (xs : List X) → list_any test (map f xs) ≡ list_any (λ x. test (f x)) xs
  any_mapped [] = refl
  any_mapped (x ∷ xs) = ap (λ b. test (f x) || b) (any_mapped xs)
