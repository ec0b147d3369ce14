-- The keys of a list, each once, in order: their order, and which keys occur.
use Rattle.std.proofs.Common.{◌≡◌, Bool, true, false, ◌||◌, List, [], ◌∷◌, ◌++◌, map, refl, ap, ◌∙◌}
use Rattle.std.specs.List.{AllByRecursion, list_any, flat_map}
use Rattle.std.specs.List.Sorted.{IsStrictlySortedBy}
use Rattle.std.specs.Cmp.{IsTotalOrder}
use Rattle.std.specs.BTreeSet.{insert_key}
use Rattle.std.specs.Ordering.{ordering_reverse, is_eq}
use Rattle.std.specs.declared.cmp.Ordering.{Ordering}
use Rattle.std.specs.declared.cmp.Ordering.TheVariants.{Less, Equal, Greater}
use Rattle.std.proofs.lemmas.Cmp.{alike_right}
use Rattle.ts_model.specs.Scratch.{once}
use Rattle.group_fold.proofs.Insertions.{by_order}
use Rattle.ts_schema.proofs.Cases.{all_weaker, or_swapped}

-- ---- facts of each element

pub all-append : {X : Type 0} (P : X → Type 0) (xs ys : List X) → AllByRecursion P xs → AllByRecursion P ys → AllByRecursion P (xs ++ ys)
all-append P [] ys h k = k
all-append P (x ∷ xs) ys h k = (h.0, all-append P xs ys h.1 k)

pub all-map : {X Y : Type 0} (P : Y → Type 0) (f : X → Y) → ((x : X) → P (f x)) → (xs : List X) → AllByRecursion P (map f xs)
all-map P f h [] = tt
all-map P f h (x ∷ xs) = (h x, all-map P f h xs)

pub all-flat_map : {X Y : Type 0} (P : X → Type 0) (Q : Y → Type 0) (f : X → List Y) → ((x : X) → P x → AllByRecursion Q (f x)) → (xs : List X) → AllByRecursion P xs → AllByRecursion Q (flat_map f xs)
all-flat_map P Q f h [] k = tt
all-flat_map P Q f h (x ∷ xs) k = all-append Q (f x) (flat_map f xs) (h x k.0) (all-flat_map P Q f h xs k.1)

pub map-same : {X Y : Type 0} (f g : X → Y) (xs : List X) → AllByRecursion (λ x. f x ≡ g x) xs → map f xs ≡ map g xs
map-same f g [] h = refl
map-same f g (x ∷ xs) h = ap (λ y. y ∷ map f xs) h.0 ∙ ap (λ ys. g x ∷ ys) (map-same f g xs h.1)

pub flat_map-same : {X Y : Type 0} (f g : X → List Y) (xs : List X) → AllByRecursion (λ x. f x ≡ g x) xs → flat_map f xs ≡ flat_map g xs
flat_map-same f g [] h = refl
flat_map-same f g (x ∷ xs) h = ap (λ ys. ys ++ flat_map f xs) h.0 ∙ ap (λ ys. g x ++ ys) (flat_map-same f g xs h.1)

pub none_from_all : {X : Type 0} (test : X → Bool) (xs : List X) → AllByRecursion (λ x. test x ≡ false) xs → list_any test xs ≡ false
none_from_all test [] h = refl
none_from_all test (x ∷ xs) h = rw h.0 (none_from_all test xs h.1)

-- ---- ties

is_eq-reverse : (o : Ordering) → is_eq (ordering_reverse o) ≡ is_eq o
is_eq-reverse Less = refl
is_eq-reverse Equal = refl
is_eq-reverse Greater = refl

pub not_eq-less : (o : Ordering) → o ≡ Less → is_eq o ≡ false
not_eq-less o e = rw e refl

pub not_eq-greater : (o : Ordering) → o ≡ Greater → is_eq o ≡ false
not_eq-greater o e = rw e refl

-- ---- a key inserted in its place

module _ {K : Type 0} (cmp : K → K → Ordering) (total : IsTotalOrder cmp) where
  pub is_eq-swap : (x y : K) → is_eq (cmp x y) ≡ is_eq (cmp y x)
  is_eq-swap x y = ap is_eq (total.antisymm x y) ∙ is_eq-reverse (cmp y x)

  pub all_above : (k x : K) (xs : List K) → cmp k x ≡ Less → AllByRecursion (λ y. cmp x y ≡ Less) xs → AllByRecursion (λ y. cmp k y ≡ Less) xs
  all_above k x xs e h = all_weaker (λ y. cmp x y ≡ Less) (λ y. cmp k y ≡ Less) (λ y p. total.trans k x y e p) xs h

  pub all_above_tied : (k x : K) (xs : List K) → cmp k x ≡ Equal → AllByRecursion (λ y. cmp x y ≡ Less) xs → AllByRecursion (λ y. cmp k y ≡ Less) xs
  all_above_tied k x xs e h = all_weaker (λ y. cmp x y ≡ Less) (λ y. cmp k y ≡ Less) (λ y p. total.congr k x y e ∙ p) xs h

  pub all_untied : (k : K) (xs : List K) → AllByRecursion (λ y. cmp k y ≡ Less) xs → AllByRecursion (λ y. is_eq (cmp k y) ≡ false) xs
  all_untied k xs h = all_weaker (λ y. cmp k y ≡ Less) (λ y. is_eq (cmp k y) ≡ false) (λ y p. not_eq-less (cmp k y) p) xs h

  pub key_less : (k x : K) (xs : List K) → cmp k x ≡ Less → insert_key cmp (x ∷ xs) k ≡ k ∷ x ∷ xs
  key_less k x xs e = rw e refl

  pub key_equal : (k x : K) (xs : List K) → cmp k x ≡ Equal → insert_key cmp (x ∷ xs) k ≡ x ∷ xs
  key_equal k x xs e = rw e refl

  pub key_greater : (k x : K) (xs : List K) → cmp k x ≡ Greater → insert_key cmp (x ∷ xs) k ≡ x ∷ insert_key cmp xs k
  key_greater k x xs e = rw e refl

  pub all-insert_key : (P : K → Type 0) (xs : List K) (k : K) → AllByRecursion P xs → P k → AllByRecursion P (insert_key cmp xs k)
  all-insert_key P [] k h p = (p, tt)
  all-insert_key P (x ∷ xs) k h p =
      by_order (cmp k x)
      (λ e. rw e (p, h))
      (λ e. rw e h)
      (λ e. rw e (h.0, all-insert_key P xs k h.1 p))

  pub sorted-insert_key : (xs : List K) (k : K) → IsStrictlySortedBy cmp xs → IsStrictlySortedBy cmp (insert_key cmp xs k)
  unfolding IsStrictlySortedBy
  sorted-insert_key [] k h = (tt, tt)
  sorted-insert_key (x ∷ xs) k h =
      by_order (cmp k x)
      (λ e. rw e ((e, all_above k x xs e h.0), h))
      (λ e. rw e h)
      (λ e.
      let below : cmp x k ≡ Less = total.antisymm x k ∙ ap ordering_reverse e in
      rw e (all-insert_key (λ y. cmp x y ≡ Less) xs k h.0 below, sorted-insert_key xs k h.1))

  pub sorted-once : (ks : List K) → IsStrictlySortedBy cmp (once cmp ks)
  unfolding IsStrictlySortedBy
  sorted-once [] = tt
  sorted-once (k ∷ ks) = sorted-insert_key (once cmp ks) k (sorted-once ks)

  pub all-once : (P : K → Type 0) (ks : List K) → AllByRecursion P ks → AllByRecursion P (once cmp ks)
  all-once P [] h = tt
  all-once P (k ∷ ks) h = all-insert_key P (once cmp ks) k (all-once P ks h.1) h.0

  -- a key that none of them ties occurs in neither list
  any-insert_key : (j : K) (xs : List K) (k : K) → list_any (λ x. is_eq (cmp j x)) (insert_key cmp xs k) ≡ (is_eq (cmp j k) || list_any (λ x. is_eq (cmp j x)) xs)
  any-insert_key j [] k = refl
  any-insert_key j (x ∷ xs) k =
      by_order (cmp k x)
      (λ e. rw e refl)
      (λ e.
      let alike : cmp j k ≡ cmp j x = alike_right total k x j e in
      rw (e, alike) (twice (is_eq (cmp j x)) (list_any (λ x. is_eq (cmp j x)) xs)))
      (λ e. rw (e, any-insert_key j xs k) (or_swapped (is_eq (cmp j x)) (is_eq (cmp j k)) (list_any (λ x. is_eq (cmp j x)) xs)))
    where
      twice : (a b : Bool) → (a || b) ≡ (a || (a || b))
      twice true b = refl
      twice false b = refl

  pub any-once : (j : K) (ks : List K) → list_any (λ x. is_eq (cmp j x)) (once cmp ks) ≡ list_any (λ x. is_eq (cmp j x)) ks
  any-once j [] = refl
  any-once j (k ∷ ks) = any-insert_key j (once cmp ks) k ∙ ap (λ t. is_eq (cmp j k) || t) (any-once j ks)
