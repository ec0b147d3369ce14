-- Case analysis on the answer of a test, comparisons of whole numbers, and lists of whose items something is
-- true.
use Rattle.std.proofs.Common.{◌≡◌, refl, sym, ap, ◌∙◌, ℕ, ◌+◌, Bool, true, false, cond, ◌&&◌, ◌||◌, ◌++◌, filter, List, [], ◌∷◌, Option, Some, None, arith, ℤ, ◌≤ℤ◌, ◌<ℤ◌}
use Rattle.std.proofs.lemmas.Bool.{and_parts, eq-eqb}
use Rattle.std.proofs.lemmas.Int.{ints}
use Rattle.std.proofs.lemmas.List.Sums.{sum_by-append}
use Rattle.std.proofs.Math.Bool.{or-true}
use Rattle.std.specs.Prelude.{int_le, int_lt, is_some, ◌==◌}
use Rattle.std.specs.List.{AllByRecursion, list_all, count_by}

-- a test that passes, or doesn't
pub by_test : {G : Type 0} (t : Bool) → (t ≡ true → G) → (t ≡ false → G) → G
by_test true pass fail = pass refl
by_test false pass fail = fail refl

-- if both tests pass, each of them does
pub and_first : (x y : Bool) → (x && y) ≡ true → x ≡ true
and_first x y e = (and_parts x y e).0

pub and_second : (x y : Bool) → (x && y) ≡ true → y ≡ true
and_second x y e = (and_parts x y e).1

-- two tests are equal if each passes when the other does
pub same_test : (x y : Bool) → (x ≡ true → y ≡ true) → (y ≡ true → x ≡ true) → x ≡ y
same_test true y to back = sym (to refl)
same_test false true to back = back refl
same_test false false to back = refl

-- the order of two tests before a third is free
pub or_swapped : (x y z : Bool) → (x || (y || z)) ≡ (y || (x || z))
or_swapped true y z = sym (or-true y)
or_swapped false y z = refl

-- what is missing is none
pub none_there : {X : Type 0} (o : Option X) → is_some o ≡ false → o ≡ None
none_there None e = refl
none_there (Some x) e = absurd (cc e)

-- ---- comparisons

pub same_number : (n : ℕ) → (n == n) ≡ true
same_number n = eq-eqb n n refl

pub int_le-true : (a b : ℤ) → int_le a b ≡ true → a ≤ℤ b
int_le-true a b e = grind (arith, ints)

pub le-int_le : (a b : ℤ) → a ≤ℤ b → int_le a b ≡ true
le-int_le a b e = grind (arith, ints)

pub int_lt-true : (a b : ℤ) → int_lt a b ≡ true → a <ℤ b
int_lt-true a b e = grind (arith, ints)

pub lt-int_lt : (a b : ℤ) → a <ℤ b → int_lt a b ≡ true
lt-int_lt a b e = grind (arith, ints)

-- ---- lists

-- a property of each item, and a consequence of it
pub all_weaker : {X : Type 0} (P Q : X → Type 0) → ((x : X) → P x → Q x) → (xs : List X) → AllByRecursion P xs → AllByRecursion Q xs
all_weaker P Q h [] a = tt
all_weaker P Q h (x ∷ xs) a = (h x a.0, all_weaker P Q h xs a.1)

pub all_passed : {X : Type 0} (test : X → Bool) (xs : List X) → list_all test xs ≡ true → AllByRecursion (λ x. test x ≡ true) xs
all_passed test [] e = tt
all_passed test (x ∷ xs) e = let parts = and_parts (test x) (list_all test xs) e in (parts.0, all_passed test xs parts.1)

-- two tests that agree on each item pick the same
pub filter_same : {X : Type 0} (p q : X → Bool) (xs : List X) → ((x : X) → p x ≡ q x) → filter p xs ≡ filter q xs
filter_same p q [] same = refl
filter_same p q (x ∷ xs) same = ap (λ b. cond b (x ∷ filter p xs) (filter p xs)) (same x) ∙ ap (λ ys. cond (q x) (x ∷ ys) ys) (filter_same p q xs same)

pub count-append : {X : Type 0} (p : X → Bool) (xs ys : List X) → count_by p (xs ++ ys) ≡ count_by p xs + count_by p ys
count-append p xs ys = sum_by-append (λ x. cond (p x) 1 0) xs ys
