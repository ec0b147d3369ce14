-- A transitive relation of each item to the next relates each item to every later one.
use Rattle.std.proofs.Common.{◌≡◌, ℕ, zero, suc, ◌+◌, ◌<◌, Bool, true, false, ◌&&◌, not, nat_lt, int_le, List, [], ◌∷◌, map, length, get_or, refl, sym, ap, ◌∙◌, subst, arith, tests}
use Rattle.std.specs.Cmp.{IsTotalOrder, nat_cmp_total, upto}
use Rattle.std.specs.List.{list_all, IsAllAdjacentAnswer, AllAdjacentBelow}
use Rattle.std.specs.Ordering.{is_gt, is_lt, nat_cmp}
use Rattle.std.specs.declared.cmp.Ordering.{Ordering}
use Rattle.std.specs.declared.cmp.Ordering.TheVariants.{Less, Equal, Greater}
use Rattle.std.proofs.lemmas.Bool.{and_parts, and_from, not-true}
use Rattle.std.proofs.lemmas.List.Folds.{list_all-map}
use Rattle.ts_bucket.specs.declared.spans.Span.{Span}
use Rattle.ts_schema.proofs.Cases.{same_test}
use Rattle.ts_model.specs.Valid.{all_rise, all_stand, spans_rise}
use Rattle.ts_model.specs.declared.images.SavedLast.{SavedLast}
use Rattle.base_image.specs.Rising.{spans_of}

-- each item and the next pass the test
abbrev pub neighbours : {X : Type 0} → (X → X → Bool) → List X → Bool
neighbours e [] = true
neighbours e (x ∷ []) = true
neighbours e (x ∷ y ∷ xs) = e x y && neighbours e (y ∷ xs)

all_neighbours : {X : Type 0} (e : X → X → Bool) (xs : List X) → AllAdjacentBelow (λ x y. true ≡ e x y) xs (length xs) → neighbours e xs ≡ true
all_neighbours e [] h = refl
all_neighbours e (x ∷ []) h = refl
all_neighbours e (x ∷ y ∷ xs) h =
    and_from _ _ (sym (h 0 x (omega arith))) (all_neighbours e (y ∷ xs) (λ k d l.
    let next : suc k + 1 ≡ suc (k + 1) = omega arith in
    subst (λ n. true ≡ e (get_or (y ∷ xs) k d) (get_or (x ∷ y ∷ xs) n d)) next (h (suc k) d (omega arith))))

none_after : (t : Bool) → (t && false) ≡ false
none_after true = refl
none_after false = refl

some_apart : {X : Type 0} (e : X → X → Bool) (xs : List X) (k : ℕ) → k + 1 < length xs → ((d : X) → false ≡ e (get_or xs k d) (get_or xs (k + 1) d)) → neighbours e xs ≡ false
some_apart e [] k l h = absurd (omega arith)
some_apart e (x ∷ []) k l h = absurd (omega arith)
some_apart e (x ∷ y ∷ xs) zero l h = ap (λ (t : Bool). t && neighbours e (y ∷ xs)) (sym (h x))
some_apart e (x ∷ y ∷ xs) (suc k) l h =
    let next : suc k + 1 ≡ suc (k + 1) = omega arith in
    ap (λ (t : Bool). e x y && t) (some_apart e (y ∷ xs) k (omega arith) (λ d. subst (λ n. false ≡ e (get_or (y ∷ xs) k d) (get_or (x ∷ y ∷ xs) n d)) next (h d)))
    ∙ none_after (e x y)

-- the result of a search for two adjacent items that don't pass
pub answer_is : {X : Type 0} (e : X → X → Bool) (xs : List X) (r : Bool) → IsAllAdjacentAnswer (λ x y b. b ≡ e x y) xs r → r ≡ neighbours e xs
answer_is e xs true h = sym (all_neighbours e xs h)
answer_is e xs false h = sym (some_apart e xs h.0 h.1 h.2)

-- each item and each later one pass the test
abbrev pub pairs : {X : Type 0} → (X → X → Bool) → List X → Bool
pairs e [] = true
pairs e (x ∷ xs) = list_all (e x) xs && pairs e xs

abbrev pub PassesOn : {X : Type 0} → (X → X → Bool) → Type 0
PassesOn {X} e = (x y z : X) → e x y ≡ true → e y z ≡ true → e x z ≡ true

all_later : {X : Type 0} (e : X → X → Bool) → PassesOn e → (x y : X) (ys : List X) → e x y ≡ true → list_all (e y) ys ≡ true → list_all (e x) ys ≡ true
all_later e on x y [] p h = refl
all_later e on x y (z ∷ zs) p h =
    let parts = and_parts (e y z) (list_all (e y) zs) h in
    and_from _ _ (on x y z p parts.0) (all_later e on x y zs p parts.1)

first_passes : {X : Type 0} (e : X → X → Bool) → PassesOn e → (x : X) (xs : List X) → neighbours e (x ∷ xs) ≡ true → list_all (e x) xs ≡ true
first_passes e on x [] h = refl
first_passes e on x (y ∷ ys) h =
    let parts = and_parts (e x y) (neighbours e (y ∷ ys)) h in
    and_from _ _ parts.0 (all_later e on x y ys parts.0 (first_passes e on y ys parts.1))

fewer : {X : Type 0} (e : X → X → Bool) (x : X) (xs : List X) → neighbours e (x ∷ xs) ≡ true → neighbours e xs ≡ true
fewer e x [] h = refl
fewer e x (y ∷ ys) h = (and_parts (e x y) (neighbours e (y ∷ ys)) h).1

pairs_from : {X : Type 0} (e : X → X → Bool) → PassesOn e → (xs : List X) → neighbours e xs ≡ true → pairs e xs ≡ true
pairs_from e on [] h = refl
pairs_from e on (x ∷ xs) h = and_from _ _ (first_passes e on x xs h) (pairs_from e on xs (fewer e x xs h))

neighbours_from : {X : Type 0} (e : X → X → Bool) (xs : List X) → pairs e xs ≡ true → neighbours e xs ≡ true
neighbours_from e [] h = refl
neighbours_from e (x ∷ []) h = refl
neighbours_from e (x ∷ y ∷ xs) h =
    let parts = and_parts (list_all (e x) (y ∷ xs)) (pairs e (y ∷ xs)) h in
    and_from _ _ (and_parts (e x y) (list_all (e x) xs) parts.0).0 (neighbours_from e (y ∷ xs) parts.1)

pairs_are : {X : Type 0} (e : X → X → Bool) → PassesOn e → (xs : List X) → neighbours e xs ≡ pairs e xs
pairs_are e on xs = same_test _ _ (pairs_from e on xs) (neighbours_from e xs)

-- ---- the orders

less_is : (o : Ordering) → is_lt o ≡ true → o ≡ Less
less_is Less h = refl
less_is Equal h = absurd cc
less_is Greater h = absurd cc

rise_over : {X K : Type 0} (cmp : K → K → Ordering) (key : X → K) (xs : List X) → all_rise cmp (map key xs) ≡ pairs (λ x y. is_lt (cmp (key x) (key y))) xs
rise_over cmp key [] = refl
rise_over cmp key (x ∷ xs) =
    ap (λ (t : Bool). t && all_rise cmp (map key xs)) (list_all-map (λ y. is_lt (cmp (key x) y)) key xs)
    ∙ ap (λ (t : Bool). list_all (λ y. is_lt (cmp (key x) (key y))) xs && t) (rise_over cmp key xs)

-- items rise by a key
pub rises : {X K : Type 0} (cmp : K → K → Ordering) (key : X → K) → IsTotalOrder cmp → (xs : List X) (r : Bool) → IsAllAdjacentAnswer (λ x y b. b ≡ is_lt (cmp (key x) (key y))) xs r → r ≡ all_rise cmp (map key xs)
rises {X} cmp key total xs r h =
    let on : PassesOn (λ (x y : X). is_lt (cmp (key x) (key y))) = λ x y z p q. ap is_lt (total.trans (key x) (key y) (key z) (less_is _ p) (less_is _ q)) in
    answer_is _ xs r h ∙ pairs_are _ on xs ∙ sym (rise_over cmp key xs)

stand_is : {K : Type 0} (cmp : K → K → Ordering) (xs : List K) → all_stand cmp xs ≡ pairs (λ x y. not (is_gt (cmp x y))) xs
stand_is cmp [] = refl
stand_is cmp (x ∷ xs) = ap (λ (t : Bool). list_all (λ y. not (is_gt (cmp x y))) xs && t) (stand_is cmp xs)

-- items are in order
pub stands : {K : Type 0} (cmp : K → K → Ordering) → IsTotalOrder cmp → (xs : List K) (r : Bool) → IsAllAdjacentAnswer (λ x y b. b ≡ not (is_gt (cmp x y))) xs r → r ≡ all_stand cmp xs
stands {K} cmp total xs r h =
    let on : PassesOn (λ (x y : K). not (is_gt (cmp x y))) = λ x y z p q. ap not (upto total x y z (not-true _ p) (not-true _ q)) in
    answer_is _ xs r h ∙ pairs_are _ on xs ∙ sym (stand_is cmp xs)

-- spans rise
spans_are : (ss : List Span) → neighbours (λ (s t : Span). int_le s.hi t.lo) ss ≡ spans_rise ss
spans_are [] = refl
spans_are (s ∷ []) = refl
spans_are (s ∷ t ∷ ss) = ap (λ (b : Bool). int_le s.hi t.lo && b) (spans_are (t ∷ ss))

pub spans_stand : (ss : List Span) (r : Bool) → IsAllAdjacentAnswer (λ (s t : Span) b. b ≡ int_le s.hi t.lo) ss r → r ≡ spans_rise ss
spans_stand ss r h = answer_is _ ss r h ∙ spans_are ss

lasts_are : (ls : List SavedLast) → neighbours (λ (l m : SavedLast). int_le l.span.hi m.span.lo) ls ≡ spans_rise (spans_of ls)
lasts_are [] = refl
lasts_are (l ∷ []) = refl
lasts_are (l ∷ m ∷ ls) = ap (λ (b : Bool). int_le l.span.hi m.span.lo && b) (lasts_are (m ∷ ls))

pub lasts_stand : (ls : List SavedLast) (r : Bool) → IsAllAdjacentAnswer (λ (l m : SavedLast) b. b ≡ int_le l.span.hi m.span.lo) ls r → r ≡ spans_rise (spans_of ls)
lasts_stand ls r h = answer_is _ ls r h ∙ lasts_are ls

-- cuts rise
cut_less : (m n : ℕ) → nat_lt m n ≡ is_lt (nat_cmp m n)
cut_less m n = grind (arith, tests)

pub cuts_rise : {X : Type 0} (cut : X → ℕ) (xs : List X) (r : Bool) → IsAllAdjacentAnswer (λ x y b. b ≡ nat_lt (cut x) (cut y)) xs r → r ≡ all_rise nat_cmp (map cut xs)
cuts_rise {X} cut xs r h =
    let on : PassesOn (λ (x y : X). is_lt (nat_cmp (cut x) (cut y))) = λ x y z p q. ap is_lt (nat_cmp_total.trans (cut x) (cut y) (cut z) (less_is _ p) (less_is _ q)) in
    answer_is _ xs r h ∙ (λ i. neighbours (λ x y. cut_less (cut x) (cut y) i) xs) ∙ pairs_are _ on xs ∙ sym (rise_over nat_cmp cut xs)
