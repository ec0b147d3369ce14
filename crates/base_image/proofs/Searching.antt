-- The place that a binary search over a rising list finds.
use Rattle.std.proofs.Common.{◌≡◌, ℕ, zero, suc, ◌+◌, ◌≤◌, Bool, true, false, ◌||◌, cond, nat_lt, ◌==◌, ℤ, ◌≤ℤ◌, ◌<ℤ◌, int_lt, int_le, List, [], ◌∷◌, map, length, get_or, Option, Some, None, refl, sym, ap, ◌∙◌, arith}
use Rattle.std.specs.Prelude.{is_some, slice_get}
use Rattle.std.specs.List.{list_all, list_any, prefix_len}
use Rattle.std.specs.List.Sorted.{IsPartitionPoint, IsPartitionedBy}
use Rattle.std.specs.Ordering.{is_lt, nat_cmp}
use Rattle.std.proofs.lemmas.Bool.{and_parts, and_from, ltb-true, true≢false}
use Rattle.std.proofs.lemmas.Bool.Decides.{nat_tests}
use Rattle.std.proofs.lemmas.Int.{ints}
use Rattle.std.proofs.lemmas.List.{map-id}
use Rattle.std.proofs.lemmas.List.Folds.{list_any_at}
use Rattle.std.proofs.lemmas.Option.{slice_get-get_or, slice_get_past}
use Rattle.ts_bucket.specs.Ranges.{lies_in}
use Rattle.ts_bucket.specs.Spans.{in_span}
use Rattle.ts_bucket.specs.declared.spans.Span.{Span}
use Rattle.ts_schema.proofs.Cases.{by_test, int_le-true, int_lt-true}
use Rattle.ts_model.specs.Saved.{pos_in}
use Rattle.ts_model.specs.Valid.{all_rise, spans_rise}
use Rattle.ts_model.specs.declared.images.SavedLast.{SavedLast}
use Rattle.ts_model.specs.declared.refreshes.Waiting.{Waiting}
use Rattle.base_image.specs.Rising.{are_rising, spans_of}

-- ---- a list whose front passes p; q is true of the first item after that front only

abbrev pub IsSearched : {X : Type 0} → (X → Bool) → (X → Bool) → List X → Type 0
IsSearched p q [] = Unit {0}
IsSearched p q (x ∷ xs) =
    ((list_any p xs ≡ true → p x ≡ true) × ((p x ≡ true → q x ≡ false) × (p x ≡ false → list_any q xs ≡ false)))
    × IsSearched p q xs

pub parted : {X : Type 0} (p q : X → Bool) (xs : List X) → IsSearched p q xs → IsPartitionedBy p xs
parted p q [] s i j d le l h = absurd (omega arith)
parted p q (x ∷ xs) s zero zero d le l h = h
parted p q (x ∷ xs) s zero (suc j) d le l h = s.0.0 (list_any_at p xs j d (omega arith) h)
parted p q (x ∷ xs) s (suc i) zero d le l h = absurd (omega arith)
parted p q (x ∷ xs) s (suc i) (suc j) d le l h = parted p q xs s.1 i j d (omega arith) (omega arith) h

-- the place that splits the list is the number of items at the front that pass
pub place_is : {X : Type 0} (p : X → Bool) (xs : List X) (i : ℕ) → i ≤ length xs → IsPartitionPoint (λ y. p y ≡ true) (λ y. p y ≡ false) xs i → i ≡ prefix_len p xs
place_is p [] i l h = omega arith
place_is p (x ∷ xs) zero l h =
    let fails : p x ≡ false = h.1 zero x (omega arith) (omega arith) in
    sym (ap (λ b. cond b (1 + prefix_len p xs) 0) fails)
place_is p (x ∷ xs) (suc i) l h =
    let passes : p x ≡ true = h.0 zero x (omega arith) (omega arith) in
    let rest : i ≡ prefix_len p xs = place_is p xs i (omega arith) ((λ k d a b. h.0 (suc k) d (omega arith) (omega arith)), (λ k d a b. h.1 (suc k) d (omega arith) (omega arith))) in
    let next : suc (prefix_len p xs) ≡ 1 + prefix_len p xs = omega arith in
    ap suc rest ∙ next ∙ sym (ap (λ b. cond b (1 + prefix_len p xs) 0) passes)

-- a test of an item, if there is one
abbrev pub passes_there : {X : Type 0} → (X → Bool) → Option X → Bool
passes_there q None = false
passes_there q (Some x) = q x

pub found : {X : Type 0} (p q : X → Bool) (xs : List X) → IsSearched p q xs → passes_there q (slice_get xs (prefix_len p xs)) ≡ list_any q xs
found p q [] s = refl
found p q (x ∷ xs) s =
    let next : 1 + prefix_len p xs ≡ suc (prefix_len p xs) = omega arith in
    by_test (p x) (λ passes.
    ap (λ b. passes_there q (slice_get (x ∷ xs) (cond b (1 + prefix_len p xs) 0))) passes
    ∙ ap (λ n. passes_there q (slice_get (x ∷ xs) n)) next
    ∙ found p q xs s.1
    ∙ ap (λ b. b || list_any q xs) (sym (s.0.1.0 passes))
    ) (λ fails.
    ap (λ b. passes_there q (slice_get (x ∷ xs) (cond b (1 + prefix_len p xs) 0))) fails
    ∙ sym (ap (λ b. q x || b) (s.0.1.1 fails) ∙ last (q x))
    )
  where
    last : (t : Bool) → (t || false) ≡ t
    last true = refl
    last false = refl

-- the item at the place found, or none
pub found_there : {X : Type 0} (p q : X → Bool) (xs : List X) (i : ℕ) (x : X) → IsSearched p q xs → i ≡ prefix_len p xs → true ≡ nat_lt i (length xs) → x ≡ get_or xs i x → q x ≡ list_any q xs
found_there {X} p q xs i x s place within at =
    let there : slice_get xs i ≡ Some x = slice_get-get_or xs i x (ltb-true i (length xs) (sym within)) ∙ ap (λ (y : X). Some y) (sym at) in
    ap (passes_there q) (sym there) ∙ ap (λ n. passes_there q (slice_get xs n)) place ∙ found p q xs s

pub found_none : {X : Type 0} (p q : X → Bool) (xs : List X) (i : ℕ) → IsSearched p q xs → i ≡ prefix_len p xs → false ≡ nat_lt i (length xs) → false ≡ list_any q xs
found_none {X} p q xs i s place past =
    let none : slice_get xs i ≡ None = slice_get_past xs i (at_least i (length xs) past) in
    ap (passes_there q) (sym none) ∙ ap (λ n. passes_there q (slice_get xs n)) place ∙ found p q xs s
  where
    at_least : (m n : ℕ) → false ≡ nat_lt m n → n ≤ m
    at_least m n h = grind (arith, nat_tests)

-- ---- spans that rise

pub rising_head : (s : Span) (ss : List Span) → are_rising (s ∷ ss) ≡ true → s.lo <ℤ s.hi
rising_head s ss e =
    let parts = and_parts (list_all (λ (s : Span). int_lt s.lo s.hi) (s ∷ ss)) (spans_rise (s ∷ ss)) e in
    int_lt-true s.lo s.hi (and_parts (int_lt s.lo s.hi) (list_all (λ (s : Span). int_lt s.lo s.hi) ss) parts.0).0

pub rising_tail : (s : Span) (ss : List Span) → are_rising (s ∷ ss) ≡ true → are_rising ss ≡ true
rising_tail s [] e = refl
rising_tail s (t ∷ ss) e =
    let parts = and_parts (list_all (λ (s : Span). int_lt s.lo s.hi) (s ∷ t ∷ ss)) (spans_rise (s ∷ t ∷ ss)) e in
    and_from _ _ (and_parts (int_lt s.lo s.hi) (list_all (λ (s : Span). int_lt s.lo s.hi) (t ∷ ss)) parts.0).1 (and_parts (int_le s.hi t.lo) (spans_rise (t ∷ ss)) parts.1).1

pub rising_next : (s t : Span) (ss : List Span) → are_rising (s ∷ t ∷ ss) ≡ true → s.hi ≤ℤ t.lo
rising_next s t ss e =
    let parts = and_parts (list_all (λ (s : Span). int_lt s.lo s.hi) (s ∷ t ∷ ss)) (spans_rise (s ∷ t ∷ ss)) e in
    int_le-true s.hi t.lo (and_parts (int_le s.hi t.lo) (spans_rise (t ∷ ss)) parts.1).0

outside_below : (s : Span) (b : ℤ) → b <ℤ s.lo → in_span s b ≡ false
outside_below s b l = grind (arith, ints)

outside_above : (s : Span) (b : ℤ) → s.hi ≤ℤ b → in_span s b ≡ false
outside_above s b l = grind (arith, ints)

-- a number below the end of a span lies in none of the later spans
pub below_later : (s : Span) (ss : List Span) (b : ℤ) → are_rising (s ∷ ss) ≡ true → b <ℤ s.hi → lies_in ss b ≡ false
below_later s [] b e l = refl
below_later s (t ∷ ss) b e l =
    let next : s.hi ≤ℤ t.lo = rising_next s t ss e in
    let some : t.lo <ℤ t.hi = rising_head t ss (rising_tail s (t ∷ ss) e) in
    ap (λ u. u || lies_in ss b) (outside_below t b (omega (arith, ints)))
    ∙ below_later t ss b (rising_tail s (t ∷ ss) e) (omega (arith, ints))

module _ {X : Type 0} (span : X → Span) (b : ℤ) where
  abbrev ends_below : X → Bool
  ends_below x = int_le (span x).hi b

  abbrev holds_it : X → Bool
  holds_it x = in_span (span x) b

  -- if a later span ends at or below b, each earlier one does
  earlier_ends : (x : X) (xs : List X) → are_rising (map span (x ∷ xs)) ≡ true → list_any ends_below xs ≡ true → (span x).hi ≤ℤ b
  earlier_ends x [] e h = absurd (true≢false (sym h))
  earlier_ends x (y ∷ ys) e h =
      let next : (span x).hi ≤ℤ (span y).lo = rising_next (span x) (span y) (map span ys) e in
      let rest : are_rising (map span (y ∷ ys)) ≡ true = rising_tail (span x) (map span (y ∷ ys)) e in
      let some : (span y).lo <ℤ (span y).hi = rising_head (span y) (map span ys) rest in
      let low : (span y).hi ≤ℤ b = by_test (ends_below y) (λ here. int_le-true (span y).hi b here) (λ not_here. earlier_ends y ys rest (ap (λ t. t || list_any ends_below ys) (sym not_here) ∙ h)) in
      omega (arith, ints)

  any_over : (xs : List X) → list_any holds_it xs ≡ lies_in (map span xs) b
  any_over [] = refl
  any_over (x ∷ xs) = ap (λ t. holds_it x || t) (any_over xs)

  not_ended : (s : Span) → int_le s.hi b ≡ false → b <ℤ s.hi
  not_ended s h = grind (arith, ints)

  up_to : (s : Span) → s.hi ≤ℤ b → int_le s.hi b ≡ true
  up_to s h = grind (arith, ints)

  pub spans_searched : (xs : List X) → are_rising (map span xs) ≡ true → IsSearched ends_below holds_it xs
  spans_searched [] e = tt
  spans_searched (x ∷ xs) e = (
    (
      (λ h. up_to (span x) (earlier_ends x xs e h)),
      ((λ h. outside_above (span x) b (int_le-true (span x).hi b h)), (λ h. any_over xs ∙ below_later (span x) (map span xs) b e (not_ended (span x) h))),
    ),
    spans_searched xs (rising_tail (span x) (map span xs) e),
  )

-- the numbers in spans, and those in ranges of last refreshes
pub rising_same : (ss : List Span) → are_rising ss ≡ true → are_rising (map (λ (s : Span). s) ss) ≡ true
rising_same ss e = ap are_rising (map-id ss) ∙ e

last_some : (t : Bool) (p : ℕ) (o : Option ℕ) → is_some (cond t (Some p) o) ≡ (t || is_some o)
last_some true p o = refl
last_some false p o = refl

pub lasts_hold : (ls : List SavedLast) (b : ℤ) → is_some (pos_in ls b) ≡ lies_in (spans_of ls) b
lasts_hold [] b = refl
lasts_hold (l ∷ ls) b = last_some (in_span l.span b) l.pos (pos_in ls b) ∙ ap (λ t. in_span l.span b || t) (lasts_hold ls b)

pub lasts_any : (ls : List SavedLast) (b : ℤ) → list_any (λ (l : SavedLast). in_span l.span b) ls ≡ is_some (pos_in ls b)
lasts_any ls b = any_over (λ (l : SavedLast). l.span) b ls ∙ sym (lasts_hold ls b)

-- ---- cuts that rise

abbrev cuts_of : List Waiting → List ℕ
cuts_of ws = map (λ (w : Waiting). w.cut) ws

none_upto : (k c : ℕ) (ws : List Waiting) → list_all (λ y. is_lt (nat_cmp k y)) (cuts_of ws) ≡ true → c ≤ k → list_any (λ (w : Waiting). w.cut == c) ws ≡ false
none_upto k c [] e l = refl
none_upto k c (w ∷ ws) e l =
    let parts = and_parts (is_lt (nat_cmp k w.cut)) (list_all (λ y. is_lt (nat_cmp k y)) (cuts_of ws)) e in
    ap (λ t. t || list_any (λ (w : Waiting). w.cut == c) ws) (above k w.cut c parts.0 l) ∙ none_upto k c ws parts.1 l
  where
    above : (k n c : ℕ) → is_lt (nat_cmp k n) ≡ true → c ≤ k → (n == c) ≡ false
    above k n c e l = grind (arith, nat_tests)

some_below : (k c : ℕ) (ws : List Waiting) → list_all (λ y. is_lt (nat_cmp k y)) (cuts_of ws) ≡ true → list_any (λ (w : Waiting). nat_lt w.cut c) ws ≡ true → nat_lt k c ≡ true
some_below k c [] e h = absurd (true≢false (sym h))
some_below k c (w ∷ ws) e h =
    let parts = and_parts (is_lt (nat_cmp k w.cut)) (list_all (λ y. is_lt (nat_cmp k y)) (cuts_of ws)) e in
    by_test (nat_lt w.cut c) (λ here. below k w.cut c parts.0 here) (λ not_here. some_below k c ws parts.1 (ap (λ t. t || list_any (λ (w : Waiting). nat_lt w.cut c) ws) (sym not_here) ∙ h))
  where
    below : (k n c : ℕ) → is_lt (nat_cmp k n) ≡ true → nat_lt n c ≡ true → nat_lt k c ≡ true
    below k n c e h = grind (arith, nat_tests)

pub cuts_searched : (c : ℕ) (ws : List Waiting) → all_rise nat_cmp (cuts_of ws) ≡ true → IsSearched (λ (w : Waiting). nat_lt w.cut c) (λ w. w.cut == c) ws
cuts_searched c [] e = tt
cuts_searched c (w ∷ ws) e =
    let parts = and_parts (list_all (λ y. is_lt (nat_cmp w.cut y)) (cuts_of ws)) (all_rise nat_cmp (cuts_of ws)) e in (
      (
        (λ h. some_below w.cut c ws parts.0 h),
        ((λ h. apart w.cut c h), (λ h. none_upto w.cut c ws parts.0 (at_most w.cut c h))),
      ),
      cuts_searched c ws parts.1,
    )
  where
    apart : (n c : ℕ) → nat_lt n c ≡ true → (n == c) ≡ false
    apart n c h = grind (arith, nat_tests)

    at_most : (n c : ℕ) → nat_lt n c ≡ false → c ≤ n
    at_most n c h = grind (arith, nat_tests)
