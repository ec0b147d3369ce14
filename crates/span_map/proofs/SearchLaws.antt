-- A binary search: the places left include the one searched for.
use Rattle.std.proofs.Common.{◌≡◌, ℕ, zero, suc, ◌<◌, ◌≤◌, ◌+◌, ◌-◌, Bool, true, false, cond, ℤ, ◌≤ℤ◌, ◌<ℤ◌, int_lt, int_le, List, [], ◌∷◌, length, drop, take, get_or, ◌⊎◌, inl, inr, refl, sym, ap, ◌∙◌, subst, arith}
use Rattle.std.proofs.lemmas.Int.{ints}
use Rattle.std.proofs.lemmas.Bool.{cases_lt, false_from_ne_true}
use Rattle.span_map.specs.declared.edges.Edge.{Edge}
use Rattle.span_map.specs.declared.search.Before.{Before}
use Rattle.span_map.specs.declared.search.Before.TheVariants.{Below, Upto}
use Rattle.span_map.specs.Edges.{IsRising, place_below, place_upto}
use Rattle.span_map.specs.Places.{place_before, stands_before}
use Rattle.span_map.proofs.Places.{place_where, place_where-below, place_where-upto, rising_places}

-- an edge below one that is before a place is before it
lower_stands : (before : Before) (a b : Edge) → a.from <ℤ b.from → stands_before before b ≡ true → stands_before before a ≡ true
lower_stands (Upto t) a b less h = grind (arith, ints)
lower_stands (Below t) a b less h = grind (arith, ints)

-- the item at a place, for any default
same_item : (es : List Edge) (i : ℕ) (d e : Edge) → i < length es → e ≡ get_or es i e → get_or es i d ≡ e
same_item [] i d e l is = absurd (omega (arith, l))
same_item (x ∷ es) zero d e l is = sym is
same_item (x ∷ es) (suc i) d e l is = same_item es i d e (omega (arith, l)) is

-- the edges below one place are before the one searched for, and those from another on aren't
pub record IsNarrowed (before : Before) (es : List Edge) (low high : ℕ) : Type 0 where
  pub order : low ≤ high
  pub within : high ≤ length es
  pub passed : (k : ℕ) (d : Edge) → k < low → stands_before before (get_or es k d) ≡ true
  pub left : (k : ℕ) (d : Edge) → high ≤ k → k < length es → stands_before before (get_or es k d) ≡ false

pub narrowed_all : (before : Before) (es : List Edge) (n : ℕ) → n ≡ length es → IsNarrowed before es 0 n
narrowed_all before es n e = record {
  order = omega arith;
  within = omega (arith, e);
  passed = λ k d h. absurd (omega (arith, h));
  left = λ k d h l. absurd (omega (arith, e, h, l));
}

module _ (before : Before) (es : List Edge) (low high middle : ℕ) (rising : IsRising es) (h : IsNarrowed before es low high) (above : low ≤ middle) (under : middle < high) where
  pub narrowed_up : (e : Edge) → e ≡ get_or es middle e → stands_before before e ≡ true → IsNarrowed before es (middle + 1) high
  narrowed_up e is stands = record {
    order = omega (arith, under);
    within = h.within;
    passed = λ k d less. by k d (cases_lt k middle) less;
    left = h.left;
  }
    where
      by : (k : ℕ) (d : Edge) → (k < middle) ⊎ (middle ≤ k) → k < middle + 1 → stands_before before (get_or es k d) ≡ true
      by k d (inl less) l =
          lower_stands before (get_or es k d) (get_or es middle d) (rising_places es k middle d rising less (omega (arith, under, h.within)))
          (ap (stands_before before) (same_item es middle d e (omega (arith, under, h.within)) is) ∙ stands)
      by k d (inr more) l =
          let here : k ≡ middle = omega (arith, more, l) in
          ap (λ i. stands_before before (get_or es i d)) here ∙ (ap (stands_before before) (same_item es middle d e (omega (arith, under, h.within)) is) ∙ stands)

  pub narrowed_down : (e : Edge) → e ≡ get_or es middle e → stands_before before e ≡ false → IsNarrowed before es low middle
  narrowed_down e is fails = record {
    order = above;
    within = omega (arith, under, h.within);
    passed = h.passed;
    left = λ k d more l. by k d (cases_lt middle k) more l;
  }
    where
      at_middle : (d : Edge) → stands_before before (get_or es middle d) ≡ false
      at_middle d = ap (stands_before before) (same_item es middle d e (omega (arith, under, h.within)) is) ∙ fails

      by : (k : ℕ) (d : Edge) → (middle < k) ⊎ (k ≤ middle) → middle ≤ k → k < length es → stands_before before (get_or es k d) ≡ false
      by k d (inl less) more l =
          false_from_ne_true (stands_before before (get_or es k d))
          (λ stands. let both : true ≡ false = sym (lower_stands before (get_or es middle d) (get_or es k d) (rising_places es middle k d rising less l) stands) ∙ at_middle d in absurd (let no : true ≡ false = both in cc))
      by k d (inr less) more l =
          let here : k ≡ middle = omega (arith, more, less) in
          ap (λ i. stands_before before (get_or es i d)) here ∙ at_middle d

where_left : (p : Edge → Bool) (es : List Edge) (i : ℕ) → i ≤ length es → ((k : ℕ) (d : Edge) → k < i → p (get_or es k d) ≡ true) → ((k : ℕ) (d : Edge) → i ≤ k → k < length es → p (get_or es k d) ≡ false) → i ≡ place_where p es
where_left p [] i l passes fails = omega (arith, l)
where_left p (e ∷ es) zero l passes fails = sym (ap (λ b. cond b (suc (place_where p es)) 0) (fails zero e (omega arith) (omega arith)))
where_left p (e ∷ es) (suc i) l passes fails =
    ap suc (where_left p es i (omega (arith, l)) (λ k d h. passes (suc k) d (omega (arith, h))) (λ k d h m. fails (suc k) d (omega (arith, h)) (omega (arith, m))))
    ∙ sym (ap (λ b. cond b (suc (place_where p es)) 0) (passes zero e (omega arith)))

where_before : (before : Before) (es : List Edge) → place_where (stands_before before) es ≡ place_before before es
where_before (Upto t) es = place_where-upto t es
where_before (Below t) es = place_where-below t es

pub narrowed_place : (before : Before) (es : List Edge) (low high : ℕ) → high ≤ low → IsNarrowed before es low high → low ≡ place_before before es
narrowed_place before es low high met h =
    where_left (stands_before before) es low (omega (arith, h.order, h.within)) h.passed (λ k d more l. h.left k d (omega (arith, met, more)) l) ∙ where_before before es

-- ---- the places of a span

pub places_order : (lo hi : ℤ) (es : List Edge) → lo <ℤ hi → place_upto lo es ≤ place_below hi es
places_order lo hi [] l = omega arith
places_order lo hi (e ∷ es) l = by (int_le e.from lo) refl (places_order lo hi es l)
  where
    by : (b : Bool) → int_le e.from lo ≡ b → place_upto lo es ≤ place_below hi es → cond b (suc (place_upto lo es)) 0 ≤ cond (int_lt e.from hi) (suc (place_below hi es)) 0
    by true p rest =
        let under : int_lt e.from hi ≡ true = grind (arith, ints) in
        subst (λ b. suc (place_upto lo es) ≤ cond b (suc (place_below hi es)) 0) (sym under) (omega (arith, rest))
    by false p rest = omega arith

pub places_around : (lo hi : ℤ) (es : List Edge) → lo <ℤ hi → place_below lo es ≤ place_upto hi es
places_around lo hi [] l = omega arith
places_around lo hi (e ∷ es) l = by (int_lt e.from lo) refl (places_around lo hi es l)
  where
    by : (b : Bool) → int_lt e.from lo ≡ b → place_below lo es ≤ place_upto hi es → cond b (suc (place_below lo es)) 0 ≤ cond (int_le e.from hi) (suc (place_upto hi es)) 0
    by true p rest =
        let under : int_le e.from hi ≡ true = grind (arith, ints) in
        subst (λ b. suc (place_below lo es) ≤ cond b (suc (place_upto hi es)) 0) (sym under) (omega (arith, rest))
    by false p rest = omega arith

-- the place among the edges from another place on
pub place_below-drop : (hi : ℤ) (n : ℕ) (es : List Edge) → n ≤ place_below hi es → place_below hi (drop n es) ≡ place_below hi es - n
place_below-drop hi zero es h = omega arith
place_below-drop hi (suc n) [] h = omega (arith, h)
place_below-drop hi (suc n) (e ∷ es) h = by (int_lt e.from hi) h (place_below-drop hi n es)
  where
    by : (b : Bool) → suc n ≤ cond b (suc (place_below hi es)) 0 → (n ≤ place_below hi es → place_below hi (drop n es) ≡ place_below hi es - n) → place_below hi (drop n es) ≡ cond b (suc (place_below hi es)) 0 - suc n
    by true l rest = rest (omega (arith, l)) ∙ omega arith
    by false l rest = absurd (omega (arith, l))
