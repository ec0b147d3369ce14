-- The place that a binary search over rising edges finds.
use Rattle.std.proofs.Common.{◌≡◌, ℕ, zero, suc, ◌<◌, ◌≤◌, Bool, true, false, cond, ℤ, ◌<ℤ◌, int_lt, int_le, List, [], ◌∷◌, length, get_or, ◌⊎◌, inl, inr, refl, sym, ap, ◌∙◌, subst, arith}
use Rattle.std.specs.List.Sorted.{IsPartitionPoint, IsPartitionedBy}
use Rattle.std.proofs.lemmas.Int.{ints}
use Rattle.std.proofs.lemmas.Bool.{cases_lt}
use Rattle.span_map.specs.declared.edges.Edge.{Edge}
use Rattle.span_map.specs.Edges.{IsBelowFirst, IsRising, place_upto, place_below}

-- an edge is below each one after it
rising_after : (x : ℤ) (es : List Edge) (j : ℕ) (d : Edge) → IsBelowFirst x es → IsRising es → j < length es → x <ℤ (get_or es j d).from
rising_after x [] j d h r l = absurd (omega arith)
rising_after x (e ∷ es) zero d h r l = h
rising_after x (e ∷ es) (suc j) d h r l =
    let below : e.from <ℤ (get_or es j d).from = rising_after e.from es j d r.0 r.1 (omega arith) in
    omega (arith, ints)

-- edges at later places are higher
pub rising_places : (es : List Edge) (i j : ℕ) (d : Edge) → IsRising es → i < j → j < length es → (get_or es i d).from <ℤ (get_or es j d).from
rising_places [] i j d r h l = absurd (omega arith)
rising_places (e ∷ es) i zero d r h l = absurd (omega arith)
rising_places (e ∷ es) zero (suc j) d r h l = rising_after e.from es j d r.0 r.1 (omega arith)
rising_places (e ∷ es) (suc i) (suc j) d r h l = rising_places es i j d r.1 (omega arith) (omega arith)

-- a test that each lower edge passes if a higher one does splits rising edges
pub parted : (p : Edge → Bool) (es : List Edge) → ((a b : Edge) → a.from <ℤ b.from → p b ≡ true → p a ≡ true) → IsRising es → IsPartitionedBy p es
parted p es down r i j d le l h = by_order (cases_lt i j)
  where
    by_order : (i < j) ⊎ (j ≤ i) → p (get_or es i d) ≡ true
    by_order (inl less) = down (get_or es i d) (get_or es j d) (rising_places es i j d r less l) h
    by_order (inr more) = let same : i ≡ j = omega arith in subst (λ k. p (get_or es k d) ≡ true) (sym same) h

-- how many edges are before the first one that fails the test
abbrev pub place_where : (Edge → Bool) → List Edge → ℕ
place_where p [] = 0
place_where p (e ∷ es) = cond (p e) (suc (place_where p es)) 0

-- the place that splits the edges is the number of edges that pass the test
pub place_from_point : (p : Edge → Bool) (es : List Edge) (i : ℕ) → i ≤ length es → IsPartitionPoint (λ y. p y ≡ true) (λ y. p y ≡ false) es i → i ≡ place_where p es
place_from_point p [] i l h = omega arith
place_from_point p (e ∷ es) zero l h =
    let fails : p e ≡ false = h.1 zero e (omega arith) (omega arith) in
    sym (ap (λ b. cond b (suc (place_where p es)) 0) fails)
place_from_point p (e ∷ es) (suc i) l h =
    let passes : p e ≡ true = h.0 zero e (omega arith) (omega arith) in
    let rest : i ≡ place_where p es = place_from_point p es i (omega arith) ((λ k d a b. h.0 (suc k) d (omega arith) (omega arith)), (λ k d a b. h.1 (suc k) d (omega arith) (omega arith))) in
    ap suc rest ∙ sym (ap (λ b. cond b (suc (place_where p es)) 0) passes)

-- the same for the two tests of the searches
pub place_where-upto : (t : ℤ) (es : List Edge) → place_where (λ e. int_le e.from t) es ≡ place_upto t es
place_where-upto t [] = refl
place_where-upto t (e ∷ es) = ap (λ n. cond (int_le e.from t) (suc n) 0) (place_where-upto t es)

pub place_where-below : (t : ℤ) (es : List Edge) → place_where (λ e. int_lt e.from t) es ≡ place_below t es
place_where-below t [] = refl
place_where-below t (e ∷ es) = ap (λ n. cond (int_lt e.from t) (suc n) 0) (place_where-below t es)
