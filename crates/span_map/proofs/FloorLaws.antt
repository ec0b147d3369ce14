-- Assigning where a floor has no value or a lower one: exactly those numbers of the span change.
use Rattle.std.proofs.Common.{◌≡◌, ℕ, ◌≤◌, drop, Bool, true, false, cond, ◌&&◌, ◌⊎◌, inl, inr, ℤ, ◌≤ℤ◌, ◌<ℤ◌, int_lt, int_le, List, [], ◌∷◌, Option, Some, None, refl, sym, ap, ◌∙◌, arith}
use Rattle.std.proofs.lemmas.List.Sums.{sum_by-take-drop}
use Rattle.std.specs.Int.{int_max, int_min}
use Rattle.std.proofs.lemmas.Int.{ints, clamps, by_lt_z}
use Rattle.ts_bucket.specs.Positions.{is_before}
use Rattle.ts_bucket.specs.Spans.{SpanValue, in_span}
use Rattle.span_map.specs.declared.edges.Edge.{Edge}
use Rattle.span_map.specs.Edges.{value_from, IsBelowFirst, IsRising, place_upto, place_below, value_on, between, piece_count, has_value}
use Rattle.span_map.specs.Floors.{run_filled, run_on, open_run, floor_filled}
use Rattle.span_map.proofs.EdgeLaws.{value_from-below, IsBelowFirst-from}
use Rattle.span_map.proofs.PieceLaws.{rising-between, value_from-between}
use Rattle.ts_schema.proofs.Cases.{le-int_le}

-- t is at or above the start of the open run, or of the span if none is open
abbrev run_from : SpanValue → Option ℤ → ℤ → Bool
run_from s None t = int_le s.lo t
run_from s (Some from) t = int_le from t

-- a run is open if and only if the floor has no value or a lower one, and it starts with the span or at an edge
abbrev RunFits : SpanValue → ℕ → Option ℤ → Option ℕ → List Edge → Type 0
RunFits s pos None w es = is_before pos w ≡ false
RunFits s pos (Some from) w es = (is_before pos w ≡ true) × (s.lo ≤ℤ from) × ((from ≡ s.lo) ⊎ IsBelowFirst from es)

-- the wanted value at t: the position, where a run or the span holds t and the floor has no value or a lower
-- one
abbrev wanted : SpanValue → ℕ → Option ℤ → Option ℕ → List Edge → Option ℕ → ℤ → Option ℕ
wanted s pos run w es v t = cond (run_from s run t && int_lt t s.hi && is_before pos (value_from w es t)) (Some pos) v

none_of : (a b c : Bool) (p v : Option ℕ) → c ≡ false → cond (a && b && c) p v ≡ v
none_of true true c p v e = ap (λ x. cond x p v) e
none_of true false c p v e = refl
none_of false b c p v e = refl

-- the floor's tests below and above an edge
test_below : (pos : ℕ) (w : Option ℕ) (e : Edge) (es : List Edge) (t : ℤ) → t <ℤ e.from → is_before pos (value_from w (e ∷ es) t) ≡ is_before pos w
test_below pos w e es t l = ap (λ b. is_before pos (cond b w (value_from e.value es t))) (let low : int_lt t e.from ≡ true = grind (arith, ints) in low)

test_above : (pos : ℕ) (w : Option ℕ) (e : Edge) (es : List Edge) (t : ℤ) → e.from ≤ℤ t → is_before pos (value_from w (e ∷ es) t) ≡ is_before pos (value_from e.value es t)
test_above pos w e es t l = ap (λ b. is_before pos (cond b w (value_from e.value es t))) (let high : int_lt t e.from ≡ false = grind (arith, ints) in high)

test_first : (pos : ℕ) (e : Edge) (es : List Edge) (t : ℤ) → IsRising (e ∷ es) → t <ℤ e.from → is_before pos (value_from e.value es t) ≡ is_before pos e.value
test_first pos e es t r l = ap (is_before pos) (value_from-below e.value es e.from t r.0 (omega (arith, ints)))

-- an edge that doesn't change the test
test_same : (pos : ℕ) (w : Option ℕ) (e : Edge) (es : List Edge) (t : ℤ) (b : Bool) → IsRising (e ∷ es) → is_before pos w ≡ b → is_before pos e.value ≡ b → is_before pos (value_from e.value es t) ≡ is_before pos (value_from w (e ∷ es) t)
test_same pos w e es t b r p q = by_lt_z t e.from
    (λ below. test_first pos e es t r below ∙ q ∙ sym p ∙ sym (test_below pos w e es t below))
    (λ above. sym (test_above pos w e es t above))

-- an edge at which a run opens
opens : (s : SpanValue) (pos : ℕ) (w : Option ℕ) (e : Edge) (es : List Edge) (v : Option ℕ) (t : ℤ) → is_before pos w ≡ false → wanted s pos (Some (int_max e.from s.lo)) e.value es v t ≡ wanted s pos None w (e ∷ es) v t
opens s pos w e es v t h =
    let from : e.from ≤ℤ int_max e.from s.lo = omega (arith, ints, clamps) in
    let start : s.lo ≤ℤ int_max e.from s.lo = omega (arith, ints, clamps) in
    by_lt_z t e.from
    (λ below.
    let out : int_le (int_max e.from s.lo) t ≡ false = out_of (int_max e.from s.lo) t (omega (arith, ints)) in
    ap (λ b. cond (b && int_lt t s.hi && is_before pos (value_from e.value es t)) (Some pos) v) out
    ∙ sym (none_of (int_le s.lo t) (int_lt t s.hi) (is_before pos (value_from w (e ∷ es) t)) (Some pos) v (test_below pos w e es t below ∙ h)))
    (λ above.
    ap (λ b. cond (b && int_lt t s.hi && is_before pos (value_from e.value es t)) (Some pos) v) (max_test e.from s.lo t above)
    ∙ ap (λ b. cond (int_le s.lo t && int_lt t s.hi && b) (Some pos) v) (sym (test_above pos w e es t above)))
  where
    out_of : (x t : ℤ) → t <ℤ x → int_le x t ≡ false
    out_of x t l = grind (arith, ints)

    max_test : (x y t : ℤ) → x ≤ℤ t → int_le (int_max x y) t ≡ int_le y t
    max_test x y t l = by_lt_z t y (λ below. out_of (int_max x y) t (omega (arith, ints, clamps)) ∙ sym (out_of y t below)) (λ above. le-int_le (int_max x y) t (omega (arith, ints, clamps)) ∙ sym (le-int_le y t above))

-- an edge that ends a run
ends : (s : SpanValue) (pos : ℕ) (from : ℤ) (w : Option ℕ) (e : Edge) (es : List Edge) (v : Option ℕ) (t : ℤ) → IsRising (e ∷ es) → RunFits s pos (Some from) w (e ∷ es) → is_before pos e.value ≡ false → wanted s pos None e.value es (run_filled (Some from) (int_min e.from s.hi) pos v t) t ≡ wanted s pos (Some from) w (e ∷ es) v t
ends s pos from w e es v t r fits h =
    by_lt_z t e.from
    (λ below.
    none_of (int_le s.lo t) (int_lt t s.hi) (is_before pos (value_from e.value es t)) (Some pos) _ (test_first pos e es t r below ∙ h)
    ∙ ap (λ b. cond (int_le from t && b) (Some pos) v) (min_test e.from s.hi t below)
    ∙ all_of (int_le from t && int_lt t s.hi) (is_before pos (value_from w (e ∷ es) t)) (Some pos) v (test_below pos w e es t below ∙ fits.0))
    (λ above.
    ap (λ x. cond (int_le s.lo t && int_lt t s.hi && is_before pos (value_from e.value es t)) (Some pos) x) (past_end from (int_min e.from s.hi) t (omega (arith, ints, clamps)))
    ∙ ap (λ b. cond (b && int_lt t s.hi && is_before pos (value_from e.value es t)) (Some pos) v) (same_start above fits.2)
    ∙ ap (λ b. cond (int_le from t && int_lt t s.hi && b) (Some pos) v) (sym (test_above pos w e es t above)))
  where
    all_of : (a c : Bool) (p v : Option ℕ) → c ≡ true → cond a p v ≡ cond (a && c) p v
    all_of true c p v e = sym (ap (λ x. cond x p v) e)
    all_of false c p v e = refl

    lower : (x t : ℤ) → t <ℤ x → int_lt t x ≡ true
    lower x t l = grind (arith, ints)

    higher : (x t : ℤ) → x ≤ℤ t → int_lt t x ≡ false
    higher x t l = grind (arith, ints)

    min_test : (x y t : ℤ) → t <ℤ x → int_lt t (int_min x y) ≡ int_lt t y
    min_test x y t l = by_lt_z t y (λ below. lower (int_min x y) t (omega (arith, ints, clamps)) ∙ sym (lower y t below)) (λ above. higher (int_min x y) t (omega (arith, ints, clamps)) ∙ sym (higher y t above))

    past_end : (from end t : ℤ) → end ≤ℤ t → run_filled (Some from) end pos v t ≡ v
    past_end from end t l = ap (λ b. cond (int_le from t && b) (Some pos) v) (higher end t l) ∙ none (int_le from t)
      where
        none : (a : Bool) → cond (a && false) (Some pos) v ≡ v
        none true = refl
        none false = refl

    same_start : e.from ≤ℤ t → (from ≡ s.lo) ⊎ (from <ℤ e.from) → int_le s.lo t ≡ int_le from t
    same_start above (inl same) = ap (λ x. int_le x t) (sym same)
    same_start above (inr before) =
        let low : s.lo ≤ℤ from = fits.1 in
        let one : int_le s.lo t ≡ true = grind (arith, ints) in
        let two : int_le from t ≡ true = grind (arith, ints) in
        one ∙ sym two

filled_step : (s : SpanValue) (pos : ℕ) (run : Option ℤ) (w : Option ℕ) (e : Edge) (es : List Edge) (v : Option ℕ) (t : ℤ) (clear : Bool) → is_before pos e.value ≡ clear → IsRising (e ∷ es) → RunFits s pos run w (e ∷ es) → ((run' : Option ℤ) (v' : Option ℕ) → RunFits s pos run' e.value es → floor_filled s pos run' es v' t ≡ wanted s pos run' e.value es v' t) → floor_filled s pos (cond clear (open_run run (int_max e.from s.lo)) None) es (cond clear v (run_filled run (int_min e.from s.hi) pos v t)) t ≡ wanted s pos run w (e ∷ es) v t
filled_step s pos (Some from) w e es v t true h r fits rest =
    rest (Some from) v (h, fits.1, still fits.2)
    ∙ ap (λ b. cond (int_le from t && int_lt t s.hi && b) (Some pos) v) (test_same pos w e es t true r fits.0 h)
  where
    still : (from ≡ s.lo) ⊎ (from <ℤ e.from) → (from ≡ s.lo) ⊎ IsBelowFirst from es
    still (inl same) = inl same
    still (inr before) = inr (IsBelowFirst-from from e.from es (omega (arith, ints)) r.0)
filled_step s pos None w e es v t true h r fits rest =
    rest (Some (int_max e.from s.lo)) v (h, omega (arith, ints, clamps), start (int_lt s.lo e.from)) ∙ opens s pos w e es v t fits
  where
    start : (b : Bool) → (cond b e.from s.lo ≡ s.lo) ⊎ IsBelowFirst (cond b e.from s.lo) es
    start true = inr r.0
    start false = inl refl
filled_step s pos (Some from) w e es v t false h r fits rest = rest None (run_filled (Some from) (int_min e.from s.hi) pos v t) h ∙ ends s pos from w e es v t r fits h
filled_step s pos None w e es v t false h r fits rest =
    rest None v h ∙ ap (λ b. cond (int_le s.lo t && int_lt t s.hi && b) (Some pos) v) (test_same pos w e es t false r fits h)

filled_end : (s : SpanValue) (pos : ℕ) (run : Option ℤ) (w v : Option ℕ) (t : ℤ) → RunFits s pos run w [] → run_filled run s.hi pos v t ≡ wanted s pos run w [] v t
filled_end s pos None w v t fits = sym (none_of (int_le s.lo t) (int_lt t s.hi) (is_before pos w) (Some pos) v fits)
filled_end s pos (Some from) w v t fits = all (int_le from t && int_lt t s.hi)
  where
    all : (a : Bool) → cond a (Some pos) v ≡ cond (a && is_before pos w) (Some pos) v
    all true = sym (ap (λ b. cond b (Some pos) v) fits.0)
    all false = refl

filled : (s : SpanValue) (pos : ℕ) (run : Option ℤ) (w : Option ℕ) (es : List Edge) (v : Option ℕ) (t : ℤ) → IsRising es → RunFits s pos run w es → floor_filled s pos run es v t ≡ wanted s pos run w es v t
filled s pos run w [] v t r fits = filled_end s pos run w v t fits
filled s pos run w (e ∷ es) v t r fits = filled_step s pos run w e es v t (is_before pos e.value) refl r fits (λ run' v' f. filled s pos run' e.value es v' t r.1 f)

-- over the part of the floor within the span
pub floor_filled-between : (s : SpanValue) (pos : ℕ) (es : List Edge) (v : Option ℕ) (t : ℤ) → IsRising es → floor_filled s pos (run_on s pos (value_on s.lo es)) (between s.lo s.hi es) v t ≡ cond (in_span s t && is_before pos (value_from None es t)) (Some pos) v
floor_filled-between s pos es v t r =
    filled s pos (run_on s pos w) w part v t (rising-between s.lo s.hi es r) (fits (is_before pos w) refl) ∙ from_lo (is_before pos w) refl
  where
    w : Option ℕ
    w = value_on s.lo es

    part : List Edge
    part = between s.lo s.hi es

    fits : (b : Bool) → is_before pos w ≡ b → RunFits s pos (cond b (Some s.lo) None) w part
    fits true e = (e, omega (arith, ints), inl refl)
    fits false e = e

    same_test : (a : Bool) → in_span s t ≡ a → cond (a && is_before pos (value_from w part t)) (Some pos) v ≡ cond (a && is_before pos (value_from None es t)) (Some pos) v
    same_test true e = ap (λ x. cond (is_before pos x) (Some pos) v) (value_from-between s.lo s.hi es t (grind (arith, ints)) (grind (arith, ints)))
    same_test false e = refl

    from_lo : (b : Bool) → is_before pos w ≡ b → wanted s pos (cond b (Some s.lo) None) w part v t ≡ cond (in_span s t && is_before pos (value_from None es t)) (Some pos) v
    from_lo true e = same_test (in_span s t) refl
    from_lo false e = same_test (in_span s t) refl

-- ---- pieces of a part

-- a part has no more pieces than the whole
pub piece_count-between : (lo hi : ℤ) (es : List Edge) → piece_count (between lo hi es) ≤ piece_count es
piece_count-between lo hi es =
    let worth : Edge → ℕ = λ e. cond (has_value e) 1 0 in
    let whole = sum_by-take-drop worth es (place_upto lo es) in
    let part = sum_by-take-drop worth (drop (place_upto lo es) es) (place_below hi (drop (place_upto lo es) es)) in
    omega arith
