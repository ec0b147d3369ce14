-- Laws of changes: one more edge changes no value, nor does one that begins the value before it, and a change
-- within a span changes only its values.
use Rattle.std.proofs.Common.{◌≡◌, ℕ, ◌<◌, ◌≤◌, length, zero, suc, ◌+◌, Bool, true, false, not, cond, nat_eq, ◌⊎◌, inl, inr, ℤ, ◌≤ℤ◌, ◌<ℤ◌, int_lt, int_le, List, [], ◌∷◌, ◌++◌, map, take, drop, insert, get_or, set, Option, Some, None, refl, sym, ap, ◌∙◌, subst, arith, true≢false}
use Rattle.std.proofs.lemmas.Bool.{false≢true}
use Rattle.std.proofs.lemmas.List.{append_assoc, drop-set-lt, length-set}
use Rattle.std.proofs.Math.Seq.{drop-cons, take-suc-set}
use Rattle.std.specs.Option.{option_eq}
use Rattle.std.proofs.lemmas.Int.{ints, by_lt_z}
use Rattle.std.proofs.lemmas.Bool.Decides.{Decides-int_eq, Decides-eqb}
use Rattle.ts_bucket.specs.Spans.{SpanValue, in_span}
use Rattle.span_map.specs.declared.edges.Edge.{Edge}
use Rattle.span_map.specs.declared.changes.Change.{Change}
use Rattle.span_map.specs.Edges.{value_from, last_value, IsBelowFirst, IsRising, place_upto, place_below, begins_at}
use Rattle.span_map.specs.Changes.{value_after, edge_changed, edges_halfway, with_edge, ChangesValues}
use Rattle.span_map.proofs.EdgeLaws.{value_from-below, last_value-end, IsBelowFirst-from}

-- neither of two numbers is below the other
same_number : (a b : ℤ) → int_lt a b ≡ false → int_lt b a ≡ false → a ≡ b
same_number a b p q = grind (arith, ints)

not_both : (a b : ℤ) → int_lt a b ≡ true → int_lt b a ≡ true → ⊥
not_both a b p q = grind (arith, ints)

-- ---- one edge more

insert_step : (v : Option ℕ) (t : ℤ) (e : Edge) (es : List Edge) (k : ℕ) (below over : Bool) → int_lt e.from t ≡ below → int_lt t e.from ≡ over → (begins_at t (drop k es) ≡ false → insert es k (record { from = t; value = last_value e.value (take k es) }) ≡ with_edge e.value t es) → begins_at t (drop (cond below (suc k) 0) (e ∷ es)) ≡ false → insert (e ∷ es) (cond below (suc k) 0) (record { from = t; value = last_value v (take (cond below (suc k) 0) (e ∷ es)) }) ≡ cond over (record { from = t; value = v } ∷ e ∷ es) (cond below (e ∷ with_edge e.value t es) (e ∷ es))
insert_step v t e es k true true p q rest h = absurd (not_both e.from t p q)
insert_step v t e es k true false p q rest h = ap (λ xs. e ∷ xs) (rest h)
insert_step v t e es k false true p q rest h = refl
insert_step v t e es k false false p q rest h = absurd (true≢false (sym ((Decides-int_eq e.from t).1 (same_number e.from t p q)) ∙ h))

-- the edge inserted at its place, if none was at its number
pub with_edge-insert : (v : Option ℕ) (t : ℤ) (es : List Edge) → begins_at t (drop (place_below t es) es) ≡ false → insert es (place_below t es) (record { from = t; value = last_value v (take (place_below t es) es) }) ≡ with_edge v t es
with_edge-insert v t [] h = refl
with_edge-insert v t (e ∷ es) h = insert_step v t e es (place_below t es) (int_lt e.from t) (int_lt t e.from) refl refl (with_edge-insert e.value t es) h

there_step : (v : Option ℕ) (t : ℤ) (e : Edge) (es : List Edge) (k : ℕ) (below over : Bool) → int_lt e.from t ≡ below → int_lt t e.from ≡ over → (begins_at t (drop k es) ≡ true → with_edge e.value t es ≡ es) → begins_at t (drop (cond below (suc k) 0) (e ∷ es)) ≡ true → cond over (record { from = t; value = v } ∷ e ∷ es) (cond below (e ∷ with_edge e.value t es) (e ∷ es)) ≡ e ∷ es
there_step v t e es k true true p q rest h = absurd (not_both e.from t p q)
there_step v t e es k true false p q rest h = ap (λ xs. e ∷ xs) (rest h)
there_step v t e es k false true p q rest h = let same : e.from ≡ t = (Decides-int_eq e.from t).0 h in absurd (grind (arith, ints))
there_step v t e es k false false p q rest h = refl

-- the edges stay if one of them is at that number
pub with_edge-there : (v : Option ℕ) (t : ℤ) (es : List Edge) → begins_at t (drop (place_below t es) es) ≡ true → with_edge v t es ≡ es
with_edge-there v t [] h = absurd (false≢true h)
with_edge-there v t (e ∷ es) h = there_step v t e es (place_below t es) (int_lt e.from t) (int_lt t e.from) refl refl (with_edge-there e.value t es) h

-- the same for a place and a test that a search found
pub missing_there : (t : ℤ) (es : List Edge) (place : ℕ) (there : Bool) → place ≡ place_below t es → there ≡ begins_at t (drop place es) → there ≡ true → with_edge None t es ≡ es
missing_there t es place there p b h = with_edge-there None t es (sym (ap (λ n. begins_at t (drop n es)) p) ∙ sym b ∙ h)

pub missing_absent : (t : ℤ) (es : List Edge) (place : ℕ) (there : Bool) (v : Option ℕ) → place ≡ place_below t es → there ≡ begins_at t (drop place es) → there ≡ false → v ≡ last_value None (take place es) → insert es place (record { from = t; value = v }) ≡ with_edge None t es
missing_absent t es place there v p b h e =
    ap (λ w. insert es place (record { from = t; value = w })) e
    ∙ ap (λ n. insert es n (record { from = t; value = last_value None (take n es) })) p
    ∙ with_edge-insert None t es (sym (ap (λ n. begins_at t (drop n es)) p) ∙ sym b ∙ h)

-- a choice between the same
cond_same : (b : Bool) (x y : Option ℕ) → (b ≡ true → y ≡ x) → cond b x y ≡ y
cond_same true x y h = sym (h refl)
cond_same false x y h = refl

value_step : (v : Option ℕ) (t : ℤ) (e : Edge) (es : List Edge) (u : ℤ) (below over : Bool) → int_lt t e.from ≡ over → value_from e.value (with_edge e.value t es) u ≡ value_from e.value es u → value_from v (cond over (record { from = t; value = v } ∷ e ∷ es) (cond below (e ∷ with_edge e.value t es) (e ∷ es))) u ≡ value_from v (e ∷ es) u
value_step v t e es u below true q rest = cond_same (int_lt u t) v (value_from v (e ∷ es) u) (λ p. value_from-below v (e ∷ es) t u (grind (arith, ints)) (grind (arith, ints)))
value_step v t e es u true false q rest = ap (λ x. cond (int_lt u e.from) v x) rest
value_step v t e es u false false q rest = refl

-- one more edge changes no value
pub value_from-with_edge : (v : Option ℕ) (t : ℤ) (es : List Edge) (u : ℤ) → value_from v (with_edge v t es) u ≡ value_from v es u
value_from-with_edge v t [] u = cond_same (int_lt u t) v v (λ p. refl)
value_from-with_edge v t (e ∷ es) u = value_step v t e es u (int_lt e.from t) (int_lt t e.from) refl (value_from-with_edge e.value t es u)

below_step : (x : ℤ) (v : Option ℕ) (t : ℤ) (e : Edge) (es : List Edge) (below over : Bool) → x <ℤ e.from → x <ℤ t → IsBelowFirst x (cond over (record { from = t; value = v } ∷ e ∷ es) (cond below (e ∷ with_edge e.value t es) (e ∷ es)))
below_step x v t e es below true h l = l
below_step x v t e es true false h l = h
below_step x v t e es false false h l = h

below-with_edge : (x : ℤ) (v : Option ℕ) (t : ℤ) (es : List Edge) → IsBelowFirst x es → x <ℤ t → IsBelowFirst x (with_edge v t es)
below-with_edge x v t [] h l = l
below-with_edge x v t (e ∷ es) h l = below_step x v t e es (int_lt e.from t) (int_lt t e.from) h l

rising_step : (v : Option ℕ) (t : ℤ) (e : Edge) (es : List Edge) (below over : Bool) → int_lt e.from t ≡ below → int_lt t e.from ≡ over → IsRising (e ∷ es) → IsRising (with_edge e.value t es) → IsRising (cond over (record { from = t; value = v } ∷ e ∷ es) (cond below (e ∷ with_edge e.value t es) (e ∷ es)))
rising_step v t e es below true p q r rest = (grind (arith, ints), r)
rising_step v t e es true false p q r rest = (below-with_edge e.from e.value t es r.0 (grind (arith, ints)), rest)
rising_step v t e es false false p q r rest = r

-- the edges still rise
pub rising-with_edge : (v : Option ℕ) (t : ℤ) (es : List Edge) → IsRising es → IsRising (with_edge v t es)
rising-with_edge v t [] r = (tt, tt)
rising-with_edge v t (e ∷ es) r = rising_step v t e es (int_lt e.from t) (int_lt t e.from) refl refl r (rising-with_edge e.value t es r.1)

-- some edge is at x
abbrev HasEdge : ℤ → List Edge → Type 0
HasEdge x [] = ⊥
HasEdge x (e ∷ es) = (e.from ≡ x) ⊎ HasEdge x es

has_step : (v : Option ℕ) (t : ℤ) (e : Edge) (es : List Edge) (below over : Bool) → int_lt e.from t ≡ below → int_lt t e.from ≡ over → HasEdge t (with_edge e.value t es) → HasEdge t (cond over (record { from = t; value = v } ∷ e ∷ es) (cond below (e ∷ with_edge e.value t es) (e ∷ es)))
has_step v t e es below true p q rest = inl refl
has_step v t e es true false p q rest = inr rest
has_step v t e es false false p q rest = inl (same_number e.from t p q)

-- the edge is there
has-with_edge : (v : Option ℕ) (t : ℤ) (es : List Edge) → HasEdge t (with_edge v t es)
has-with_edge v t [] = inl refl
has-with_edge v t (e ∷ es) = has_step v t e es (int_lt e.from t) (int_lt t e.from) refl refl (has-with_edge e.value t es)

kept_step : (x : ℤ) (v : Option ℕ) (t : ℤ) (e : Edge) (es : List Edge) (below over : Bool) → (HasEdge x es → HasEdge x (with_edge e.value t es)) → HasEdge x (e ∷ es) → HasEdge x (cond over (record { from = t; value = v } ∷ e ∷ es) (cond below (e ∷ with_edge e.value t es) (e ∷ es)))
kept_step x v t e es below true rest h = inr h
kept_step x v t e es true false rest (inl p) = inl p
kept_step x v t e es true false rest (inr q) = inr (rest q)
kept_step x v t e es false false rest h = h

-- the others stay
kept-with_edge : (x : ℤ) (v : Option ℕ) (t : ℤ) (es : List Edge) → HasEdge x es → HasEdge x (with_edge v t es)
kept-with_edge x v t [] h = absurd h
kept-with_edge x v t (e ∷ es) h = kept_step x v t e es (int_lt e.from t) (int_lt t e.from) (kept-with_edge x e.value t es) h

-- ---- an edge that begins the value before it

-- dropping such an edge changes no value
skipped : (v : Option ℕ) (x : Edge) (xs : List Edge) (t : ℤ) → IsRising (x ∷ xs) → x.value ≡ v → value_from v xs t ≡ value_from v (x ∷ xs) t
skipped v x xs t r same = by_lt_z t x.from
    (λ below. let low : int_lt t x.from ≡ true = grind (arith, ints) in value_from-below v xs x.from t r.0 (omega (arith, ints)) ∙ sym (ap (λ b. cond b v (value_from x.value xs t)) low))
    (λ above. let high : int_lt t x.from ≡ false = grind (arith, ints) in sym (ap (λ b. cond b v (value_from x.value xs t)) high ∙ ap (λ w. value_from w xs t) same))

-- ---- a change within a span

below-changed : (x : ℤ) (s : SpanValue) (c : Change) (es : List Edge) → IsBelowFirst x es → IsBelowFirst x (map (edge_changed s c) es)
below-changed x s c [] h = h
below-changed x s c (e ∷ es) h = h

pub rising-changed : (s : SpanValue) (c : Change) (es : List Edge) → IsRising es → IsRising (map (edge_changed s c) es)
rising-changed s c [] r = r
rising-changed s c (e ∷ es) r = (below-changed e.from s c es r.0, rising-changed s c es r.1)

-- an edge at x is not below the first of the edges
at_or_above_first : (e : Edge) (es : List Edge) (x : ℤ) → IsRising (e ∷ es) → HasEdge x (e ∷ es) → e.from ≤ℤ x
at_or_above_first e es x r (inl p) = omega (arith, ints)
at_or_above_first e [] x r (inr q) = absurd q
at_or_above_first e (f ∷ fs) x r (inr q) =
    let next : e.from <ℤ f.from = r.0 in
    let rest : f.from ≤ℤ x = at_or_above_first f fs x r.1 q in
    omega (arith, ints)

-- an edge above the first is among the others
later_edge : (e : Edge) (es : List Edge) (x : ℤ) → e.from <ℤ x → HasEdge x (e ∷ es) → HasEdge x es
later_edge e es x l (inl p) = absurd (omega (arith, ints))
later_edge e es x l (inr q) = q

-- two numbers with no end of the span between them are both in it, or neither is
same_side : (s : SpanValue) (p t : ℤ) → p ≤ℤ t → (p <ℤ s.lo → t <ℤ s.lo) → (p <ℤ s.hi → t <ℤ s.hi) → in_span s p ≡ in_span s t
same_side s p t le lo hi = by_lt_z p s.lo
    (λ below. let l : t <ℤ s.lo = lo below in grind (arith, ints))
    (λ above. by_lt_z p s.hi
    (λ under. let u : t <ℤ s.hi = hi under in grind (arith, ints))
    (λ over. grind (arith, ints)))

-- from a number on, at which the values before and after the change are known
values_on : (s : SpanValue) (c : Change) (p : ℤ) (v w : Option ℕ) (es : List Edge) (t : ℤ) → IsBelowFirst p es → IsRising es → (p <ℤ s.lo → HasEdge s.lo es) → (p <ℤ s.hi → HasEdge s.hi es) → w ≡ cond (in_span s p) (value_after c v) v → p ≤ℤ t → value_from w (map (edge_changed s c) es) t ≡ cond (in_span s t) (value_after c (value_from v es t)) (value_from v es t)
values_on s c p v w [] t h r lo hi e le = e ∙ ap (λ b. cond b (value_after c v) v) (same_side s p t le (λ l. absurd (lo l)) (λ l. absurd (hi l)))
values_on s c p v w (x ∷ xs) t h r lo hi e le = by_lt_z t x.from
    (λ below.
    let low : int_lt t x.from ≡ true = grind (arith, ints) in
    let ends : (y : ℤ) → (p <ℤ y → HasEdge y (x ∷ xs)) → p <ℤ y → t <ℤ y = λ y has l. (let first : x.from ≤ℤ y = at_or_above_first x xs y r (has l) in omega (arith, ints)) in
    ap (λ b. cond b w (value_from (edge_changed s c x).value (map (edge_changed s c) xs) t)) low
    ∙ e ∙ ap (λ b. cond b (value_after c v) v) (same_side s p t le (ends s.lo lo) (ends s.hi hi))
    ∙ sym (ap (λ b. cond (in_span s t) (value_after c (cond b v (value_from x.value xs t))) (cond b v (value_from x.value xs t))) low))
    (λ above.
    let high : int_lt t x.from ≡ false = grind (arith, ints) in
    let before : p <ℤ x.from = h in
    ap (λ b. cond b w (value_from (edge_changed s c x).value (map (edge_changed s c) xs) t)) high
    ∙ values_on s c x.from x.value (edge_changed s c x).value xs t r.0 r.1 (λ l. later_edge x xs s.lo l (lo (omega (arith, ints)))) (λ l. later_edge x xs s.hi l (hi (omega (arith, ints)))) refl above
    ∙ sym (ap (λ b. cond (in_span s t) (value_after c (cond b v (value_from x.value xs t))) (cond b v (value_from x.value xs t))) high))

-- edges with one at each end of the span
values-changed : (s : SpanValue) (c : Change) (es : List Edge) (t : ℤ) → s.lo <ℤ s.hi → IsRising es → HasEdge s.lo es → HasEdge s.hi es → value_from None (map (edge_changed s c) es) t ≡ cond (in_span s t) (value_after c (value_from None es t)) (value_from None es t)
values-changed s c [] t l r lo hi = absurd lo
values-changed s c (x ∷ xs) t l r lo hi =
    let first : x.from ≤ℤ s.lo = at_or_above_first x xs s.lo r lo in
    by_lt_z t x.from
    (λ below.
    let low : int_lt t x.from ≡ true = grind (arith, ints) in
    let out : in_span s t ≡ false = grind (arith, ints) in
    ap (λ b. cond b None (value_from (edge_changed s c x).value (map (edge_changed s c) xs) t)) low
    ∙ sym (ap (λ b. cond b (value_after c (value_from None (x ∷ xs) t)) (value_from None (x ∷ xs) t)) out ∙ ap (λ b. cond b None (value_from x.value xs t)) low))
    (λ above.
    let high : int_lt t x.from ≡ false = grind (arith, ints) in
    ap (λ b. cond b None (value_from (edge_changed s c x).value (map (edge_changed s c) xs) t)) high
    ∙ values_on s c x.from x.value (edge_changed s c x).value xs t r.0 r.1 (λ below. later_edge x xs s.lo below lo) (λ below. later_edge x xs s.hi below hi) refl above
    ∙ sym (ap (λ b. cond (in_span s t) (value_after c (cond b None (value_from x.value xs t))) (cond b None (value_from x.value xs t))) high))

-- ---- edges changed in order

value_over : (v : Option ℕ) (xs ys zs : List Edge) (t : ℤ) → value_from (last_value v xs) ys t ≡ value_from (last_value v xs) zs t → value_from v (xs ++ ys) t ≡ value_from v (xs ++ zs) t
value_over v [] ys zs t e = e
value_over v (x ∷ xs) ys zs t e = ap (λ w. cond (int_lt t x.from) v w) (value_over x.value xs ys zs t e)

rising_back : (xs ys : List Edge) → IsRising (xs ++ ys) → IsRising ys
rising_back [] ys r = r
rising_back (x ∷ xs) ys r = rising_back xs ys r.1

below_without : (y : ℤ) (xs : List Edge) (x : Edge) (ys : List Edge) → IsRising (xs ++ x ∷ ys) → IsBelowFirst y (xs ++ x ∷ ys) → IsBelowFirst y (xs ++ ys)
below_without y [] x ys r h = IsBelowFirst-from y x.from ys (omega (arith, ints)) r.0
below_without y (z ∷ xs) x ys r h = h

-- rising edges without a middle one still rise
rising_without : (xs : List Edge) (x : Edge) (ys : List Edge) → IsRising (xs ++ x ∷ ys) → IsRising (xs ++ ys)
rising_without [] x ys r = r.1
rising_without (z ∷ xs) x ys r = (below_without z.from xs x ys r.1 r.0, rising_without xs x ys r.1)

-- the next edge to be changed
next_todo : (s : SpanValue) (c : Change) (done i : ℕ) (es : List Edge) (d : Edge) → i < length es → edges_halfway s c done i es ≡ take done es ++ edge_changed s c (get_or es i d) ∷ map (edge_changed s c) (drop (suc i) es)
next_todo s c done i es d l = ap (λ todo. take done es ++ map (edge_changed s c) todo) (drop-cons es i d l)

-- an edge that begins the value of the last one kept is removed
pub rising_skip : (s : SpanValue) (c : Change) (done i : ℕ) (es : List Edge) (d : Edge) → i < length es → IsRising (edges_halfway s c done i es) → IsRising (edges_halfway s c done (suc i) es)
rising_skip s c done i es d l r = rising_without (take done es) (edge_changed s c (get_or es i d)) (map (edge_changed s c) (drop (suc i) es)) (subst IsRising (next_todo s c done i es d l) r)

pub values_skip : (s : SpanValue) (c : Change) (done i : ℕ) (es : List Edge) (d : Edge) (t : ℤ) → i < length es → IsRising (edges_halfway s c done i es) → (edge_changed s c (get_or es i d)).value ≡ last_value None (take done es) → value_from None (edges_halfway s c done (suc i) es) t ≡ value_from None (edges_halfway s c done i es) t
values_skip s c done i es d t l r same =
    let x = edge_changed s c (get_or es i d) in
    let rest = map (edge_changed s c) (drop (suc i) es) in
    value_over None (take done es) rest (x ∷ rest) t (skipped (last_value None (take done es)) x rest t (rising_back (take done es) (x ∷ rest) (subst IsRising (next_todo s c done i es d l) r)) same)
    ∙ sym (ap (λ xs. value_from None xs t) (next_todo s c done i es d l))

-- an edge stays, at the place after the last one kept
pub halfway_keep : (s : SpanValue) (c : Change) (done i : ℕ) (es : List Edge) (d : Edge) → done ≤ i → i < length es → edges_halfway s c (suc done) (suc i) (set es done (edge_changed s c (get_or es i d))) ≡ edges_halfway s c done i es
halfway_keep s c done i es d le l =
    let x = edge_changed s c (get_or es i d) in
    ap (λ kept. kept ++ map (edge_changed s c) (drop (suc i) (set es done x))) (take-suc-set es done x (omega arith))
    ∙ ap (λ todo. (take done es ++ x ∷ []) ++ map (edge_changed s c) todo) (drop-set-lt (suc i) es done x (omega arith))
    ∙ append_assoc (take done es) (x ∷ []) (map (edge_changed s c) (drop (suc i) es))
    ∙ sym (next_todo s c done i es d l)

pub last_keep : (done : ℕ) (es : List Edge) (x : Edge) → done < length es → x.value ≡ last_value None (take (suc done) (set es done x))
last_keep done es x l = sym (ap (last_value None) (take-suc-set es done x l) ∙ last_value-end None (take done es) x)

-- the edges before a place are changed, and those that begin no new value removed; those from the place on
-- aren't changed
pub record IsHalfway (s : SpanValue) (c : Change) (first : ℕ) (old : List Edge) (kept : ℕ) (v : Option ℕ) (i : ℕ) (es : List Edge) : Type 0 where
  pub low : first ≤ i
  pub high : kept ≤ i
  pub len : length es ≡ length old
  pub after : drop i es ≡ drop i old
  pub last : v ≡ last_value None (take kept es)
  pub rising : IsRising (edges_halfway s c kept i es)
  pub values : (t : ℤ) → value_from None (edges_halfway s c kept i es) t ≡ value_from None (edges_halfway s c first first old) t

drop_next : (i : ℕ) (es old : List Edge) → drop i es ≡ drop i old → drop (suc i) es ≡ drop (suc i) old
drop_next i es old e = sym (drop_one i es) ∙ ap (drop 1) e ∙ drop_one i old
  where
    drop_one : (i : ℕ) (xs : List Edge) → drop 1 (drop i xs) ≡ drop (suc i) xs
    drop_one zero xs = refl
    drop_one (suc i) [] = refl
    drop_one (suc i) (x ∷ xs) = drop_one i xs

pub halfway_skipped : (s : SpanValue) (c : Change) (first : ℕ) (old : List Edge) (kept : ℕ) (v : Option ℕ) (i : ℕ) (es : List Edge) (x d : Edge) (kept' : ℕ) (v' : Option ℕ) (es' : List Edge) → es' ≡ es → kept' ≡ kept → v' ≡ v → i < length es → x ≡ edge_changed s c (get_or es i d) → x.value ≡ v → IsHalfway s c first old kept v i es → IsHalfway s c first old kept' v' (i + 1) es'
halfway_skipped s c first old kept v i es x d kept' v' es' e f g l is same h =
    let le : kept ≤ i = h.high in
    let lo : first ≤ i = h.low in
    let next : suc i ≡ i + 1 = omega arith in
    let begins : (edge_changed s c (get_or es i d)).value ≡ last_value None (take kept es) = ap (λ (e : Edge). e.value) (sym is) ∙ same ∙ h.last in
    subst (λ n. IsHalfway s c first old kept' v' n es') next (subst (λ xs. IsHalfway s c first old kept' v' (suc i) xs) (sym e) (subst (λ k. IsHalfway s c first old k v' (suc i) es) (sym f) (record {
      low = omega arith;
      high = omega arith;
      len = h.len;
      after = drop_next i es old h.after;
      last = g ∙ h.last;
      rising = rising_skip s c kept i es d l h.rising;
      values = λ t. values_skip s c kept i es d t l h.rising begins ∙ h.values t;
    })))

pub halfway_kept : (s : SpanValue) (c : Change) (first : ℕ) (old : List Edge) (kept : ℕ) (v : Option ℕ) (i : ℕ) (es : List Edge) (x d : Edge) (kept' : ℕ) (v' : Option ℕ) (es' : List Edge) → es' ≡ set es kept x → kept' ≡ kept + 1 → v' ≡ x.value → i < length es → x ≡ edge_changed s c (get_or es i d) → IsHalfway s c first old kept v i es → IsHalfway s c first old kept' v' (i + 1) es'
halfway_kept s c first old kept v i es x d kept' v' es' e f g l is h =
    let le : kept ≤ i = h.high in
    let lo : first ≤ i = h.low in
    let next : suc i ≡ i + 1 = omega arith in
    let more : kept' ≡ suc kept = omega arith in
    let same : edges_halfway s c (suc kept) (suc i) (set es kept x) ≡ edges_halfway s c kept i es = ap (λ y. edges_halfway s c (suc kept) (suc i) (set es kept y)) is ∙ halfway_keep s c kept i es d le l in
    subst (λ n. IsHalfway s c first old kept' v' n es') next (subst (λ xs. IsHalfway s c first old kept' v' (suc i) xs) (sym e) (subst (λ k. IsHalfway s c first old k v' (suc i) (set es kept x)) (sym more) (record {
      low = omega arith;
      high = omega arith;
      len = length-set es kept x ∙ h.len;
      after = drop-set-lt (suc i) es kept x (omega arith) ∙ drop_next i es old h.after;
      last = g ∙ last_keep kept es x (omega arith);
      rising = subst IsRising (sym same) h.rising;
      values = λ t. ap (λ xs. value_from None xs t) same ∙ h.values t;
    })))

-- what the test of two values says
pub equal_values : (a b : Option ℕ) (differ : Bool) → differ ≡ not (option_eq nat_eq a b) → differ ≡ false → a ≡ b
equal_values None None differ e f = refl
equal_values None (Some q) differ e f = absurd (true≢false (sym e ∙ f))
equal_values (Some p) None differ e f = absurd (true≢false (sym e ∙ f))
equal_values (Some p) (Some q) differ e f = by (nat_eq p q) refl
  where
    by : (b : Bool) → nat_eq p q ≡ b → Some p ≡ Some q
    by true t = ap Some ((Decides-eqb p q).0 t)
    by false t = absurd (true≢false (sym (e ∙ ap not t) ∙ f))

-- edges below a span, and those above its end, stay
kept_below : (s : SpanValue) (c : Change) (e : Edge) → e.from <ℤ s.lo → edge_changed s c e ≡ e
kept_below s c e l = let out : in_span s e.from ≡ false = grind (arith, ints) in ap (λ b. record { from = e.from; value = cond b (value_after c e.value) e.value }) out

kept_above : (s : SpanValue) (c : Change) (e : Edge) → s.hi ≤ℤ e.from → edge_changed s c e ≡ e
kept_above s c e l = let out : in_span s e.from ≡ false = grind (arith, ints) in ap (λ b. record { from = e.from; value = cond b (value_after c e.value) e.value }) out

pub halfway_start : (s : SpanValue) (c : Change) (es : List Edge) → edges_halfway s c (place_below s.lo es) (place_below s.lo es) es ≡ map (edge_changed s c) es
halfway_start s c [] = refl
halfway_start s c (e ∷ es) = by (int_lt e.from s.lo) refl (halfway_start s c es)
  where
    by : (b : Bool) → int_lt e.from s.lo ≡ b → edges_halfway s c (place_below s.lo es) (place_below s.lo es) es ≡ map (edge_changed s c) es → edges_halfway s c (cond b (suc (place_below s.lo es)) 0) (cond b (suc (place_below s.lo es)) 0) (e ∷ es) ≡ map (edge_changed s c) (e ∷ es)
    by true l rest = ap (λ x. x ∷ edges_halfway s c (place_below s.lo es) (place_below s.lo es) es) (sym (kept_below s c e (grind (arith, ints)))) ∙ ap (λ xs. edge_changed s c e ∷ xs) rest
    by false l rest = refl

all_kept : (s : SpanValue) (c : Change) (x : ℤ) (es : List Edge) → s.hi ≤ℤ x → IsBelowFirst x es → IsRising es → map (edge_changed s c) es ≡ es
all_kept s c x [] le h r = refl
all_kept s c x (e ∷ es) le h r =
    let above : x <ℤ e.from = h in
    let over : s.hi ≤ℤ e.from = omega (arith, ints) in
    ap (λ y. y ∷ map (edge_changed s c) es) (kept_above s c e over) ∙ ap (λ ys. e ∷ ys) (all_kept s c e.from es over r.0 r.1)

later_kept : (s : SpanValue) (c : Change) (es : List Edge) → IsRising es → map (edge_changed s c) (drop (place_upto s.hi es) es) ≡ drop (place_upto s.hi es) es
later_kept s c [] r = refl
later_kept s c (e ∷ es) r = by (int_le e.from s.hi) refl (later_kept s c es r.1)
  where
    by : (b : Bool) → int_le e.from s.hi ≡ b → map (edge_changed s c) (drop (place_upto s.hi es) es) ≡ drop (place_upto s.hi es) es → map (edge_changed s c) (drop (cond b (suc (place_upto s.hi es)) 0) (e ∷ es)) ≡ drop (cond b (suc (place_upto s.hi es)) 0) (e ∷ es)
    by true l rest = rest
    by false l rest =
        let over : s.hi ≤ℤ e.from = grind (arith, ints) in
        ap (λ y. y ∷ map (edge_changed s c) es) (kept_above s c e over) ∙ ap (λ ys. e ∷ ys) (all_kept s c e.from es over r.0 r.1)

-- the search for the start of a span ends at or before that for its end
pub places_ordered : (lo hi : ℤ) (es : List Edge) → lo ≤ℤ hi → place_below lo es ≤ place_upto hi es
places_ordered lo hi [] le = omega arith
places_ordered lo hi (e ∷ es) le = by (int_lt e.from lo) refl (places_ordered lo hi es le)
  where
    by : (b : Bool) → int_lt e.from lo ≡ b → place_below lo es ≤ place_upto hi es → cond b (suc (place_below lo es)) 0 ≤ place_upto hi (e ∷ es)
    by false l rest = omega arith
    by true l rest =
        let in_reach : int_le e.from hi ≡ true = grind (arith, ints) in
        subst (λ n. suc (place_below lo es) ≤ n) (sym (ap (λ b. cond b (suc (place_upto hi es)) 0) in_reach)) (omega arith)

-- if edges were changed between the places that two searches found, the values are those of all edges changed
pub halfway_begins : (s : SpanValue) (c : Change) (es : List Edge) (lo : ℤ) (first : ℕ) → lo ≡ s.lo → first ≡ place_below lo es → edges_halfway s c first first es ≡ map (edge_changed s c) es
halfway_begins s c es lo first l e = ap (λ n. edges_halfway s c n n es) (e ∙ ap (λ x. place_below x es) l) ∙ halfway_start s c es

pub halfway_ends : (s : SpanValue) (c : Change) (old new : List Edge) (hi : ℤ) (kept end : ℕ) → IsRising old → hi ≡ s.hi → end ≡ place_upto hi old → drop end new ≡ drop end old → edges_halfway s c kept end new ≡ take kept new ++ drop end new
halfway_ends s c old new hi kept end r h e same =
    let found : end ≡ place_upto s.hi old = e ∙ ap (λ x. place_upto x old) h in
    ap (λ todo. take kept new ++ map (edge_changed s c) todo) (same ∙ ap (λ n. drop n old) found)
    ∙ ap (λ todo. take kept new ++ todo) (later_kept s c old r)
    ∙ ap (λ todo. take kept new ++ todo) (sym (same ∙ ap (λ n. drop n old) found))

-- edges in which both ends of a span begin a value still rise when those within it are changed, and have the values of the change
pub rising-edges_changed : (s : SpanValue) (c : Change) (es : List Edge) → IsRising es → IsRising (map (edge_changed s c) (with_edge None s.hi (with_edge None s.lo es)))
rising-edges_changed s c es r = rising-changed s c _ (rising-with_edge None s.hi _ (rising-with_edge None s.lo es r))

pub values-edges_changed : (s : SpanValue) (c : Change) (es : List Edge) → s.lo <ℤ s.hi → IsRising es → ChangesValues s c es (map (edge_changed s c) (with_edge None s.hi (with_edge None s.lo es)))
values-edges_changed s c es l r t =
    let one = with_edge None s.lo es in
    let two = with_edge None s.hi one in
    let rise : IsRising two = rising-with_edge None s.hi one (rising-with_edge None s.lo es r) in
    let same : value_from None two t ≡ value_from None es t = value_from-with_edge None s.hi one t ∙ value_from-with_edge None s.lo es t in
    values-changed s c two t l rise (kept-with_edge s.lo None s.hi one (has-with_edge None s.lo es)) (has-with_edge None s.hi one)
    ∙ ap (λ v. cond (in_span s t) (value_after c v) v) same

-- a change within an empty span changes nothing
pub values-unchanged : (s : SpanValue) (c : Change) (es : List Edge) → s.hi ≤ℤ s.lo → ChangesValues s c es es
values-unchanged s c es l t =
    let out : in_span s t ≡ false = grind (arith, ints) in
    sym (ap (λ b. cond b (value_after c (value_from None es t)) (value_from None es t)) out)
