-- The pieces between two numbers have exactly the values there, and rise.
use Rattle.std.proofs.Common.{◌≡◌, ℕ, zero, suc, Bool, true, false, cond, ◌&&◌, ℤ, ◌≤ℤ◌, ◌<ℤ◌, int_lt, int_le, List, [], ◌∷◌, ◌++◌, take, drop, Option, Some, None, Result, Ok, Err, IfOk, refl, sym, ap, ◌∙◌, subst, arith}
use Rattle.std.proofs.lemmas.Int.{ints, by_lt_z}
use Rattle.ts_bucket.specs.Spans.{SpanValue, in_span}
use Rattle.span_map.specs.declared.edges.Edge.{Edge}
use Rattle.span_map.specs.declared.pieces.Piece.{Piece}
use Rattle.span_map.specs.Edges.{value_from, last_value, IsBelowFirst, IsRising, place_upto, place_below, value_on, between, edges_between}
use Rattle.span_map.proofs.EdgeLaws.{AllBelow, value_from-before_end, value_from-end, rising-end, below-end}
use Rattle.span_map.specs.Pieces.{piece_at, ArePieces, piece_of, pieces_from}
use Rattle.ts_schema.proofs.Cases.{le-int_le}

lower : (x t : ℤ) → t <ℤ x → int_lt t x ≡ true
lower x t l = grind (arith, ints)

higher : (x t : ℤ) → x ≤ℤ t → int_lt t x ≡ false
higher x t l = grind (arith, ints)

not_from : (x t : ℤ) → t <ℤ x → int_le x t ≡ false
not_from x t l = grind (arith, ints)

neither : (a : Bool) (v : Option ℕ) → cond (a && false) v None ≡ None
neither true v = refl
neither false v = refl

nothing : (b : Bool) → cond {A = Option ℕ} b None None ≡ None
nothing true = refl
nothing false = refl

-- the first piece, and those after it
piece_at-first : (lo hi : ℤ) (v : Option ℕ) (ps : List Piece) (t : ℤ) → lo <ℤ hi → (t <ℤ hi → piece_at ps t ≡ None) → piece_at (piece_of lo hi v ++ ps) t ≡ cond (int_lt t hi) (cond (int_le lo t) v None) (piece_at ps t)
piece_at-first lo hi None ps t l after = by_lt_z t hi
    (λ below. after below ∙ sym (ap (λ b. cond b (cond (int_le lo t) None None) (piece_at ps t)) (lower hi t below) ∙ nothing (int_le lo t)))
    (λ above. sym (ap (λ b. cond b (cond (int_le lo t) None None) (piece_at ps t)) (higher hi t above)))
piece_at-first lo hi (Some pos) ps t l after =
    ap (λ b. piece_at (cond b (record { span = record { lo = lo; hi = hi }; pos = pos } ∷ []) [] ++ ps) t) (lower hi lo l)
    ∙ by_lt_z t hi
    (λ below.
    ap (λ b. cond (int_le lo t && b) (Some pos) (piece_at ps t)) (lower hi t below)
    ∙ whole (int_le lo t) (after below)
    ∙ sym (ap (λ b. cond b (cond (int_le lo t) (Some pos) None) (piece_at ps t)) (lower hi t below)))
    (λ above.
    ap (λ b. cond (int_le lo t && b) (Some pos) (piece_at ps t)) (higher hi t above)
    ∙ out (int_le lo t)
    ∙ sym (ap (λ b. cond b (cond (int_le lo t) (Some pos) None) (piece_at ps t)) (higher hi t above)))
  where
    whole : (b : Bool) → piece_at ps t ≡ None → cond (b && true) (Some pos) (piece_at ps t) ≡ cond b (Some pos) None
    whole true e = refl
    whole false e = e

    out : (b : Bool) → cond (b && false) (Some pos) (piece_at ps t) ≡ piece_at ps t
    out true = refl
    out false = refl

piece_at-last : (lo hi : ℤ) (v : Option ℕ) (t : ℤ) → piece_at (piece_of lo hi v) t ≡ cond (int_le lo t && int_lt t hi) v None
piece_at-last lo hi None t = sym (nothing (int_le lo t && int_lt t hi))
piece_at-last lo hi (Some pos) t = by_lt_z lo hi
    (λ l. ap (λ b. piece_at (cond b (record { span = record { lo = lo; hi = hi }; pos = pos } ∷ []) []) t) (lower hi lo l))
    (λ g. ap (λ b. piece_at (cond b (record { span = record { lo = lo; hi = hi }; pos = pos } ∷ []) []) t) (higher hi lo g) ∙ sym (empty g))
  where
    empty : hi ≤ℤ lo → cond (int_le lo t && int_lt t hi) (Some pos) None ≡ None
    empty g = by_lt_z t lo
        (λ below. ap (λ b. cond (b && int_lt t hi) (Some pos) None) (not_from lo t below))
        (λ above. ap (λ b. cond (int_le lo t && b) (Some pos) None) (higher hi t (omega (arith, ints))) ∙ neither (int_le lo t) (Some pos))

-- the value of the pieces between two numbers is that of the edges, and there is none elsewhere
pub piece_at-pieces_from : (lo hi : ℤ) (v : Option ℕ) (es : List Edge) (t : ℤ) → IsBelowFirst lo es → IsRising es → AllBelow hi es → piece_at (pieces_from lo hi v es) t ≡ cond (int_le lo t && int_lt t hi) (value_from v es t) None
piece_at-pieces_from lo hi v [] t h r b = piece_at-last lo hi v t
piece_at-pieces_from lo hi v (e ∷ es) t h r b =
    let rest : piece_at (pieces_from e.from hi e.value es) t ≡ cond (int_le e.from t && int_lt t hi) (value_from e.value es t) None = piece_at-pieces_from e.from hi e.value es t r.0 r.1 b.1 in
    let none : t <ℤ e.from → piece_at (pieces_from e.from hi e.value es) t ≡ None = λ l. rest ∙ ap (λ c. cond (c && int_lt t hi) (value_from e.value es t) None) (not_from e.from t l) in
    piece_at-first lo e.from v (pieces_from e.from hi e.value es) t h none
    ∙ by_lt_z t e.from
    (λ below.
    let under : t <ℤ hi = let end : e.from <ℤ hi = b.0 in omega (arith, ints) in
    ap (λ c. cond c (cond (int_le lo t) v None) (piece_at (pieces_from e.from hi e.value es) t)) (lower e.from t below)
    ∙ both (int_le lo t)
    ∙ sym (ap (λ c. cond (int_le lo t && c) (value_from v (e ∷ es) t) None) (lower hi t under) ∙ ap (λ c. cond (int_le lo t && true) (cond c v (value_from e.value es t)) None) (lower e.from t below)))
    (λ above.
    let low : lo ≤ℤ t = let first : lo <ℤ e.from = h in omega (arith, ints) in
    ap (λ c. cond c (cond (int_le lo t) v None) (piece_at (pieces_from e.from hi e.value es) t)) (higher e.from t above)
    ∙ rest ∙ ap (λ c. cond (c && int_lt t hi) (value_from e.value es t) None) (le-int_le e.from t above ∙ sym (le-int_le lo t low))
    ∙ ap (λ c. cond (int_le lo t && int_lt t hi) (cond c v (value_from e.value es t)) None) (sym (higher e.from t above)))
  where
    both : (c : Bool) → cond c v None ≡ cond (c && true) v None
    both true = refl
    both false = refl

weakened : (lo lo' hi : ℤ) (ps : List Piece) → lo' ≤ℤ lo → ArePieces lo hi ps → ArePieces lo' hi ps
weakened lo lo' hi [] l h = tt
weakened lo lo' hi (p ∷ ps) l h = (let low : lo ≤ℤ p.span.lo = h.0 in omega (arith, ints), h.1, h.2, h.3)

rising_first : (lo mid hi : ℤ) (v : Option ℕ) (ps : List Piece) → lo <ℤ mid → mid ≤ℤ hi → ArePieces mid hi ps → ArePieces lo hi (piece_of lo mid v ++ ps)
rising_first lo mid hi None ps l g h = weakened mid lo hi ps (omega (arith, ints)) h
rising_first lo mid hi (Some pos) ps l g h =
    let P : Bool → Type 0 = λ b. ArePieces lo hi (cond b (record { span = record { lo = lo; hi = mid }; pos = pos } ∷ []) [] ++ ps) in
    subst P (sym (lower mid lo l)) (omega (arith, ints), l, g, h)

rising_last : (lo hi : ℤ) (v : Option ℕ) → ArePieces lo hi (piece_of lo hi v)
rising_last lo hi None = tt
rising_last lo hi (Some pos) = by (int_lt lo hi) refl
  where
    by : (b : Bool) → int_lt lo hi ≡ b → ArePieces lo hi (cond b (record { span = record { lo = lo; hi = hi }; pos = pos } ∷ []) [])
    by true e = (omega (arith, ints), grind (arith, ints), omega (arith, ints), tt)
    by false e = tt

-- the pieces rise
pub rising-pieces_from : (lo hi : ℤ) (v : Option ℕ) (es : List Edge) → IsBelowFirst lo es → IsRising es → AllBelow hi es → ArePieces lo hi (pieces_from lo hi v es)
rising-pieces_from lo hi v [] h r b = rising_last lo hi v
rising-pieces_from lo hi v (e ∷ es) h r b =
    let end : e.from <ℤ hi = b.0 in
    rising_first lo e.from hi v (pieces_from e.from hi e.value es) h (omega (arith, ints)) (rising-pieces_from e.from hi e.value es r.0 r.1 b.1)

-- ---- the edges between two numbers

pub below-drop_upto : (lo : ℤ) (es : List Edge) → IsBelowFirst lo (drop (place_upto lo es) es)
below-drop_upto lo [] = tt
below-drop_upto lo (e ∷ es) = by (int_le e.from lo) refl (below-drop_upto lo es)
  where
    by : (b : Bool) → int_le e.from lo ≡ b → IsBelowFirst lo (drop (place_upto lo es) es) → IsBelowFirst lo (drop (cond b (suc (place_upto lo es)) 0) (e ∷ es))
    by true p rest = rest
    by false p rest = grind (arith, ints)

pub rising-drop : (n : ℕ) (es : List Edge) → IsRising es → IsRising (drop n es)
rising-drop zero es r = r
rising-drop (suc n) [] r = r
rising-drop (suc n) (e ∷ es) r = rising-drop n es r.1

pub below-take : (x : ℤ) (n : ℕ) (es : List Edge) → IsBelowFirst x es → IsBelowFirst x (take n es)
below-take x zero es h = tt
below-take x (suc n) [] h = h
below-take x (suc n) (e ∷ es) h = h

pub rising-take : (n : ℕ) (es : List Edge) → IsRising es → IsRising (take n es)
rising-take zero es r = tt
rising-take (suc n) [] r = r
rising-take (suc n) (e ∷ es) r = (below-take e.from n es r.0, rising-take n es r.1)

pub all_below-take : (hi : ℤ) (es : List Edge) → AllBelow hi (take (place_below hi es) es)
all_below-take hi [] = tt
all_below-take hi (e ∷ es) = by (int_lt e.from hi) refl (all_below-take hi es)
  where
    by : (b : Bool) → int_lt e.from hi ≡ b → AllBelow hi (take (place_below hi es) es) → AllBelow hi (take (cond b (suc (place_below hi es)) 0) (e ∷ es))
    by true p rest = (grind (arith, ints), rest)
    by false p rest = tt

pub value_from-drop : (w : Option ℕ) (lo : ℤ) (es : List Edge) (t : ℤ) → lo ≤ℤ t → value_from (last_value w (take (place_upto lo es) es)) (drop (place_upto lo es) es) t ≡ value_from w es t
value_from-drop w lo [] t l = refl
value_from-drop w lo (e ∷ es) t l = by (int_le e.from lo) refl (value_from-drop e.value lo es t l)
  where
    by : (b : Bool) → int_le e.from lo ≡ b → value_from (last_value e.value (take (place_upto lo es) es)) (drop (place_upto lo es) es) t ≡ value_from e.value es t → value_from (last_value w (take (cond b (suc (place_upto lo es)) 0) (e ∷ es))) (drop (cond b (suc (place_upto lo es)) 0) (e ∷ es)) t ≡ value_from w (e ∷ es) t
    by true p rest =
        let at : e.from ≤ℤ lo = grind (arith, ints) in
        rest ∙ sym (ap (λ b. cond b w (value_from e.value es t)) (higher e.from t (omega (arith, ints))))
    by false p rest = refl

pub value_from-take : (w : Option ℕ) (hi : ℤ) (es : List Edge) (t : ℤ) → t <ℤ hi → value_from w (take (place_below hi es) es) t ≡ value_from w es t
value_from-take w hi [] t l = refl
value_from-take w hi (e ∷ es) t l = by (int_lt e.from hi) refl (value_from-take e.value hi es t l)
  where
    by : (b : Bool) → int_lt e.from hi ≡ b → value_from e.value (take (place_below hi es) es) t ≡ value_from e.value es t → value_from w (take (cond b (suc (place_below hi es)) 0) (e ∷ es)) t ≡ value_from w (e ∷ es) t
    by true p rest = ap (λ x. cond (int_lt t e.from) w x) rest
    by false p rest =
        let above : hi ≤ℤ e.from = grind (arith, ints) in
        sym (ap (λ b. cond b w (value_from e.value es t)) (lower e.from t (omega (arith, ints))))

-- the edges between two numbers rise, above the first and below the second
pub rising-between : (lo hi : ℤ) (es : List Edge) → IsRising es → IsRising (between lo hi es)
rising-between lo hi es r = rising-take _ (drop (place_upto lo es) es) (rising-drop _ es r)

pub below-between : (lo hi : ℤ) (es : List Edge) → IsBelowFirst lo (between lo hi es)
below-between lo hi es = below-take lo _ (drop (place_upto lo es) es) (below-drop_upto lo es)

pub all_below-between : (lo hi : ℤ) (es : List Edge) → AllBelow hi (between lo hi es)
all_below-between lo hi es = all_below-take hi (drop (place_upto lo es) es)

-- and have the values there
pub value_from-between : (lo hi : ℤ) (es : List Edge) (t : ℤ) → lo ≤ℤ t → t <ℤ hi → value_from (value_on lo es) (between lo hi es) t ≡ value_from None es t
value_from-between lo hi es t low high = value_from-take (value_on lo es) hi (drop (place_upto lo es) es) t high ∙ value_from-drop None lo es t low

-- the pieces within a span have the values of the edges
pub piece_at-within : (s : SpanValue) (es : List Edge) (t : ℤ) → IsRising es → piece_at (pieces_from s.lo s.hi (value_on s.lo es) (between s.lo s.hi es)) t ≡ cond (in_span s t) (value_from None es t) None
piece_at-within s es t r =
    piece_at-pieces_from s.lo s.hi (value_on s.lo es) (between s.lo s.hi es) t (below-between s.lo s.hi es) (rising-between s.lo s.hi es r) (all_below-between s.lo s.hi es)
    ∙ by (in_span s t) refl
  where
    by : (b : Bool) → in_span s t ≡ b → cond b (value_from (value_on s.lo es) (between s.lo s.hi es) t) None ≡ cond b (value_from None es t) None
    by true h = value_from-between s.lo s.hi es t (grind (arith, ints)) (grind (arith, ints))
    by false h = refl

pub rising-within : (s : SpanValue) (es : List Edge) → IsRising es → ArePieces s.lo s.hi (pieces_from s.lo s.hi (value_on s.lo es) (between s.lo s.hi es))
rising-within s es r = rising-pieces_from s.lo s.hi (value_on s.lo es) (between s.lo s.hi es) (below-between s.lo s.hi es) (rising-between s.lo s.hi es r) (all_below-between s.lo s.hi es)

-- the same of a result that has these pieces
pub values_as : {E : Type 0} (s : SpanValue) (es : List Edge) (r : Result (List Piece) E) (found : List Piece) → IsRising es → found ≡ pieces_from s.lo s.hi (value_on s.lo es) (between s.lo s.hi es) → IfOk r (λ pieces. pieces ≡ found) → IfOk r (λ pieces. (t : ℤ) → piece_at pieces t ≡ cond (in_span s t) (value_from None es t) None)
values_as s es (Ok pieces) found r e h = λ t. ap (λ ps. piece_at ps t) (h ∙ e) ∙ piece_at-within s es t r
values_as s es (Err x) found r e h = tt

pub rising_as : {E : Type 0} (s : SpanValue) (es : List Edge) (r : Result (List Piece) E) (found : List Piece) → IsRising es → found ≡ pieces_from s.lo s.hi (value_on s.lo es) (between s.lo s.hi es) → IfOk r (λ pieces. pieces ≡ found) → IfOk r (λ pieces. ArePieces s.lo s.hi pieces)
rising_as s es (Ok pieces) found r e h = subst (ArePieces s.lo s.hi) (sym (h ∙ e)) (rising-within s es r)
rising_as s es (Err x) found r e h = tt

-- ---- the part of a map within a span

pub rising-framed : (lo hi : ℤ) (es : List Edge) → lo <ℤ hi → IsRising es → IsRising (edges_between lo hi (value_on lo es) (between lo hi es))
rising-framed lo hi es l r =
    let part = between lo hi es in
    let end : Edge = record { from = hi; value = None } in
    (below-end lo part end l (below-between lo hi es), rising-end part end (all_below-between lo hi es) (rising-between lo hi es r))

pub value_from-framed : (s : SpanValue) (es : List Edge) (t : ℤ) → s.lo <ℤ s.hi → value_from None (edges_between s.lo s.hi (value_on s.lo es) (between s.lo s.hi es)) t ≡ cond (in_span s t) (value_from None es t) None
value_from-framed s es t l = by_lt_z t s.lo
    (λ below.
    let out : in_span s t ≡ false = grind (arith, ints) in
    ap (λ b. cond b None (value_from v (part ++ end ∷ []) t)) (lower s.lo t below) ∙ sym (ap (λ b. cond b (value_from None es t) None) out))
    (λ above. ap (λ b. cond b None (value_from v (part ++ end ∷ []) t)) (higher s.lo t above) ∙ by_lt_z t s.hi
    (λ under.
    let inside : in_span s t ≡ true = grind (arith, ints) in
    value_from-before_end v part end t under ∙ value_from-between s.lo s.hi es t above under ∙ sym (ap (λ b. cond b (value_from None es t) None) inside))
    (λ over.
    let out : in_span s t ≡ false = grind (arith, ints) in
    value_from-end v part end t (all_below-between s.lo s.hi es) over ∙ sym (ap (λ b. cond b (value_from None es t) None) out)))
  where
    part : List Edge
    part = between s.lo s.hi es

    v : Option ℕ
    v = value_on s.lo es

    end : Edge
    end = record { from = s.hi; value = None }
