-- Edges whose part within a span is replaced by that of another map have the values of both.
use Rattle.std.proofs.Common.{◌≡◌, ℕ, Bool, true, false, not, cond, nat_eq, ◌&&◌, ℤ, ◌≤ℤ◌, ◌<ℤ◌, int_lt, int_le, List, [], ◌∷◌, ◌++◌, ◌-◌, drop, take, Option, None, refl, sym, ap, ◌∙◌, subst, arith}
use Rattle.std.specs.Option.{option_eq}
use Rattle.std.proofs.lemmas.Int.{ints, by_lt_z}
use Rattle.std.proofs.lemmas.List.{append_assoc}
use Rattle.ts_bucket.specs.Spans.{SpanValue, in_span}
use Rattle.block_list.specs.Lists.{splice}
use Rattle.span_map.specs.declared.edges.Edge.{Edge}
use Rattle.span_map.specs.Edges.{value_from, last_value, IsBelowFirst, IsRising, place_below, place_upto, value_on, between}
use Rattle.span_map.specs.Patches.{edge_if, patch_of}
use Rattle.span_map.proofs.ChangeLaws.{equal_values}
use Rattle.span_map.proofs.EdgeLaws.{AllBelow, IsBelowFirst-from, value_from-below}
use Rattle.span_map.proofs.SearchLaws.{place_below-drop, places_order}
use Rattle.span_map.proofs.PieceLaws.{all_below-between, all_below-take, below-between, below-drop_upto, rising-between, rising-drop, rising-take, value_from-between, value_from-drop, value_from-take}

-- ---- one list of edges after another

from_low : (v : Option ℕ) (xs ys : List Edge) (t : ℤ) → IsBelowFirst t ys → value_from v (xs ++ ys) t ≡ value_from v xs t
from_low v [] ys t h = value_from-below v ys t t h (omega (arith, ints))
from_low v (e ∷ xs) ys t h = ap (λ u. cond (int_lt t e.from) v u) (from_low e.value xs ys t h)

from_high : (v : Option ℕ) (xs ys : List Edge) (x t : ℤ) → AllBelow x xs → x ≤ℤ t → value_from v (xs ++ ys) t ≡ value_from (last_value v xs) ys t
from_high v [] ys x t b le = refl
from_high v (e ∷ xs) ys x t b le =
    let below : e.from <ℤ x = b.0 in
    let high : int_lt t e.from ≡ false = grind (arith, ints) in
    ap (λ c. cond c v (value_from e.value (xs ++ ys) t)) high ∙ from_high e.value xs ys x t b.1 le

same_after : (v : Option ℕ) (xs ys zs : List Edge) (t : ℤ) → value_from (last_value v xs) ys t ≡ value_from (last_value v xs) zs t → value_from v (xs ++ ys) t ≡ value_from v (xs ++ zs) t
same_after v [] ys zs t e = e
same_after v (x ∷ xs) ys zs t e = ap (λ u. cond (int_lt t x.from) v u) (same_after x.value xs ys zs t e)

below_both : (x : ℤ) (xs ys : List Edge) → IsBelowFirst x xs → IsBelowFirst x ys → IsBelowFirst x (xs ++ ys)
below_both x [] ys h k = k
below_both x (e ∷ xs) ys h k = h

-- the edges of the second list are at or above a number, and those of the first below it
rising_both : (x : ℤ) (xs ys : List Edge) → AllBelow x xs → ((y : ℤ) → y <ℤ x → IsBelowFirst y ys) → IsRising xs → IsRising ys → IsRising (xs ++ ys)
rising_both x [] ys b from rx ry = ry
rising_both x (e ∷ xs) ys b from rx ry = (below_both e.from xs ys rx.0 (from e.from b.0), rising_both x xs ys b.1 from rx.1 ry)

-- ---- an edge that may begin the value before it

edge_false : (v : Option ℕ) (e : Edge) (b : Bool) → option_eq nat_eq e.value v ≡ b → b ≡ true → e.value ≡ v
edge_false v e b is t = equal_values e.value v (not b) (ap not (sym is)) (ap not t)

if_below : (x : ℤ) (v : Option ℕ) (e : Edge) (ys : List Edge) → x <ℤ e.from → IsBelowFirst x ys → IsBelowFirst x (edge_if v e ++ ys)
if_below x v e ys l h = by (option_eq nat_eq e.value v)
  where
    by : (b : Bool) → IsBelowFirst x (cond b [] (e ∷ []) ++ ys)
    by true = h
    by false = l

if_rising : (v : Option ℕ) (e : Edge) (ys : List Edge) → IsBelowFirst e.from ys → IsRising ys → IsRising (edge_if v e ++ ys)
if_rising v e ys h r = by (option_eq nat_eq e.value v)
  where
    by : (b : Bool) → IsRising (cond b [] (e ∷ []) ++ ys)
    by true = r
    by false = (h, r)

-- without it the values are the same
if_same : (v : Option ℕ) (e : Edge) (ys : List Edge) (t : ℤ) → IsBelowFirst e.from ys → value_from v (edge_if v e ++ ys) t ≡ value_from v (e ∷ ys) t
if_same v e ys t h = by (option_eq nat_eq e.value v) refl
  where
    by : (b : Bool) → option_eq nat_eq e.value v ≡ b → value_from v (cond b [] (e ∷ []) ++ ys) t ≡ value_from v (e ∷ ys) t
    by false is = refl
    by true is =
        let same : e.value ≡ v = edge_false v e true is refl in
        by_lt_z t e.from
        (λ below.
        let low : int_lt t e.from ≡ true = grind (arith, ints) in
        value_from-below v ys e.from t h (omega (arith, ints)) ∙ sym (ap (λ c. cond c v (value_from e.value ys t)) low))
        (λ above.
        let high : int_lt t e.from ≡ false = grind (arith, ints) in
        ap (λ u. value_from u ys t) (sym same) ∙ sym (ap (λ c. cond c v (value_from e.value ys t)) high))

-- ---- a patch

module _ (s : SpanValue) (es ps : List Edge) (some : s.lo <ℤ s.hi) (rising : IsRising es) (part : IsRising ps) where
  abbrev pub before : Option ℕ
  before = last_value None (take (place_below s.lo es) es)

  abbrev pub after : Option ℕ
  after = last_value None (take (place_upto s.hi es) es)

  abbrev pub old : List Edge
  old = take (place_below s.lo es) es

  abbrev pub rest : List Edge
  rest = drop (place_upto s.hi es) es

  abbrev pub value : Option ℕ
  value = value_on s.lo ps

  abbrev pub middle : List Edge
  middle = between s.lo s.hi ps

  abbrev pub start : Edge
  start = record { from = s.lo; value = value }

  abbrev pub end : Edge
  end = record { from = s.hi; value = after }

  -- from the end on, and from the start on
  abbrev pub tail : List Edge
  tail = edge_if (last_value value middle) end ++ rest

  abbrev pub body : List Edge
  body = middle ++ tail

  shape : splice (place_below s.lo es) (place_upto s.hi es) (patch_of s before ps after) es ≡ old ++ (edge_if before start ++ body)
  shape =
      append_assoc old (edge_if before start ++ middle ++ edge_if (last_value value middle) end) rest
      ∙ ap (λ xs. old ++ xs)
      (append_assoc (edge_if before start ++ middle) (edge_if (last_value value middle) end) rest
      ∙ append_assoc (edge_if before start) middle tail)

  rest_above : IsBelowFirst s.hi rest
  rest_above = below-drop_upto s.hi es

  tail_above : (y : ℤ) → y <ℤ s.hi → IsBelowFirst y tail
  tail_above y l = if_below y (last_value value middle) end rest l (IsBelowFirst-from y s.hi rest (omega (arith, ints)) rest_above)

  body_above : IsBelowFirst s.lo body
  body_above = below_both s.lo middle tail (below-between s.lo s.hi ps) (tail_above s.lo some)

  tail_rises : IsRising tail
  tail_rises = if_rising (last_value value middle) end rest rest_above (rising-drop (place_upto s.hi es) es rising)

  body_rises : IsRising body
  body_rises = rising_both s.hi middle tail (all_below-between s.lo s.hi ps) tail_above (rising-between s.lo s.hi ps part) tail_rises

  pub patched_rises : IsRising (splice (place_below s.lo es) (place_upto s.hi es) (patch_of s before ps after) es)
  patched_rises =
      subst IsRising (sym shape)
      (rising_both s.lo old (edge_if before start ++ body) (all_below-take s.lo es)
      (λ y l. if_below y before start body l (IsBelowFirst-from y s.lo body (omega (arith, ints)) body_above))
      (rising-take (place_below s.lo es) es rising) (if_rising before start body body_above body_rises))

  -- both ends with their edges
  abbrev pub framed_all : List Edge
  framed_all = old ++ start ∷ (middle ++ end ∷ rest)

  same_as_framed : (t : ℤ) → value_from None (old ++ (edge_if before start ++ body)) t ≡ value_from None framed_all t
  same_as_framed t =
      same_after None old (edge_if before start ++ body) (start ∷ (middle ++ end ∷ rest)) t
      (if_same before start body t body_above
      ∙ ap (λ u. cond (int_lt t s.lo) before u) (same_after value middle tail (end ∷ rest) t (if_same (last_value value middle) end rest t rest_above)))

  framed_values : (t : ℤ) → value_from None framed_all t ≡ cond (in_span s t) (value_from None ps t) (value_from None es t)
  framed_values t = by_lt_z t s.lo
      (λ below.
      let out : in_span s t ≡ false = grind (arith, ints) in
      from_low None old (start ∷ (middle ++ end ∷ rest)) t below ∙ value_from-take None s.lo es t below
      ∙ sym (ap (λ b. cond b (value_from None ps t) (value_from None es t)) out))
      (λ above.
      let from_start : int_lt t s.lo ≡ false = grind (arith, ints) in
      from_high None old (start ∷ (middle ++ end ∷ rest)) s.lo t (all_below-take s.lo es) above
      ∙ ap (λ b. cond b before (value_from value (middle ++ end ∷ rest) t)) from_start
      ∙ by_lt_z t s.hi
      (λ under.
      let inside : in_span s t ≡ true = grind (arith, ints) in
      from_low value middle (end ∷ rest) t under ∙ value_from-between s.lo s.hi ps t above under
      ∙ sym (ap (λ b. cond b (value_from None ps t) (value_from None es t)) inside))
      (λ over.
      let out : in_span s t ≡ false = grind (arith, ints) in
      let from_end : int_lt t s.hi ≡ false = grind (arith, ints) in
      from_high value middle (end ∷ rest) s.hi t (all_below-between s.lo s.hi ps) over
      ∙ ap (λ b. cond b (last_value value middle) (value_from after rest t)) from_end
      ∙ value_from-drop None s.hi es t over
      ∙ sym (ap (λ b. cond b (value_from None ps t) (value_from None es t)) out)))

  pub patched_values : (t : ℤ) → value_from None (splice (place_below s.lo es) (place_upto s.hi es) (patch_of s before ps after) es) t ≡ cond (in_span s t) (value_from None ps t) (value_from None es t)
  patched_values t = ap (λ xs. value_from None xs t) shape ∙ same_as_framed t ∙ framed_values t

-- the same edges, by their construction
pub patched_is : (s : SpanValue) (es ps patch : List Edge) (first last : ℕ) (v w : Option ℕ) → first ≡ place_below s.lo es → last ≡ place_upto s.hi es
    → v ≡ last_value None (take first es) → w ≡ last_value None (take last es) → patch ≡ patch_of s v ps w
    → splice first last patch es ≡ splice (place_below s.lo es) (place_upto s.hi es) (patch_of s (last_value None (take (place_below s.lo es) es)) ps (last_value None (take (place_upto s.hi es) es))) es
patched_is s es ps patch first last v w first_is last_is v_is w_is patch_is =
    ap (λ p. splice first last p es) (patch_is ∙ ap (λ u. patch_of s u ps w) v_is ∙ ap (λ u. patch_of s (last_value None (take first es)) ps u) w_is)
    ∙ ap (λ n. splice n last (patch_of s (last_value None (take n es)) ps (last_value None (take last es))) es) first_is
    ∙ ap (λ n. splice (place_below s.lo es) n (patch_of s (last_value None (take (place_below s.lo es) es)) ps (last_value None (take n es))) es) last_is

pub part_is : (s : SpanValue) (es part : List Edge) (first last : ℕ) → s.lo <ℤ s.hi → first ≡ place_upto s.lo es → last ≡ place_below s.hi es → part ≡ take (last - first) (drop first es)
    → part ≡ between s.lo s.hi es
part_is s es part first last some first_is last_is is =
    is
    ∙ (ap (λ n. take (last - n) (drop n es)) first_is
    ∙ ap (λ n. take n (drop (place_upto s.lo es) es))
    (ap (λ n. n - place_upto s.lo es) last_is ∙ sym (place_below-drop s.hi (place_upto s.lo es) es (places_order s.lo s.hi es some))))
