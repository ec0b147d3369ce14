-- The wider buckets that hold a stale one, as maximal ranges.
use Rattle.std.proofs.Common.{◌≡◌, ℕ, zero, suc, ◌-◌, ◌<◌, ◌≤◌, length, take, get_or, Bool, true, false, ◌||◌, List, [], ◌∷◌, ℤ, pos, ◌+ℤ◌, ◌-ℤ◌, ◌≤ℤ◌, ◌<ℤ◌, int_le, int_lt, sym, refl, ap, ◌∙◌, subst, arith}
use Rattle.std.specs.Int.{int_max}
use Rattle.std.specs.List.{AllByRecursion}
use Rattle.std.proofs.lemmas.Int.{ints}
use Rattle.std.proofs.lemmas.List.Elements.{All-from_recursion}
use Rattle.ts_schema.proofs.Cases.{all_weaker, by_test, int_le-true, int_lt-true, le-int_le, lt-int_lt, same_test, and_first, and_second}
use Rattle.ts_bucket.specs.Bucket.{IsWidth, bucket_of, is_bucket}
use Rattle.ts_bucket.specs.Ranges.{IsWholeRange, RiseApart, lies_in}
use Rattle.ts_bucket.specs.Spans.{in_span}
use Rattle.ts_bucket.specs.declared.spans.Span.{Span}
use Rattle.ts_bucket.specs.declared.widths.Width.{Width}
use Rattle.ts_bucket.proofs.BucketLaws.{bucket_of_meets, bucket_of-first, bucket_of-last, bucket_of-monotone, bucket_before_end, is_bucket-bucket_of, is_bucket-next}
use Rattle.hier_agg.specs.Stale.{AreApart, AreWholeRanges, AreUpperRanges, reaches, widened_onto, widened_range, with_range}

-- ---- one range

module _ (w : Width) (wide : IsWidth w) where
  -- a wider bucket lies in a widened range if and only if it overlaps the range
  reached : (s : Span) (b : ℤ) → is_bucket w b ≡ true → in_span (widened_range w s) b ≡ reaches w b s
  reached s b start = same_test (in_span (widened_range w s) b) (reaches w b s) to back
    where
      to : in_span (widened_range w s) b ≡ true → reaches w b s ≡ true
      to e =
          let low : bucket_of w s.lo ≤ℤ b = int_le-true (bucket_of w s.lo) b (and_first (int_le (bucket_of w s.lo) b) (int_lt b (widened_range w s).hi) e) in
          let high : b <ℤ (widened_range w s).hi = int_lt-true b (widened_range w s).hi (and_second (int_le (bucket_of w s.lo) b) (int_lt b (widened_range w s).hi) e) in
          let above : s.lo <ℤ (bucket_of w s.lo +ℤ w.step) = (bucket_of_meets w s.lo wide).end_above in
          let below : bucket_of w (s.hi -ℤ pos 1) ≤ℤ (s.hi -ℤ pos 1) = (bucket_of_meets w (s.hi -ℤ pos 1) wide).at_or_below in
          let last : b ≤ℤ bucket_of w (s.hi -ℤ pos 1) = bucket_before_end w (bucket_of w (s.hi -ℤ pos 1)) b wide (is_bucket-bucket_of w (s.hi -ℤ pos 1) wide) start high in
          let p : int_lt s.lo (b +ℤ w.step) ≡ true = lt-int_lt s.lo (b +ℤ w.step) (omega (arith, ints, low, above)) in
          let q : int_lt b s.hi ≡ true = lt-int_lt b s.hi (omega (arith, ints, last, below)) in
          rw (p, q) refl

      back : reaches w b s ≡ true → in_span (widened_range w s) b ≡ true
      back e =
          let first : s.lo <ℤ (b +ℤ w.step) = int_lt-true s.lo (b +ℤ w.step) (and_first (int_lt s.lo (b +ℤ w.step)) (int_lt b s.hi) e) in
          let last : b <ℤ s.hi = int_lt-true b s.hi (and_second (int_lt s.lo (b +ℤ w.step)) (int_lt b s.hi) e) in
          let low : bucket_of w s.lo ≤ℤ b = bucket_of-first w b s.lo wide start first in
          let at : b ≤ℤ bucket_of w (s.hi -ℤ pos 1) = bucket_of-last w b (s.hi -ℤ pos 1) wide start (omega (arith, ints, last)) in
          let step : pos 0 <ℤ w.step = wide.positive in
          let p : int_le (bucket_of w s.lo) b ≡ true = le-int_le (bucket_of w s.lo) b low in
          let q : int_lt b (widened_range w s).hi ≡ true = lt-int_lt b (widened_range w s).hi (omega (arith, ints, at, step)) in
          rw (p, q) refl

  -- a widened range isn't empty
  pub widened_some : (s : Span) → s.lo <ℤ s.hi → (widened_range w s).lo <ℤ (widened_range w s).hi
  widened_some s h =
      let low = bucket_of_meets w s.lo wide in
      let high = bucket_of_meets w (s.hi -ℤ pos 1) wide in
      let below : bucket_of w s.lo ≤ℤ s.lo = low.at_or_below in
      let above : (s.hi -ℤ pos 1) <ℤ (bucket_of w (s.hi -ℤ pos 1) +ℤ w.step) = high.end_above in
      omega (arith, ints, below, above, h)

  widened_whole : (s : Span) → s.lo <ℤ s.hi → IsWholeRange w (widened_range w s)
  widened_whole s h = record {
    starts = is_bucket-bucket_of w s.lo wide;
    ends = is_bucket-next w (bucket_of w (s.hi -ℤ pos 1)) wide ∙ is_bucket-bucket_of w (s.hi -ℤ pos 1) wide;
    some = widened_some s h;
  }

-- ---- a range before others

-- the first of these ranges neither starts nor ends below another
abbrev Begins : Span → List Span → Type 0
Begins r [] = Unit {0}
Begins r (t ∷ ts) = (r.lo ≤ℤ t.lo) × (r.hi ≤ℤ t.hi)

merged_span : (r t : Span) (b : ℤ) → r.lo ≤ℤ t.lo → t.lo ≤ℤ r.hi → in_span (record { lo = r.lo; hi = int_max r.hi t.hi }) b ≡ (in_span r b || in_span t b)
merged_span r t b p q = grind (arith, ints, p, q)

or_assoc : (x y z : Bool) → ((x || y) || z) ≡ (x || (y || z))
or_assoc true y z = refl
or_assoc false y z = refl

lies_before : (r : Span) (ts : List Span) (b : ℤ) → Begins r ts → lies_in (with_range r ts) b ≡ (in_span r b || lies_in ts b)
lies_before r [] b h = refl
lies_before r (t ∷ ts) b h =
    by_test (int_lt r.hi t.lo)
    (λ e. rw e refl)
    (λ e. let reach : t.lo ≤ℤ r.hi = grind (arith, ints, e) in
    rw e (ap (λ x. x || lies_in ts b) (merged_span r t b h.0 reach) ∙ or_assoc (in_span r b) (in_span t b) (lies_in ts b)))

-- the greater of two numbers is one of them
max_is : (P : ℤ → Type 0) (a b : ℤ) → P a → P b → P (int_max a b)
max_is P a b p q =
    by_test (int_lt a b)
    (λ e. let is : b ≡ int_max a b = grind (arith, ints, e) in subst P is q)
    (λ e. let is : a ≡ int_max a b = grind (arith, ints, e) in subst P is p)

begins-with_range : (r s : Span) (ts : List Span) → r.lo ≤ℤ s.lo → r.hi ≤ℤ s.hi → Begins r (with_range s ts)
begins-with_range r s [] p q = (p, q)
begins-with_range r s (t ∷ ts) p q =
    by_test (int_lt s.hi t.lo)
    (λ e. rw e (p, q))
    (λ e. let high : r.hi ≤ℤ int_max s.hi t.hi = grind (arith, ints, q) in rw e (p, high))

module _ (w : Width) where
  whole_before : (r : Span) (ts : List Span) → IsWholeRange w r → AllByRecursion (IsWholeRange w) ts → AllByRecursion (IsWholeRange w) (with_range r ts)
  whole_before r [] h k = (h, tt)
  whole_before r (t ∷ ts) h k =
      let some : r.lo <ℤ r.hi = h.some in
      let more : r.lo <ℤ int_max r.hi t.hi = grind (arith, ints, some) in
      by_test (int_lt r.hi t.lo)
      (λ e. rw e (h, k))
      (λ e. rw e (record { starts = h.starts; ends = max_is (λ x. is_bucket w x ≡ true) r.hi t.hi h.ends k.0.ends; some = more }, k.1))

rise_before : (r : Span) (ts : List Span) → Begins r ts → RiseApart ts → RiseApart (with_range r ts)
rise_before r [] h k = tt
rise_before r (t ∷ []) h k =
    by_test (int_lt r.hi t.lo)
    (λ e. rw e (int_lt-true r.hi t.lo e, tt))
    (λ e. rw e tt)
rise_before r (t ∷ u ∷ ts) h k =
    let end : t.hi <ℤ u.lo = k.0 in
    let high : r.hi ≤ℤ t.hi = h.1 in
    let below : int_max r.hi t.hi <ℤ u.lo = grind (arith, ints, end, high) in
    by_test (int_lt r.hi t.lo)
    (λ e. rw e (int_lt-true r.hi t.lo e, k))
    (λ e. rw e (below, k.1))

-- ---- all ranges

pub apart_whole : (w : Width) (ss : List Span) → AreWholeRanges w ss → AreApart ss
apart_whole w ss h = record { some = all_weaker (IsWholeRange w) (λ s. s.lo <ℤ s.hi) (λ s whole. whole.some) ss h.whole; rising = h.rising }

pub apart_at : (ss : List Span) (k : ℕ) (d : Span) → AreApart ss → k < length ss → (get_or ss k d).lo <ℤ (get_or ss k d).hi
apart_at ss k d h l = All-from_recursion (λ s. s.lo <ℤ s.hi) ss h.some k d l

apart_rest : (s : Span) (ss : List Span) → AreApart (s ∷ ss) → AreApart ss
apart_rest s [] h = record { some = tt; rising = tt }
apart_rest s (t ∷ ss) h = record { some = h.some.1; rising = h.rising.1 }

module _ (w : Width) (wide : IsWidth w) where
  begins_before : (s : Span) (ss : List Span) → AreApart (s ∷ ss) → Begins (widened_range w s) (widened_onto w ss [])
  begins_before s [] h = tt
  begins_before s (t ∷ ss) h =
      let some : s.lo <ℤ s.hi = h.some.0 in
      let next : t.lo <ℤ t.hi = h.some.1.0 in
      let apart : s.hi <ℤ t.lo = h.rising.0 in
      let low : bucket_of w s.lo ≤ℤ bucket_of w t.lo = bucket_of-monotone w s.lo t.lo wide (omega (arith, ints, some, apart)) in
      let high : bucket_of w (s.hi -ℤ pos 1) ≤ℤ bucket_of w (t.hi -ℤ pos 1) = bucket_of-monotone w (s.hi -ℤ pos 1) (t.hi -ℤ pos 1) wide (omega (arith, ints, next, apart)) in
      begins-with_range (widened_range w s) (widened_range w t) (widened_onto w ss []) low (omega (arith, ints, high))

  pub widened : (ss : List Span) → AreApart ss → AreUpperRanges w ss (widened_onto w ss [])
  widened [] h = record { whole = tt; rising = tt; exact = λ b e. refl }
  widened (s ∷ ss) h =
      let rest = widened ss (apart_rest s ss h) in
      let begins = begins_before s ss h in
      record {
        whole = whole_before w (widened_range w s) (widened_onto w ss []) (widened_whole w wide s h.some.0) rest.whole;
        rising = rise_before (widened_range w s) (widened_onto w ss []) begins rest.rising;
        exact = λ b e. lies_before (widened_range w s) (widened_onto w ss []) b begins ∙ (ap (λ x. x || lies_in (widened_onto w ss []) b) (reached w wide s b e) ∙ ap (λ x. reaches w b s || x) (rest.exact b e));
      }

-- ---- from the back

onto_last : (w : Width) (ss found : List Span) (k : ℕ) (d : Span) → k < length ss → widened_onto w (take (suc k) ss) found ≡ widened_onto w (take k ss) (with_range (widened_range w (get_or ss k d)) found)
onto_last w [] found k d h = absurd (omega (arith, h))
onto_last w (s ∷ ss) found zero d h = refl
onto_last w (s ∷ ss) found (suc k) d h = ap (with_range (widened_range w s)) (onto_last w ss found k d (omega (arith, h)))

pub onto_back : (w : Width) (ss found : List Span) (k : ℕ) (s : Span) → 0 < k → k ≤ length ss → s ≡ get_or ss (k - 1) s → widened_onto w (take k ss) found ≡ widened_onto w (take (k - 1) ss) (with_range (widened_range w s) found)
onto_back w ss found zero s p h is = absurd (omega (arith, p))
onto_back w ss found (suc k) s p h is =
    let e : suc k - 1 ≡ k = omega arith in
    let at : s ≡ get_or ss k s = is ∙ ap (λ i. get_or ss i s) e in
    onto_last w ss found k s (omega (arith, h)) ∙ ap (λ x. widened_onto w (take k ss) (with_range (widened_range w x) found)) (sym at) ∙ ap (λ i. widened_onto w (take i ss) (with_range (widened_range w s) found)) (sym e)
