-- Wider buckets that hold a stale one.
use Rattle.std.proofs.Common.{◌≡◌, ℕ, true, ◌||◌, List, [], ◌∷◌, Some, ℤ, pos, ◌+ℤ◌, ◌≤ℤ◌, ◌<ℤ◌, int_le, int_lt, sym, refl, ap, ap₂, ◌∙◌, arith}
use Rattle.std.specs.List.{AllByRecursion}
use Rattle.std.proofs.lemmas.Int.{ints}
use Rattle.std.proofs.Math.Bool.{or-true}
use Rattle.ts_schema.proofs.Cases.{by_test, same_test, int_le-true, int_lt-true, le-int_le, lt-int_lt, and_first, and_second}
use Rattle.ts_bucket.specs.Bucket.{IsWidth, holds, is_bucket}
use Rattle.ts_bucket.specs.Ranges.{AreRanges, IsWholeRange, lies_in}
use Rattle.ts_bucket.specs.Spans.{in_span}
use Rattle.ts_bucket.specs.declared.spans.Span.{Span}
use Rattle.ts_bucket.specs.declared.widths.Width.{Width}
use Rattle.ts_bucket.proofs.BucketLaws.{bucket_before_end, holds-parts, holds-from_parts}
use Rattle.ts_model.specs.declared.views.ViewDef.{ViewDef}
use Rattle.ts_model.specs.Answers.{answer_of_view, buckets_in, ranges}
use Rattle.ts_model.specs.History.{History}
use Rattle.ts_model.specs.Refreshes.{stale}
use Rattle.ts_model.proofs.RangeLaws.{ranges_are_maximal}
use Rattle.ts_model.proofs.SameRanges.{same_ranges}
use Rattle.hier_agg.specs.Laws.{IsHeld}
use Rattle.hier_agg.specs.Plans.{nests}
use Rattle.hier_agg.specs.Stale.{AreUpperRanges, AreWholeRanges, holds_stale, reaches}
use Rattle.hier_agg.proofs.Nesting.{starts_nest}

-- a wider bucket holds the numbers of a stale bucket inside it
pub any_reached : (w : Width) (b x : ℤ) → holds w b x ≡ true → (spans : List Span) → lies_in spans x ≡ true → holds_stale w spans b ≡ true
any_reached w b x inside [] e = e
any_reached w b x inside (s ∷ spans) e =
    by_test (in_span s x)
    (λ f.
    let at = holds-parts w b x inside in
    let low : s.lo ≤ℤ x = int_le-true s.lo x (and_first (int_le s.lo x) (int_lt x s.hi) f) in
    let high : x <ℤ s.hi = int_lt-true x s.hi (and_second (int_le s.lo x) (int_lt x s.hi) f) in
    let from : b ≤ℤ x = at.0 in
    let below : x <ℤ (b +ℤ w.step) = at.1 in
    let p : int_lt s.lo (b +ℤ w.step) ≡ true = lt-int_lt s.lo (b +ℤ w.step) (omega (arith, ints, low, below)) in
    let q : int_lt b s.hi ≡ true = lt-int_lt b s.hi (omega (arith, ints, from, high)) in
    rw (p, q) refl)
    (λ f. let rest : lies_in spans x ≡ true = ap (λ t. t || lies_in spans x) (sym f) ∙ e in
    ap (λ t. reaches w b s || t) (any_reached w b x inside spans rest) ∙ or-true (reaches w b s))

-- ---- the stale bucket

lies_later : (s : Span) (spans : List Span) (x : ℤ) → lies_in spans x ≡ true → lies_in (s ∷ spans) x ≡ true
lies_later s spans x e = ap (λ t. in_span s x || t) e ∙ or-true (in_span s x)

module _ (lower upper : Width) (low : IsWidth lower) (up : IsWidth upper) (e : nests lower upper ≡ true) (b : ℤ) (at : is_bucket upper b ≡ true) where
  -- the greater of the starts of the bucket and of a range that it overlaps
  reached_is_held : (s : Span) (spans : List Span) → IsWholeRange lower s → reaches upper b s ≡ true → (x : ℤ) × IsHeld lower upper (s ∷ spans) b x
  reached_is_held s spans whole r =
      let first : s.lo <ℤ (b +ℤ upper.step) = int_lt-true s.lo (b +ℤ upper.step) (and_first (int_lt s.lo (b +ℤ upper.step)) (int_lt b s.hi) r) in
      let last : b <ℤ s.hi = int_lt-true b s.hi (and_second (int_lt s.lo (b +ℤ upper.step)) (int_lt b s.hi) r) in
      let some : s.lo <ℤ s.hi = whole.some in
      let step : pos 0 <ℤ upper.step = up.positive in
      by_test (int_lt s.lo b)
      (λ t.
      let before : s.lo <ℤ b = int_lt-true s.lo b t in
      let p : int_le s.lo b ≡ true = le-int_le s.lo b (omega (arith, ints, before)) in
      let q : int_lt b s.hi ≡ true = lt-int_lt b s.hi last in
      let own : lies_in (s ∷ spans) b ≡ true = rw (p, q) refl in
      (b, record { bucket = starts_nest lower upper b low up e at; within = holds-from_parts upper b b (omega (arith, ints)) (omega (arith, ints, step)); stale = own }))
      (λ t.
      let from : b ≤ℤ s.lo = grind (arith, ints, t) in
      let p : int_le s.lo s.lo ≡ true = le-int_le s.lo s.lo (omega (arith, ints)) in
      let q : int_lt s.lo s.hi ≡ true = lt-int_lt s.lo s.hi some in
      let own : lies_in (s ∷ spans) s.lo ≡ true = rw (p, q) refl in
      (s.lo, record { bucket = whole.starts; within = holds-from_parts upper b s.lo from first; stale = own }))

  found_held : (spans : List Span) → AllByRecursion (IsWholeRange lower) spans → holds_stale upper spans b ≡ true → (x : ℤ) × IsHeld lower upper spans b x
  found_held [] whole h = absurd (cc h)
  found_held (s ∷ spans) whole h =
      by_test (reaches upper b s)
      (λ t. reached_is_held s spans whole.0 t)
      (λ t.
      let rest : holds_stale upper spans b ≡ true = ap (λ r. r || holds_stale upper spans b) (sym t) ∙ h in
      let found = found_held spans whole.1 rest in
      (found.0, record { bucket = found.1.bucket; within = found.1.within; stale = lies_later s spans found.0 found.1.stale }))

pub stale_is_there : (lower upper : Width) (spans : List Span) (b : ℤ) → IsWidth lower → IsWidth upper → nests lower upper ≡ true → AreWholeRanges lower spans → is_bucket upper b ≡ true → holds_stale upper spans b ≡ true → (x : ℤ) × IsHeld lower upper spans b x
stale_is_there lower upper spans b low up e whole at h = found_held lower upper low up e b at spans whole.whole h

pub stale_is_held : (lower upper : Width) (spans : List Span) (b x : ℤ) → IsHeld lower upper spans b x → holds_stale upper spans b ≡ true
stale_is_held lower upper spans b x h = any_reached upper b x h.within spans h.stale

-- ---- the same width

-- a bucket overlaps a range of whole buckets if and only if it lies in it
whole_reached : (w : Width) (s : Span) (b : ℤ) → IsWidth w → IsWholeRange w s → is_bucket w b ≡ true → reaches w b s ≡ in_span s b
whole_reached w s b wide whole at = same_test (reaches w b s) (in_span s b) to back
  where
    to : reaches w b s ≡ true → in_span s b ≡ true
    to e =
        let first : s.lo <ℤ (b +ℤ w.step) = int_lt-true s.lo (b +ℤ w.step) (and_first (int_lt s.lo (b +ℤ w.step)) (int_lt b s.hi) e) in
        let p : int_le s.lo b ≡ true = le-int_le s.lo b (bucket_before_end w b s.lo wide at whole.starts first) in
        let q : int_lt b s.hi ≡ true = and_second (int_lt s.lo (b +ℤ w.step)) (int_lt b s.hi) e in
        rw (p, q) refl

    back : in_span s b ≡ true → reaches w b s ≡ true
    back e =
        let from : s.lo ≤ℤ b = int_le-true s.lo b (and_first (int_le s.lo b) (int_lt b s.hi) e) in
        let step : pos 0 <ℤ w.step = wide.positive in
        let p : int_lt s.lo (b +ℤ w.step) ≡ true = lt-int_lt s.lo (b +ℤ w.step) (omega (arith, ints, from, step)) in
        let q : int_lt b s.hi ≡ true = and_second (int_le s.lo b) (int_lt b s.hi) e in
        rw (p, q) refl

whole_held : (w : Width) (spans : List Span) (b : ℤ) → IsWidth w → AllByRecursion (IsWholeRange w) spans → is_bucket w b ≡ true → holds_stale w spans b ≡ lies_in spans b
whole_held w [] b wide whole at = refl
whole_held w (s ∷ spans) b wide whole at = ap₂ (λ x y. x || y) (whole_reached w s b wide whole.0 at) (whole_held w spans b wide whole.1 at)

pub same_stale : (w : Width) (spans found : List Span) → IsWidth w → AreWholeRanges w spans → AreUpperRanges w spans found → found ≡ spans
same_stale w spans found wide whole upper = same_ranges w found spans upper.whole whole.whole upper.rising whole.rising (λ c at. upper.exact c at ∙ whole_held w spans c wide whole.whole at)

-- ---- answers

pub answers_have_whole_ranges : (n : ℕ) (h : History) (starts : Span) (def : ViewDef) → IsWidth def.fold.width → AreWholeRanges def.fold.width (answer_of_view n h starts (Some def)).stale
answers_have_whole_ranges n h starts def wide =
    let found : AreRanges def.fold.width starts (stale n def h) (ranges def.fold.width (stale n def h) (buckets_in def.fold.width starts)) = ranges_are_maximal def.fold.width starts (stale n def h) wide in
    record { whole = found.whole; rising = found.rising }
