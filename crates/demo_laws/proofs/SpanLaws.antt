-- Disjoint spans, the window of whole buckets, and the range of all buckets of a span.
use Rattle.std.proofs.Common.{◌≡◌, Bool, true, false, ◌&&◌, ◌||◌, [], ◌∷◌, ℤ, ◌≤ℤ◌, ◌<ℤ◌, int_le, int_lt, Some, None, sym, refl, ap, ◌∙◌, arith}
use Rattle.std.specs.Int.{int_max}
use Rattle.std.proofs.lemmas.Bool.{and_from, and_left, and_right, cond-true}
use Rattle.std.proofs.lemmas.Int.{ints, clamps}
use Rattle.ts_bucket.specs.Bucket.{IsWidth, is_bucket, first_of, bucket_of}
use Rattle.ts_bucket.specs.Ranges.{is_asked}
use Rattle.ts_bucket.specs.Spans.{in_span}
use Rattle.ts_bucket.specs.Windows.{start_from, window_start, nonempty_span, inscribed}
use Rattle.ts_bucket.specs.declared.spans.Span.{Span}
use Rattle.ts_bucket.specs.declared.widths.Width.{Width}
use Rattle.ts_bucket.proofs.BucketLaws.{bucket_of-bucket}
use Rattle.ts_bucket.proofs.SpanLaws.{in_span-ends}
use Rattle.ts_bucket.proofs.WholeSpanLaws.{start_from-bucket}
use Rattle.ts_model.specs.Answers.{buckets_in, ranges}
use Rattle.ts_model.specs.Reads.{spans_meet}
use Rattle.ts_model.proofs.RangeLaws.{ranges_are_maximal}
use Rattle.ts_model.proofs.SameRanges.{one_list_of_ranges}

-- ---- disjoint spans

not_less : (x y : ℤ) → y ≤ℤ x → int_lt x y ≡ false
not_less x y l = grind (arith, ints)

pub apart_below : (a b : Span) → a.hi ≤ℤ b.lo → spans_meet a b ≡ false
apart_below a b l = and_left _ _ (and_left _ _ (and_right (int_lt a.lo b.hi) _ (not_less b.lo a.hi l)))

pub apart_above : (a b : Span) → b.hi ≤ℤ a.lo → spans_meet a b ≡ false
apart_above a b l = and_left _ _ (and_left _ _ (and_left _ _ (not_less a.lo b.hi l)))

-- ---- windows

-- a span with at least one number, by its ends
nonempty-is : (lo hi from to : ℤ) → from ≡ lo → to ≡ hi → lo <ℤ hi → nonempty_span from to ≡ Some (record { lo = lo; hi = hi })
nonempty-is lo hi from to p q some =
    let less : int_lt lo hi ≡ true = grind (arith, ints) in
    (λ i. nonempty_span (p i) (q i)) ∙ cond-true (int_lt lo hi) (Some (record { lo = lo; hi = hi })) None less

-- the window of a span of whole buckets is that span
pub inscribed-whole : (w : Width) (lo hi : ℤ) → IsWidth w → is_bucket w lo ≡ true → is_bucket w hi ≡ true → first_of w ≤ℤ lo → lo <ℤ hi → inscribed w (Some lo) hi ≡ Some (record { lo = lo; hi = hi })
inscribed-whole w lo hi width starts ends first some =
    let from : start_from w lo ≡ lo = start_from-bucket w lo width (bucket_of-bucket w lo width starts) in
    let greater : int_max (first_of w) lo ≡ lo = omega (arith, ints, clamps) in
    nonempty-is lo hi (window_start w (Some lo)) (bucket_of w hi) (ap (int_max (first_of w)) from ∙ greater) (bucket_of-bucket w hi width ends) some

-- ---- ranges

-- if each bucket of a span passes, the span is the one range
pub one_range : (w : Width) (span : Span) (test : ℤ → Bool) → IsWidth w → is_bucket w span.lo ≡ true → is_bucket w span.hi ≡ true → first_of w ≤ℤ span.lo → span.lo <ℤ span.hi → ((b : ℤ) → in_span span b ≡ true → test b ≡ true) → ranges w test (buckets_in w span) ≡ span ∷ []
one_range w span test width starts ends first some passes =
    one_list_of_ranges w span test (ranges w test (buckets_in w span)) (span ∷ []) (ranges_are_maximal w span test width)
    (record { whole = (record { starts = starts; ends = ends; some = some }, tt); rising = tt; exact = λ b bucket. exact b bucket (in_span span b) refl })
  where
    from_first : (b : ℤ) → in_span span b ≡ true → int_le (first_of w) b ≡ true
    from_first b e = let low : span.lo ≤ℤ b = (in_span-ends span b e).0 in grind (arith, ints)

    exact : (b : ℤ) → is_bucket w b ≡ true → (t : Bool) → in_span span b ≡ t → (in_span span b || false) ≡ (is_asked w span b && test b)
    exact b bucket true e = ap (λ t. t || false) e ∙ sym (and_from _ _ (and_from _ _ e (and_from _ _ bucket (from_first b e))) (passes b e))
    exact b bucket false e = ap (λ t. t || false) e ∙ sym (and_left _ (test b) (and_left _ _ e))
