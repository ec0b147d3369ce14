-- Laws of spans of whole buckets, and of the range of buckets.
use Rattle.std.proofs.Common.{◌≡◌, true, ◌&&◌, ◌-◌, ◌+◌, ◌^◌, ℤ, pos, negsuc, ◌+ℤ◌, ◌-ℤ◌, ◌≤ℤ◌, ◌<ℤ◌, ◌∙◌, subst, arith}
use Rattle.std.specs.Int.{int_min, int_max}
use Rattle.std.proofs.lemmas.Int.{ints, clamps, by_lt_z}
use Rattle.std.proofs.lemmas.Bool.Decides.{same_from_decides}
use Rattle.ts_bucket.specs.Bucket.{WidthValue, IsWidth, IsNearTimes, is_bucket, bucket_of, first_of, min_time, max_step}
use Rattle.ts_bucket.specs.Spans.{SpanValue, HullValue, in_span, touched_span}
use Rattle.ts_bucket.specs.WholeSpans.{IsWholeSpan, whole_span, greatest}
use Rattle.ts_bucket.specs.Windows.{start_from}
use Rattle.ts_bucket.proofs.BucketLaws.{bucket_of_meets, bucket_of-last, bucket_of-monotone, buckets_apart, is_bucket-bucket_of, is_bucket-next, is_bucket-first}
use Rattle.ts_bucket.proofs.SpanLaws.{in_span-ends, in_span-from_ends}
use Rattle.ts_bucket.proofs.WindowLaws.{start_from-above, start_from-first}

-- a span of whole buckets holds a number if and only if it holds the start of its bucket
pub in_span-bucket : (w : WidthValue) (s : SpanValue) (t : ℤ) → IsWidth w → is_bucket w s.lo ≡ true → is_bucket w s.hi ≡ true → in_span s t ≡ in_span s (bucket_of w t)
in_span-bucket w s t h p q =
    let at_or_below : bucket_of w t ≤ℤ t = (bucket_of_meets w t h).at_or_below in
    let end_above : t <ℤ (bucket_of w t +ℤ w.step) = (bucket_of_meets w t h).end_above in
    same_from_decides {P = (s.lo ≤ℤ bucket_of w t) × (bucket_of w t <ℤ s.hi)} (in_span s t) (in_span s (bucket_of w t)) (
      (λ held.
          let ends = in_span-ends s t held in
          let high : t <ℤ s.hi = ends.1 in
          (bucket_of-last w s.lo t h p ends.0, omega (arith, ints))),
      (λ ends.
          let low : s.lo ≤ℤ bucket_of w t = ends.0 in
          let apart : (bucket_of w t +ℤ w.step) ≤ℤ s.hi = buckets_apart w (bucket_of w t) s.hi h (is_bucket-bucket_of w t h) q ends.1 in
          in_span-from_ends s t (omega (arith, ints)) (omega (arith, ints))),
    )
    (in_span-ends s (bucket_of w t), λ ends. in_span-from_ends s (bucket_of w t) ends.0 ends.1)

-- the buckets that a hull meets are a span of whole buckets
pub touched_starts : (w : WidthValue) (h : HullValue) → IsWidth w → is_bucket w (touched_span w h).lo ≡ true
touched_starts w h bounds = is_bucket-bucket_of w h.least bounds

pub touched_ends : (w : WidthValue) (h : HullValue) → IsWidth w → is_bucket w (touched_span w h).hi ≡ true
touched_ends w h bounds = is_bucket-next w (bucket_of w h.most) bounds ∙ is_bucket-bucket_of w h.most bounds

pub touched_ordered : (w : WidthValue) (h : HullValue) → IsWidth w → h.least ≤ℤ h.most → (touched_span w h).lo ≤ℤ (touched_span w h).hi
touched_ordered w h bounds le =
    let positive : pos 0 <ℤ w.step = bounds.positive in
    let later : bucket_of w h.least ≤ℤ bucket_of w h.most = bucket_of-monotone w h.least h.most bounds le in
    omega (arith, ints)

-- ---- the first start of a bucket at or above a number

-- a bucket that is at or above a number and less than a step above it is the first one there
pub start_from-one : (w : WidthValue) (t b : ℤ) → IsWidth w → is_bucket w b ≡ true → t ≤ℤ b → b <ℤ (t +ℤ w.step) → start_from w t ≡ b
start_from-one w t b h p low high =
    let first : start_from w t ≤ℤ b = start_from-first w b t h p low in
    let last : b ≤ℤ start_from w t = bucket_of-last w b (t +ℤ (w.step -ℤ pos 1)) h p (omega (arith, ints)) in
    omega (arith, ints)

-- the start of a bucket is the first at or above itself
pub start_from-bucket : (w : WidthValue) (t : ℤ) → IsWidth w → bucket_of w t ≡ t → start_from w t ≡ t
start_from-bucket w t h e =
    let positive : pos 0 <ℤ w.step = h.positive in
    let p : is_bucket w t ≡ true = subst (λ x. is_bucket w x ≡ true) e (is_bucket-bucket_of w t h) in
    start_from-one w t t h p (omega (arith, ints)) (omega (arith, ints))

-- any other number has the end of its bucket as the first start above it
pub start_from-end : (w : WidthValue) (t : ℤ) → IsWidth w → bucket_of w t <ℤ t → start_from w t ≡ bucket_of w t +ℤ w.step
start_from-end w t h below =
    let p : is_bucket w (bucket_of w t +ℤ w.step) ≡ true = is_bucket-next w (bucket_of w t) h ∙ is_bucket-bucket_of w t h in
    let above : t <ℤ (bucket_of w t +ℤ w.step) = (bucket_of_meets w t h).end_above in
    start_from-one w t (bucket_of w t +ℤ w.step) h p (omega (arith, ints)) (omega (arith, ints))

-- ---- the range of buckets

pub is_bucket-range_end : (w : WidthValue) → IsWidth w → is_bucket w (whole_span w).hi ≡ true
is_bucket-range_end w h = is_bucket-bucket_of w greatest h

-- it ends less than a step below the greatest number
pub range_end : (w : WidthValue) → IsWidth w → ((whole_span w).hi ≤ℤ greatest) × (greatest <ℤ ((whole_span w).hi +ℤ w.step))
range_end w h = let m = bucket_of_meets w greatest h in (m.at_or_below, m.end_above)

-- what is near the times is below its end
pub near_below_range_end : (w : WidthValue) (t : ℤ) → IsWidth w → IsNearTimes t → t ≤ℤ (whole_span w).hi
near_below_range_end w t h near =
    let bounded : w.step ≤ℤ max_step = h.bounded in
    let end : greatest <ℤ ((whole_span w).hi +ℤ w.step) = (range_end w h).1 in
    let high : t ≤ℤ pos (2 ^ 62 - 1 + 2 ^ 41) = near.high in
    omega (arith, ints)

-- a number at or below its end has its first start there too
pub start_from-in_range : (w : WidthValue) (t : ℤ) → IsWidth w → t ≤ℤ (whole_span w).hi → start_from w t ≤ℤ (whole_span w).hi
start_from-in_range w t h le = start_from-first w (whole_span w).hi t h (is_bucket-range_end w h) le

-- the first bucket starts within reach, and before the range ends
pub first_low : (w : WidthValue) → IsWidth w → negsuc (2 ^ 62 + 2 ^ 41 - 1) ≤ℤ first_of w
first_low w h =
    let bounded : w.step ≤ℤ max_step = h.bounded in
    let above : min_time <ℤ (first_of w +ℤ w.step) = (bucket_of_meets w min_time h).end_above in
    omega (arith, ints)

-- ---- the buckets that start in a span

-- the span from the first start at or above one number to the first at or above another
pub starts_ordered : (w : WidthValue) (from to : ℤ) → IsWidth w → from <ℤ to → start_from w from ≤ℤ start_from w to
starts_ordered w from to h l = bucket_of-monotone w (from +ℤ (w.step -ℤ pos 1)) (to +ℤ (w.step -ℤ pos 1)) h (omega (arith, ints))

pub starts_whole : (w : WidthValue) (from to : ℤ) → IsWidth w → first_of w ≤ℤ from → IsWholeSpan w (record { lo = start_from w from; hi = start_from w to })
starts_whole w from to h low =
    let above : from ≤ℤ start_from w from = start_from-above w from h in
    record {
      starts = is_bucket-bucket_of w (from +ℤ (w.step -ℤ pos 1)) h;
      ends = is_bucket-bucket_of w (to +ℤ (w.step -ℤ pos 1)) h;
      from_first = omega (arith, ints);
    }

-- an empty span is a span of whole buckets
pub none_whole : (w : WidthValue) → IsWidth w → IsWholeSpan w (record { lo = first_of w; hi = first_of w })
none_whole w h = record { starts = is_bucket-first w h; ends = is_bucket-first w h; from_first = omega (arith, ints) }

-- the buckets from one start to another are those that start between the numbers
pub starts_exact : (w : WidthValue) (from to b : ℤ) → IsWidth w → is_bucket w b ≡ true → in_span (record { lo = start_from w from; hi = start_from w to }) b ≡ in_span (record { lo = from; hi = to }) b
starts_exact w from to b h p =
    let s : SpanValue = record { lo = start_from w from; hi = start_from w to } in
    let t : SpanValue = record { lo = from; hi = to } in
    let start : from ≤ℤ start_from w from = start_from-above w from h in
    let end : to ≤ℤ start_from w to = start_from-above w to h in
    same_from_decides {P = (from ≤ℤ b) × (b <ℤ to)} (in_span s b) (in_span t b) (
      (λ held.
          let ends = in_span-ends s b held in
          let low : start_from w from ≤ℤ b = ends.0 in
          let high : b <ℤ start_from w to = ends.1 in
          (omega (arith, ints), by_lt_z b to (λ less. less) (λ more. let first : start_from w to ≤ℤ b = start_from-first w b to h p more in absurd (omega (arith, ints))))),
      (λ ends. in_span-from_ends s b (start_from-first w b from h p ends.0) (let high : b <ℤ to = ends.1 in omega (arith, ints))),
    )
    (in_span-ends t b, λ ends. in_span-from_ends t b ends.0 ends.1)

-- what lies in both of two spans lies between the greater start and the lesser end
pub in_both : (s t : SpanValue) (from to b : ℤ) → from ≡ int_max s.lo t.lo → to ≡ int_min s.hi t.hi → in_span (record { lo = from; hi = to }) b ≡ (in_span t b && in_span s b)
in_both s t from to b e f =
    same_from_decides {P = (from ≤ℤ b) × (b <ℤ to)} (in_span (record { lo = from; hi = to }) b) (in_span t b && in_span s b)
    (in_span-ends (record { lo = from; hi = to }) b, λ ends. in_span-from_ends (record { lo = from; hi = to }) b ends.0 ends.1) (
      (λ held. let low : s.lo ≤ℤ b = grind (arith, ints) in let low_too : t.lo ≤ℤ b = grind (arith, ints) in let high : b <ℤ s.hi = grind (arith, ints) in let high_too : b <ℤ t.hi = grind (arith, ints) in (omega (arith, ints, clamps), omega (arith, ints, clamps))),
      (λ ends.
          let above : from ≤ℤ b = ends.0 in let below : b <ℤ to = ends.1 in
          let low : s.lo ≤ℤ b = omega (arith, ints, clamps) in
          let low_too : t.lo ≤ℤ b = omega (arith, ints, clamps) in
          let high : b <ℤ s.hi = omega (arith, ints, clamps) in
          let high_too : b <ℤ t.hi = omega (arith, ints, clamps) in
          grind (arith, ints)),
    )

-- an empty span has no number, like a span whose end is at or below its start
pub none_between : (from to x b : ℤ) → to ≤ℤ from → in_span (record { lo = x; hi = x }) b ≡ in_span (record { lo = from; hi = to }) b
none_between from to x b le =
    same_from_decides {P = ⊥} (in_span (record { lo = x; hi = x }) b) (in_span (record { lo = from; hi = to }) b)
    ((λ held. let ends = in_span-ends (record { lo = x; hi = x }) b held in let low : x ≤ℤ b = ends.0 in let high : b <ℤ x = ends.1 in omega (arith, ints)), (λ none. absurd none))
    ((λ held. let ends = in_span-ends (record { lo = from; hi = to }) b held in let low : from ≤ℤ b = ends.0 in let high : b <ℤ to = ends.1 in omega (arith, ints)), (λ none. absurd none))
