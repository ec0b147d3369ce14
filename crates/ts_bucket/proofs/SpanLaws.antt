-- Laws of spans and hulls: when they have a number in common.
use Rattle.std.proofs.Common.{◌≡◌, true, ℤ, pos, ◌+ℤ◌, ◌≤ℤ◌, ◌<ℤ◌, arith}
use Rattle.std.proofs.lemmas.Int.{ints, by_lt_z}
use Rattle.std.proofs.lemmas.Bool.Decides.{same_from_decides}
use Rattle.ts_bucket.specs.Bucket.{WidthValue, IsWidth, is_bucket, bucket_of}
use Rattle.ts_bucket.specs.Spans.{SpanValue, HullValue, in_span, overlaps, SharesTime, meets, bucket_span, touched_span}
use Rattle.ts_bucket.proofs.BucketLaws.{bucket_of_meets, bucket_of-first, bucket_before_end, is_bucket-bucket_of}

-- a hull and a span whose ends reach each other have a number in common
pub shared_time : (h : HullValue) (s : SpanValue) → h.least ≤ℤ h.most → h.least <ℤ s.hi → s.lo ≤ℤ h.most → s.lo <ℤ s.hi → SharesTime h s
shared_time h s full before after some =
    by_lt_z h.least s.lo (λ below. (s.lo, omega (arith, ints), after, omega (arith, ints), some)) (λ above. (h.least, omega (arith, ints), full, above, before))

-- the test of a common number
pub overlaps-shares : (h : HullValue) (s : SpanValue) → h.least ≤ℤ h.most → overlaps h s ≡ true → SharesTime h s
overlaps-shares h s full t =
    let before : h.least <ℤ s.hi = grind (arith, ints) in
    let after : s.lo ≤ℤ h.most = grind (arith, ints) in
    let some : s.lo <ℤ s.hi = grind (arith, ints) in
    shared_time h s full before after some

pub overlaps-from_shared : (h : HullValue) (s : SpanValue) → SharesTime h s → overlaps h s ≡ true
overlaps-from_shared h s (t, from, to, lo, hi) =
    let before : h.least <ℤ s.hi = omega (arith, ints) in
    let after : s.lo ≤ℤ h.most = omega (arith, ints) in
    let some : s.lo <ℤ s.hi = omega (arith, ints) in
    grind (arith, ints)

-- a number between the ends of a span is in it
pub in_span-from_ends : (s : SpanValue) (t : ℤ) → s.lo ≤ℤ t → t <ℤ s.hi → in_span s t ≡ true
in_span-from_ends s t low high = grind (arith, ints)

pub in_span-ends : (s : SpanValue) (t : ℤ) → in_span s t ≡ true → (s.lo ≤ℤ t) × (t <ℤ s.hi)
in_span-ends s t h = (grind (arith, ints), grind (arith, ints))

-- a hull meets a bucket if and only if some number of the hull is in the bucket
pub meets-overlaps : (w : WidthValue) (b : ℤ) (h : HullValue) → IsWidth w → meets w b h ≡ overlaps h (bucket_span w b)
meets-overlaps w b h bounds = let positive : pos 0 <ℤ w.step = bounds.positive in grind (arith, ints)

-- the buckets that a hull meets are those from the bucket of its least time to that of its greatest
pub meets-between : (w : WidthValue) (b : ℤ) (h : HullValue) → IsWidth w → is_bucket w b ≡ true → meets w b h ≡ in_span (touched_span w h) b
meets-between w b h bounds p =
    let from_low : h.least <ℤ (bucket_of w h.least +ℤ w.step) = (bucket_of_meets w h.least bounds).end_above in
    let to_low : bucket_of w h.most ≤ℤ h.most = (bucket_of_meets w h.most bounds).at_or_below in
    let to_high : h.most <ℤ (bucket_of w h.most +ℤ w.step) = (bucket_of_meets w h.most bounds).end_above in
    let forth : meets w b h ≡ true → (bucket_of w h.least ≤ℤ b) × (b <ℤ (bucket_of w h.most +ℤ w.step)) = λ met.
    let before : h.least <ℤ (b +ℤ w.step) = grind (arith, ints) in
    let after : b ≤ℤ h.most = grind (arith, ints) in
    (bucket_of-first w b h.least bounds p before, omega (arith, ints))
    in
    let back : (bucket_of w h.least ≤ℤ b) × (b <ℤ (bucket_of w h.most +ℤ w.step)) → meets w b h ≡ true = λ ends.
    let first : bucket_of w h.least ≤ℤ b = ends.0 in
    let last : b ≤ℤ bucket_of w h.most = bucket_before_end w (bucket_of w h.most) b bounds (is_bucket-bucket_of w h.most bounds) p ends.1 in
    let before : h.least <ℤ (b +ℤ w.step) = omega (arith, ints) in
    let after : b ≤ℤ h.most = omega (arith, ints) in
    grind (arith, ints)
    in
    same_from_decides (meets w b h) (in_span (touched_span w h) b) (forth, back)
    (λ t. (grind (arith, ints), grind (arith, ints)), λ ends. in_span-from_ends (touched_span w h) b ends.0 ends.1)
