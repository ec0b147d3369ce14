-- Laws of buckets: the bucket of a time is the one that holds it, buckets follow one another, and later times have later buckets.
use Rattle.std.proofs.Common.{◌≡◌, true, ℤ, pos, ◌+ℤ◌, ◌-ℤ◌, ◌≤ℤ◌, ◌<ℤ◌, sym, ap, ◌∙◌, subst, arith}
use Rattle.std.specs.Int.{int_rem_euclid}
use Rattle.std.specs.Ordering.{int_eq}
use Rattle.std.proofs.lemmas.Int.{ints, by_lt_z}
use Rattle.std.proofs.lemmas.Bool.Decides.{Decides-int_eq, same_from_decides}
use Rattle.ts_bucket.specs.Bucket.{WidthValue, IsWidth, holds, is_bucket, bucket_of, first_of, min_time, IsBucketOf}
use Rattle.ts_bucket.proofs.Remainders.{remainder_bounds, remainder-without, whole_apart, remainder-step}

-- the bucket of a time meets the three conditions
pub bucket_of_meets : (w : WidthValue) (t : ℤ) → IsWidth w → IsBucketOf w t (bucket_of w t)
bucket_of_meets w t h =
    let bounds = remainder_bounds (t -ℤ w.shift) w.step h.positive in
    let low : pos 0 ≤ℤ int_rem_euclid (t -ℤ w.shift) w.step = bounds.0 in
    let high : int_rem_euclid (t -ℤ w.shift) w.step <ℤ w.step = bounds.1 in
    let moved : (bucket_of w t) -ℤ w.shift ≡ (t -ℤ w.shift) -ℤ int_rem_euclid (t -ℤ w.shift) w.step = omega (arith, ints) in
    record {
      at_or_below = omega (arith, ints);
      end_above = omega (arith, ints);
      divided = ap (λ z. int_rem_euclid z w.step) moved ∙ remainder-without (t -ℤ w.shift) w.step h.positive;
    }

-- the test of a bucket, as a remainder
pub is_bucket-remainder : (w : WidthValue) (b : ℤ) → is_bucket w b ≡ true → int_rem_euclid (b -ℤ w.shift) w.step ≡ pos 0
is_bucket-remainder w b h = (Decides-int_eq (int_rem_euclid (b -ℤ w.shift) w.step) (pos 0)).0 h

pub is_bucket-from_remainder : (w : WidthValue) (b : ℤ) → int_rem_euclid (b -ℤ w.shift) w.step ≡ pos 0 → is_bucket w b ≡ true
is_bucket-from_remainder w b h = (Decides-int_eq (int_rem_euclid (b -ℤ w.shift) w.step) (pos 0)).1 h

-- what starts at the bucket of a time is a bucket
pub is_bucket-bucket_of : (w : WidthValue) (t : ℤ) → IsWidth w → is_bucket w (bucket_of w t) ≡ true
is_bucket-bucket_of w t h = is_bucket-from_remainder w (bucket_of w t) (bucket_of_meets w t h).divided

-- the bucket of a time holds it
pub holds-bucket_of : (w : WidthValue) (t : ℤ) → IsWidth w → holds w (bucket_of w t) t ≡ true
holds-bucket_of w t h = let m = bucket_of_meets w t h in grind (arith, ints)

-- of two buckets the later starts where the earlier ends, or above
pub buckets_apart : (w : WidthValue) (a b : ℤ) → IsWidth w → is_bucket w a ≡ true → is_bucket w b ≡ true → a <ℤ b → (a +ℤ w.step) ≤ℤ b
buckets_apart w a b h p q l =
    let below : (a -ℤ w.shift) <ℤ (b -ℤ w.shift) = omega (arith, ints) in
    let apart : ((a -ℤ w.shift) +ℤ w.step) ≤ℤ (b -ℤ w.shift) = whole_apart (a -ℤ w.shift) (b -ℤ w.shift) w.step h.positive (is_bucket-remainder w a p) (is_bucket-remainder w b q) below in
    omega (arith, ints)

-- a bucket that starts below the end of another starts at or below it
pub bucket_before_end : (w : WidthValue) (a b : ℤ) → IsWidth w → is_bucket w a ≡ true → is_bucket w b ≡ true → b <ℤ (a +ℤ w.step) → b ≤ℤ a
bucket_before_end w a b h p q l =
    by_lt_z a b (λ above. let apart : (a +ℤ w.step) ≤ℤ b = buckets_apart w a b h p q above in absurd (omega (arith, ints))) (λ low. low)

-- where a bucket ends, the next one starts
pub is_bucket-next : (w : WidthValue) (b : ℤ) → IsWidth w → is_bucket w (b +ℤ w.step) ≡ is_bucket w b
is_bucket-next w b h =
    let moved : (b +ℤ w.step) -ℤ w.shift ≡ (b -ℤ w.shift) +ℤ w.step = omega (arith, ints) in
    ap (λ z. int_eq z (pos 0)) (ap (λ z. int_rem_euclid z w.step) moved ∙ remainder-step (b -ℤ w.shift) w.step h.positive)

-- the parts of a test that a bucket holds a number
pub holds-parts : (w : WidthValue) (b t : ℤ) → holds w b t ≡ true → (b ≤ℤ t) × (t <ℤ (b +ℤ w.step))
holds-parts w b t h = (grind (arith, ints), grind (arith, ints))

pub holds-from_parts : (w : WidthValue) (b t : ℤ) → b ≤ℤ t → t <ℤ (b +ℤ w.step) → holds w b t ≡ true
holds-from_parts w b t low high = grind (arith, ints)

-- no bucket starts between the bucket of a time and the time: it is the last one at or below the time
pub bucket_of-last : (w : WidthValue) (b t : ℤ) → IsWidth w → is_bucket w b ≡ true → b ≤ℤ t → b ≤ℤ bucket_of w t
bucket_of-last w b t h p low =
    let m = bucket_of_meets w t h in
    let below : t <ℤ (bucket_of w t +ℤ w.step) = m.end_above in
    by_lt_z (bucket_of w t) b
    (λ above. let apart : (bucket_of w t +ℤ w.step) ≤ℤ b = buckets_apart w (bucket_of w t) b h (is_bucket-bucket_of w t h) p above in absurd (omega (arith, ints)))
    (λ at_or_below. at_or_below)

-- a bucket that ends above a time is at or above the bucket of the time
pub bucket_of-first : (w : WidthValue) (b t : ℤ) → IsWidth w → is_bucket w b ≡ true → t <ℤ (b +ℤ w.step) → bucket_of w t ≤ℤ b
bucket_of-first w b t h p high =
    let m = bucket_of_meets w t h in
    let at_or_below : bucket_of w t ≤ℤ t = m.at_or_below in
    by_lt_z b (bucket_of w t)
    (λ below. let apart : (b +ℤ w.step) ≤ℤ bucket_of w t = buckets_apart w b (bucket_of w t) h p (is_bucket-bucket_of w t h) below in absurd (omega (arith, ints)))
    (λ above. above)

-- one bucket holds a time
pub holds-one : (w : WidthValue) (b t : ℤ) → IsWidth w → is_bucket w b ≡ true → holds w b t ≡ true → b ≡ bucket_of w t
holds-one w b t h p held =
    let parts = holds-parts w b t held in
    let low : b ≤ℤ bucket_of w t = bucket_of-last w b t h p parts.0 in
    let high : bucket_of w t ≤ℤ b = bucket_of-first w b t h p parts.1 in
    omega (arith, ints)

-- a bucket holds a time if and only if it is that time's bucket
pub holds-is : (w : WidthValue) (b t : ℤ) → IsWidth w → is_bucket w b ≡ true → holds w b t ≡ int_eq b (bucket_of w t)
holds-is w b t h p =
    same_from_decides (holds w b t) (int_eq b (bucket_of w t))
    (holds-one w b t h p, λ e. subst (λ x. holds w x t ≡ true) (sym e) (holds-bucket_of w t h))
    (Decides-int_eq b (bucket_of w t))

-- the bucket of a bucket's start is that bucket
pub bucket_of-bucket : (w : WidthValue) (b : ℤ) → IsWidth w → is_bucket w b ≡ true → bucket_of w b ≡ b
bucket_of-bucket w b h p =
    let positive : pos 0 <ℤ w.step = h.positive in
    sym (holds-one w b b h p (holds-from_parts w b b (omega (arith, ints)) (omega (arith, ints))))

-- later times have later buckets, or the same
pub bucket_of-monotone : (w : WidthValue) (t u : ℤ) → IsWidth w → t ≤ℤ u → bucket_of w t ≤ℤ bucket_of w u
bucket_of-monotone w t u h le =
    let m = bucket_of_meets w t h in
    let low : bucket_of w t ≤ℤ t = m.at_or_below in
    bucket_of-last w (bucket_of w t) u h (is_bucket-bucket_of w t h) (omega (arith, ints))

-- where a bucket starts, the one before ends
pub is_bucket-before : (w : WidthValue) (b : ℤ) → IsWidth w → is_bucket w (b -ℤ w.step) ≡ is_bucket w b
is_bucket-before w b h =
    let back : (b -ℤ w.step) +ℤ w.step ≡ b = omega (arith, ints) in
    sym (is_bucket-next w (b -ℤ w.step) h) ∙ ap (is_bucket w) back

-- the first bucket is a bucket, and every time's bucket is at or above it
pub is_bucket-first : (w : WidthValue) → IsWidth w → is_bucket w (first_of w) ≡ true
is_bucket-first w h = is_bucket-bucket_of w min_time h

pub first_of-least : (w : WidthValue) (t : ℤ) → IsWidth w → min_time ≤ℤ t → first_of w ≤ℤ bucket_of w t
first_of-least w t h le = bucket_of-monotone w min_time t h le
