-- The span computed for a window is the greatest span of whole buckets in it.
use Rattle.std.proofs.Common.{◌≡◌, Bool, true, false, cond, ℤ, pos, ◌+ℤ◌, ◌-ℤ◌, ◌≤ℤ◌, ◌<ℤ◌, int_lt, Option, Some, None, MatchOption, sym, refl, subst, arith}
use Rattle.std.specs.Int.{int_max}
use Rattle.std.proofs.lemmas.Int.{ints, clamps}
use Rattle.std.proofs.lemmas.Bool.Decides.{same_from_decides}
use Rattle.ts_bucket.specs.Bucket.{WidthValue, IsWidth, is_bucket, bucket_of, first_of}
use Rattle.ts_bucket.specs.Spans.{SpanValue, in_span}
use Rattle.ts_bucket.specs.Windows.{is_whole_in, IsInscribed, HasNoBucket, start_from, window_start, inscribed}
use Rattle.ts_bucket.proofs.BucketLaws.{bucket_of_meets, bucket_of-first, buckets_apart, is_bucket-bucket_of, is_bucket-first}
use Rattle.ts_bucket.proofs.SpanLaws.{in_span-ends, in_span-from_ends}

-- the first start from t on is at or above t
pub start_from-above : (w : WidthValue) (t : ℤ) → IsWidth w → t ≤ℤ start_from w t
start_from-above w t h =
    let end : (t +ℤ (w.step -ℤ pos 1)) <ℤ (start_from w t +ℤ w.step) = (bucket_of_meets w (t +ℤ (w.step -ℤ pos 1)) h).end_above in
    omega (arith, ints)

-- each bucket that starts at or above t starts at or above the first of these
pub start_from-first : (w : WidthValue) (b t : ℤ) → IsWidth w → is_bucket w b ≡ true → t ≤ℤ b → start_from w t ≤ℤ b
start_from-first w b t h p low =
    let below : (t +ℤ (w.step -ℤ pos 1)) <ℤ (b +ℤ w.step) = omega (arith, ints) in
    bucket_of-first w b (t +ℤ (w.step -ℤ pos 1)) h p below

-- the start of a window is a bucket, and the buckets from it on are those of the window from the first bucket on
pub is_bucket-window_start : (w : WidthValue) (lo : Option ℤ) → IsWidth w → is_bucket w (window_start w lo) ≡ true
is_bucket-window_start w None h = is_bucket-first w h
is_bucket-window_start w (Some lo) h =
    elim (int_lt (start_from w lo) (first_of w)) as (λ c. is_bucket w (cond c (first_of w) (start_from w lo)) ≡ true)
    [ true ↦ is_bucket-first w h | false ↦ is_bucket-bucket_of w (lo +ℤ (w.step -ℤ pos 1)) h ]

-- the greater of two numbers is at or below a third if both are
max_below : (x y b : ℤ) → x ≤ℤ b → y ≤ℤ b → int_max x y ≤ℤ b
max_below x y b p q = elim (int_lt y x) as (λ c. cond c x y ≤ℤ b) [ true ↦ p | false ↦ q ]

max_bounds : (x y : ℤ) → (x ≤ℤ int_max x y) × (y ≤ℤ int_max x y)
max_bounds x y = (omega (arith, ints, clamps), omega (arith, ints, clamps))

-- the conditions of a whole bucket of a window, one by one
whole_parts : (w : WidthValue) (lo : Option ℤ) (hi b : ℤ) → IsWidth w → is_whole_in w lo hi b ≡ true → (is_bucket w b ≡ true) × (window_start w lo ≤ℤ b) × ((b +ℤ w.step) ≤ℤ hi)
whole_parts w None hi b h t = (grind (arith, ints), grind (arith, ints), grind (arith, ints))
whole_parts w (Some lo) hi b h t =
    let p : is_bucket w b ≡ true = grind (arith, ints) in
    let from : first_of w ≤ℤ b = grind (arith, ints) in
    let low : lo ≤ℤ b = grind (arith, ints) in
    (p, max_below (first_of w) (start_from w lo) b from (start_from-first w b lo h p low), grind (arith, ints))

whole_from_parts : (w : WidthValue) (lo : Option ℤ) (hi b : ℤ) → IsWidth w → is_bucket w b ≡ true → window_start w lo ≤ℤ b → (b +ℤ w.step) ≤ℤ hi → is_whole_in w lo hi b ≡ true
whole_from_parts w None hi b h p low high = grind (arith, ints)
whole_from_parts w (Some lo) hi b h p low high =
    let bounds = max_bounds (first_of w) (start_from w lo) in
    let from : first_of w ≤ℤ b = let x : first_of w ≤ℤ window_start w (Some lo) = bounds.0 in omega (arith, ints) in
    let above : lo ≤ℤ b = let y : start_from w lo ≤ℤ window_start w (Some lo) = bounds.1 in let z = start_from-above w lo h in omega (arith, ints) in
    grind (arith, ints)

-- a bucket ends at or before hi if and only if it starts below the bucket of hi
ends_by : (w : WidthValue) (b hi : ℤ) → IsWidth w → is_bucket w b ≡ true → b <ℤ bucket_of w hi → (b +ℤ w.step) ≤ℤ hi
ends_by w b hi h p below =
    let apart : (b +ℤ w.step) ≤ℤ bucket_of w hi = buckets_apart w b (bucket_of w hi) h p (is_bucket-bucket_of w hi h) below in
    let low : bucket_of w hi ≤ℤ hi = (bucket_of_meets w hi h).at_or_below in
    omega (arith, ints)

starts_below : (w : WidthValue) (b hi : ℤ) → IsWidth w → is_bucket w b ≡ true → (b +ℤ w.step) ≤ℤ hi → b <ℤ bucket_of w hi
starts_below w b hi h p end =
    let positive : pos 0 <ℤ w.step = h.positive in
    let high : hi <ℤ (bucket_of w hi +ℤ w.step) = (bucket_of_meets w hi h).end_above in
    omega (arith, ints)

-- the span from the window's start to the bucket of its end has exactly the whole buckets of the window
inscribed_exact : (w : WidthValue) (lo : Option ℤ) (hi b : ℤ) → IsWidth w → is_bucket w b ≡ true → in_span (record { lo = window_start w lo; hi = bucket_of w hi }) b ≡ is_whole_in w lo hi b
inscribed_exact w lo hi b h p =
    let s : SpanValue = record { lo = window_start w lo; hi = bucket_of w hi } in
    same_from_decides {P = (window_start w lo ≤ℤ b) × (b <ℤ bucket_of w hi)} (in_span s b) (is_whole_in w lo hi b)
    (in_span-ends s b, λ ends. in_span-from_ends s b ends.0 ends.1) (
      (λ t. let parts = whole_parts w lo hi b h t in (parts.1, starts_below w b hi h p parts.2)),
      (λ ends. whole_from_parts w lo hi b h p ends.0 (ends_by w b hi h p ends.1)),
    )

-- the span computed for a window: its whole buckets, and none only if it has none
pub inscribed_meets : (w : WidthValue) (lo : Option ℤ) (hi : ℤ) → IsWidth w → MatchOption (inscribed w lo hi) (HasNoBucket w lo hi) (IsInscribed w lo hi)
inscribed_meets w lo hi h = by_cases (int_lt (window_start w lo) (bucket_of w hi)) refl
  where
    by_cases : (c : Bool) → int_lt (window_start w lo) (bucket_of w hi) ≡ c → MatchOption (cond c (Some (record { lo = window_start w lo; hi = bucket_of w hi })) None) (HasNoBucket w lo hi) (IsInscribed w lo hi)
    by_cases true e = record {
      starts = is_bucket-window_start w lo h;
      ends = is_bucket-bucket_of w hi h;
      some = grind (arith, ints);
      exact = λ b p. inscribed_exact w lo hi b h p;
    }
    by_cases false e = λ b. none b (is_whole_in w lo hi b) refl
      where
        none : (b : ℤ) (t : Bool) → is_whole_in w lo hi b ≡ t → t ≡ false
        none b false q = refl
        none b true q =
            let parts = whole_parts w lo hi b h q in
            let below = starts_below w b hi h parts.0 parts.2 in
            let low = parts.1 in
            absurd (let empty : bucket_of w hi ≤ℤ window_start w lo = grind (arith, ints) in omega (arith, ints))

-- the same of a result that equals the window's span
pub inscribed_as : (w : WidthValue) (lo : Option ℤ) (hi : ℤ) (r : Option SpanValue) → IsWidth w → r ≡ inscribed w lo hi → MatchOption r (HasNoBucket w lo hi) (IsInscribed w lo hi)
inscribed_as w lo hi r h e = let P : Option SpanValue → Type 0 = λ x. MatchOption x (HasNoBucket w lo hi) (IsInscribed w lo hi) in subst P (sym e) (inscribed_meets w lo hi h)
