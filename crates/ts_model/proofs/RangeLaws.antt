-- The buckets of a span, and their ranges: maximal, rising, not touching, and exactly the buckets that pass.
use Rattle.std.proofs.Common.{◌≡◌, ℕ, zero, suc, Bool, true, false, ◌&&◌, ◌||◌, cond, List, [], ◌∷◌, filter, ℤ, pos, negsuc, ◌+ℤ◌, ◌-ℤ◌, ◌≤ℤ◌, ◌<ℤ◌, int_le, int_lt, sym, refl, ap, ◌∙◌, subst, arith}
use Rattle.std.specs.List.{list_any, AllByRecursion}
use Rattle.std.specs.Ordering.{int_eq}
use Rattle.std.proofs.lemmas.Bool.{and_parts, and_right, both_ways}
use Rattle.std.proofs.lemmas.Bool.Decides.{Decides-int_eq}
use Rattle.std.proofs.lemmas.Int.{ints}
use Rattle.std.proofs.Math.Bool.{or_assoc}
use Rattle.ts_bucket.specs.Bucket.{IsWidth, is_bucket, first_of}
use Rattle.ts_bucket.specs.Spans.{in_span}
use Rattle.ts_bucket.specs.declared.spans.Span.{Span}
use Rattle.ts_bucket.specs.declared.widths.Width.{Width}
use Rattle.ts_bucket.proofs.BucketLaws.{buckets_apart, is_bucket-next, holds-is, bucket_of-bucket}
use Rattle.ts_model.specs.Answers.{numbers_from, count_of, buckets_in, with_bucket, ranges}
use Rattle.ts_bucket.specs.Ranges.{lies_in, is_asked, IsWholeRange, RiseApart}
use Rattle.ts_model.specs.Laws.{RangesAreMaximal}

-- ---- the buckets of a span

-- c is among these
abbrev pub among : ℤ → List ℤ → Bool
among c bs = list_any (λ x. int_eq x c) bs

-- a span of this many numbers from t on
abbrev counted : ℤ → ℕ → Span
counted t n = record { lo = t; hi = t +ℤ pos n }

counted_none : (t c : ℤ) → in_span (counted t 0) c ≡ false
counted_none t c = grind (arith, ints)

counted_here : (t : ℤ) (n : ℕ) → in_span (counted t (suc n)) t ≡ true
counted_here t n = grind (arith, ints)

counted_past : (t : ℤ) (n : ℕ) → in_span (counted (t +ℤ pos 1) n) t ≡ false
counted_past t n = grind (arith, ints)

counted_next : (t c : ℤ) (n : ℕ) → (t ≡ c → ⊥) → in_span (counted t (suc n)) c ≡ in_span (counted (t +ℤ pos 1) n) c
counted_next t c n apart =
    elim (int_lt t c) as (λ b. int_lt t c ≡ b → in_span (counted t (suc n)) c ≡ in_span (counted (t +ℤ pos 1) n) c) [
      | true ↦ λ e. grind (arith, ints)
      | false ↦ λ e. let below : c <ℤ t = (let at_most : c ≤ℤ t = grind (arith, ints) in omega (arith, ints)) in grind (arith, ints)
    ] refl

-- c is one of the numbers that pass if and only if it is in their span and passes
pub among-numbers : (p : ℤ → Bool) (t c : ℤ) (n : ℕ) → among c (filter p (numbers_from t n)) ≡ (in_span (counted t n) c && p c)
unfolding numbers_from
among-numbers p t c zero = sym (ap (λ b. b && p c) (counted_none t c))
among-numbers p t c (suc n) =
    let rest : among c (filter p (numbers_from (t +ℤ pos 1) n)) ≡ (in_span (counted (t +ℤ pos 1) n) c && p c) = among-numbers p (t +ℤ pos 1) c n in
    elim (int_eq t c) as (λ b. int_eq t c ≡ b → among c (cond (p t) (t ∷ filter p (numbers_from (t +ℤ pos 1) n)) (filter p (numbers_from (t +ℤ pos 1) n))) ≡ (in_span (counted t (suc n)) c && p c)) [
      | true ↦ λ e. here p t c n ((Decides-int_eq t c).0 e) e rest
      | false ↦ λ e.
          let apart : t ≡ c → ⊥ = λ q. both_ways (int_eq t c) e ((Decides-int_eq t c).1 q) in
          elsewhere p t c n e (rest ∙ ap (λ b. b && p c) (sym (counted_next t c n apart)))
    ] refl
  where
    here : (p : ℤ → Bool) (t c : ℤ) (n : ℕ) → t ≡ c → int_eq t c ≡ true → among c (filter p (numbers_from (t +ℤ pos 1) n)) ≡ (in_span (counted (t +ℤ pos 1) n) c && p c) → among c (cond (p t) (t ∷ filter p (numbers_from (t +ℤ pos 1) n)) (filter p (numbers_from (t +ℤ pos 1) n))) ≡ (in_span (counted t (suc n)) c && p c)
    here p t c n q e rest =
        let passes : p t ≡ p c = ap p q in
        let inside : in_span (counted t (suc n)) c ≡ true = subst (λ x. in_span (counted t (suc n)) x ≡ true) q (counted_here t n) in
        let past : in_span (counted (t +ℤ pos 1) n) c ≡ false = subst (λ x. in_span (counted (t +ℤ pos 1) n) x ≡ false) q (counted_past t n) in
        elim (p t) as (λ b. p t ≡ b → among c (cond b (t ∷ filter p (numbers_from (t +ℤ pos 1) n)) (filter p (numbers_from (t +ℤ pos 1) n))) ≡ (in_span (counted t (suc n)) c && p c)) [
          | true ↦ λ f. ap (λ b. b || among c (filter p (numbers_from (t +ℤ pos 1) n))) e ∙ sym (ap (λ b. b && p c) inside ∙ (sym passes ∙ f))
          | false ↦ λ f. rest ∙ ap (λ b. b && p c) past ∙ sym (ap (λ b. b && p c) inside ∙ (sym passes ∙ f))
        ] refl

    elsewhere : (p : ℤ → Bool) (t c : ℤ) (n : ℕ) → int_eq t c ≡ false → among c (filter p (numbers_from (t +ℤ pos 1) n)) ≡ (in_span (counted t (suc n)) c && p c) → among c (cond (p t) (t ∷ filter p (numbers_from (t +ℤ pos 1) n)) (filter p (numbers_from (t +ℤ pos 1) n))) ≡ (in_span (counted t (suc n)) c && p c)
    elsewhere p t c n e rest =
        elim (p t) as (λ b. among c (cond b (t ∷ filter p (numbers_from (t +ℤ pos 1) n)) (filter p (numbers_from (t +ℤ pos 1) n))) ≡ (in_span (counted t (suc n)) c && p c)) [
          | true ↦ ap (λ b. b || among c (filter p (numbers_from (t +ℤ pos 1) n))) e ∙ rest
          | false ↦ rest
        ]

counted_span : (span : Span) (c : ℤ) → in_span (counted span.lo (count_of (span.hi -ℤ span.lo))) c ≡ in_span span c
counted_span span c = by_difference span.lo span.hi c (span.hi -ℤ span.lo) refl
  where
    by_difference : (lo hi c d : ℤ) → hi -ℤ lo ≡ d → in_span (counted lo (count_of d)) c ≡ in_span (record { lo = lo; hi = hi }) c
    by_difference lo hi c (pos n) e = let ends : hi ≡ lo +ℤ pos n = omega (arith, ints) in ap (λ z. in_span (record { lo = lo; hi = z }) c) (sym ends)
    by_difference lo hi c (negsuc n) e = let below : hi <ℤ lo = omega (arith, ints) in grind (arith, ints)

-- a number is one of the buckets of a span if and only if it is requested
pub among-buckets_in : (w : Width) (starts : Span) (c : ℤ) → among c (buckets_in w starts) ≡ is_asked w starts c
among-buckets_in w starts c =
    among-numbers (λ b. is_bucket w b && int_le (first_of w) b) starts.lo c (count_of (starts.hi -ℤ starts.lo))
    ∙ ap (λ i. i && (is_bucket w c && int_le (first_of w) c)) (counted_span starts c)

-- buckets from low on that rise
abbrev pub RisingBuckets : Width → ℤ → List ℤ → Type 0
RisingBuckets w low [] = Unit {0}
RisingBuckets w low (b ∷ bs) = (low ≤ℤ b) × (is_bucket w b ≡ true) × RisingBuckets w (b +ℤ pos 1) bs

rising_from : (w : Width) (low high : ℤ) (bs : List ℤ) → low ≤ℤ high → RisingBuckets w high bs → RisingBuckets w low bs
rising_from w low high [] l r = tt
rising_from w low high (b ∷ bs) l r = let m : high ≤ℤ b = r.0 in (omega (arith, ints), r.1, r.2)

rising_numbers : (w : Width) (p : ℤ → Bool) (t : ℤ) (n : ℕ) → ((b : ℤ) → p b ≡ true → is_bucket w b ≡ true) → RisingBuckets w t (filter p (numbers_from t n))
unfolding numbers_from
rising_numbers w p t zero bucket = tt
rising_numbers w p t (suc n) bucket =
    let rest = rising_numbers w p (t +ℤ pos 1) n bucket in
    elim (p t) as (λ b. p t ≡ b → RisingBuckets w t (cond b (t ∷ filter p (numbers_from (t +ℤ pos 1) n)) (filter p (numbers_from (t +ℤ pos 1) n)))) [
      | true ↦ λ e. (omega (arith, ints), bucket t e, rest)
      | false ↦ λ e. rising_from w t (t +ℤ pos 1) _ (omega (arith, ints)) rest
    ] refl

pub rising-buckets_in : (w : Width) (starts : Span) → RisingBuckets w starts.lo (buckets_in w starts)
rising-buckets_in w starts = rising_numbers w (λ b. is_bucket w b && int_le (first_of w) b) starts.lo (count_of (starts.hi -ℤ starts.lo)) (λ b e. (and_parts (is_bucket w b) _ e).0)

-- ---- their ranges

-- the first range starts at low or above
abbrev FromLow : ℤ → List Span → Type 0
FromLow low [] = Unit {0}
FromLow low (s ∷ ss) = low ≤ℤ s.lo

record Ranged (w : Width) (low : ℤ) (bs : List ℤ) (test : ℤ → Bool) (found : List Span) : Type 0 where
  pub whole : AllByRecursion (IsWholeRange w) found
  pub rising : RiseApart found
  pub from : FromLow low found
  pub exact : (c : ℤ) → is_bucket w c ≡ true → lies_in found c ≡ (among c bs && test c)

-- the range of one bucket holds no other
alone : (w : Width) (b c : ℤ) → IsWidth w → is_bucket w b ≡ true → is_bucket w c ≡ true → in_span (record { lo = b; hi = b +ℤ w.step }) c ≡ int_eq b c
alone w b c width bucket other = holds-is w b c width bucket ∙ ap (int_eq b) (bucket_of-bucket w c width other)

one_bucket : (w : Width) (b : ℤ) → IsWidth w → is_bucket w b ≡ true → IsWholeRange w (record { lo = b; hi = b +ℤ w.step })
one_bucket w b width bucket = let positive = width.positive in record { starts = bucket; ends = is_bucket-next w b width ∙ bucket; some = omega (arith, ints) }

-- a test of b, or of others if it passes
added : (here among test_c test_b : Bool) → (here ≡ true → test_c ≡ test_b) → test_b ≡ true → (here || (among && test_c)) ≡ ((here || among) && test_c)
added true among test_c test_b e p = sym (e refl ∙ p)
added false among test_c test_b e p = refl

skipped : (here among test_c test_b : Bool) → (here ≡ true → test_c ≡ test_b) → test_b ≡ false → (among && test_c) ≡ ((here || among) && test_c)
skipped true among test_c test_b e p = let q : test_c ≡ false = e refl ∙ p in and_right among test_c q ∙ sym q
skipped false among test_c test_b e p = refl

spans_joined : (a m n z c : ℤ) → m ≡ n → a <ℤ m → n <ℤ z → in_span (record { lo = a; hi = z }) c ≡ (in_span (record { lo = a; hi = m }) c || in_span (record { lo = n; hi = z }) c)
spans_joined a m n z c e l k = grind (arith, ints)

apart_above : (m n : ℤ) → m ≤ℤ n → (m ≡ n → ⊥) → m <ℤ n
apart_above m n l apart =
    elim (int_lt m n) as (λ x. int_lt m n ≡ x → m <ℤ n) [
      | true ↦ λ e. grind (arith, ints)
      | false ↦ λ e. absurd (apart (let k : n ≤ℤ m = grind (arith, ints) in omega (arith, ints)))
    ] refl

same_test : (test : ℤ → Bool) (b c : ℤ) → int_eq b c ≡ true → test c ≡ test b
same_test test b c e = sym (ap test ((Decides-int_eq b c).0 e))

module _ (w : Width) (width : IsWidth w) (low b : ℤ) (bs : List ℤ) (test : ℤ → Bool) (at_low : low ≤ℤ b) (bucket : is_bucket w b ≡ true) where
  -- a bucket that passes, with no range after it
  with_first : Ranged w (b +ℤ pos 1) bs test [] → test b ≡ true → Ranged w low (b ∷ bs) test (record { lo = b; hi = b +ℤ w.step } ∷ [])
  with_first r passes = record {
    whole = (one_bucket w b width bucket, tt);
    rising = tt;
    from = at_low;
    exact = λ c other.
        ap (λ x. x || false) (alone w b c width bucket other)
        ∙ ap (λ x. int_eq b c || x) (r.exact c other)
        ∙ added (int_eq b c) (among c bs) (test c) (test b) (same_test test b c) passes;
  }

  -- a bucket that passes, before a range that it touches
  with_touching : (s : Span) (ss : List Span) → Ranged w (b +ℤ pos 1) bs test (s ∷ ss) → test b ≡ true → b +ℤ w.step ≡ s.lo → Ranged w low (b ∷ bs) test (record { lo = b; hi = s.hi } ∷ ss)
  with_touching s ss r passes touch = record {
    whole = (let positive = width.positive in let some : s.lo <ℤ s.hi = r.whole.0.some in record { starts = bucket; ends = r.whole.0.ends; some = omega (arith, ints) }, r.whole.1);
    rising = elim ss as (λ rest. RiseApart (s ∷ rest) → RiseApart (record { lo = b; hi = s.hi } ∷ rest)) [ [] ↦ λ _. tt | t ∷ rest ↦ λ p. p ] r.rising;
    from = at_low;
    exact = λ c other.
        let some : s.lo <ℤ s.hi = r.whole.0.some in
        let positive = width.positive in
        let joined : in_span (record { lo = b; hi = s.hi }) c ≡ (in_span (record { lo = b; hi = b +ℤ w.step }) c || in_span s c) = spans_joined b (b +ℤ w.step) s.lo s.hi c touch (omega (arith, ints)) some in
        ap (λ x. x || lies_in ss c) joined
        ∙ or_assoc (in_span (record { lo = b; hi = b +ℤ w.step }) c) (in_span s c) (lies_in ss c)
        ∙ ap (λ x. x || lies_in (s ∷ ss) c) (alone w b c width bucket other)
        ∙ ap (λ x. int_eq b c || x) (r.exact c other)
        ∙ added (int_eq b c) (among c bs) (test c) (test b) (same_test test b c) passes;
  }

  -- a bucket that passes, before a range that it doesn't touch
  with_apart : (s : Span) (ss : List Span) → Ranged w (b +ℤ pos 1) bs test (s ∷ ss) → test b ≡ true → (b +ℤ w.step ≡ s.lo → ⊥) → Ranged w low (b ∷ bs) test (record { lo = b; hi = b +ℤ w.step } ∷ s ∷ ss)
  with_apart s ss r passes apart = record {
    whole = (one_bucket w b width bucket, r.whole);
    rising = (let above : (b +ℤ w.step) ≤ℤ s.lo = buckets_apart w b s.lo width bucket r.whole.0.starts (let l : (b +ℤ pos 1) ≤ℤ s.lo = r.from in omega (arith, ints)) in apart_above (b +ℤ w.step) s.lo above apart, r.rising);
    from = at_low;
    exact = λ c other.
        ap (λ x. x || lies_in (s ∷ ss) c) (alone w b c width bucket other)
        ∙ ap (λ x. int_eq b c || x) (r.exact c other)
        ∙ added (int_eq b c) (among c bs) (test c) (test b) (same_test test b c) passes;
  }

  with_bucket_ranged : (found : List Span) → Ranged w (b +ℤ pos 1) bs test found → test b ≡ true → Ranged w low (b ∷ bs) test (with_bucket w b found)
  with_bucket_ranged [] r passes = with_first r passes
  with_bucket_ranged (s ∷ ss) r passes =
      elim (int_eq (b +ℤ w.step) s.lo) as (λ x. int_eq (b +ℤ w.step) s.lo ≡ x → Ranged w low (b ∷ bs) test (cond x (record { lo = b; hi = s.hi } ∷ ss) (record { lo = b; hi = b +ℤ w.step } ∷ s ∷ ss))) [
        | true ↦ λ e. with_touching s ss r passes ((Decides-int_eq (b +ℤ w.step) s.lo).0 e)
        | false ↦ λ e. with_apart s ss r passes (λ q. both_ways (int_eq (b +ℤ w.step) s.lo) e ((Decides-int_eq (b +ℤ w.step) s.lo).1 q))
      ] refl

  without_bucket : (found : List Span) → Ranged w (b +ℤ pos 1) bs test found → test b ≡ false → Ranged w low (b ∷ bs) test found
  without_bucket found r fails = record {
    whole = r.whole;
    rising = r.rising;
    from = elim found as (λ x. FromLow (b +ℤ pos 1) x → FromLow low x) [ [] ↦ λ _. tt | s ∷ ss ↦ λ (l : (b +ℤ pos 1) ≤ℤ s.lo). omega (arith, ints) ] r.from;
    exact = λ c other. r.exact c other ∙ skipped (int_eq b c) (among c bs) (test c) (test b) (same_test test b c) fails;
  }

ranged : (w : Width) (width : IsWidth w) (low : ℤ) (bs : List ℤ) (test : ℤ → Bool) → RisingBuckets w low bs → Ranged w low bs test (ranges w test bs)
ranged w width low [] test r = record { whole = tt; rising = tt; from = tt; exact = λ c other. refl }
ranged w width low (b ∷ bs) test r =
    let rest = ranged w width (b +ℤ pos 1) bs test r.2 in
    elim (test b) as (λ x. test b ≡ x → Ranged w low (b ∷ bs) test (cond x (with_bucket w b (ranges w test bs)) (ranges w test bs))) [
      | true ↦ λ e. with_bucket_ranged w width low b bs test r.0 r.1 (ranges w test bs) rest e
      | false ↦ λ e. without_bucket w width low b bs test r.0 r.1 (ranges w test bs) rest e
    ] refl

pub ranges_are_maximal : RangesAreMaximal
ranges_are_maximal w starts test width =
    let r = ranged w width starts.lo (buckets_in w starts) test (rising-buckets_in w starts) in
    record {
      whole = r.whole;
      rising = r.rising;
      exact = λ b bucket. r.exact b bucket ∙ ap (λ x. x && test b) (among-buckets_in w starts b);
    }
