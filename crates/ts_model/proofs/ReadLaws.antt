-- Reads: the chunks that meet some bucket of a range are those that meet the range.
use Rattle.std.proofs.Common.{◌≡◌, ℕ, ◌+◌, Bool, true, false, ◌&&◌, ◌||◌, cond, List, [], ◌∷◌, map, ℤ, pos, ◌+ℤ◌, ◌≤ℤ◌, ◌<ℤ◌, int_le, sym, refl, ap, ◌∙◌, arith}
use Rattle.std.specs.List.{list_any, fold}
use Rattle.std.specs.Int.{int_max}
use Rattle.std.specs.Ordering.{int_eq}
use Rattle.std.proofs.lemmas.Bool.{true≢false, and_parts, and_from, or_left, or_right}
use Rattle.std.proofs.lemmas.Bool.Decides.{Decides-int_eq}
use Rattle.std.proofs.lemmas.Int.{ints, clamps}
use Rattle.ts_bucket.specs.Bucket.{IsWidth, is_bucket, first_of, bucket_of}
use Rattle.ts_bucket.specs.Spans.{in_span, bucket_span}
use Rattle.ts_bucket.specs.declared.spans.Span.{Span}
use Rattle.ts_bucket.specs.declared.widths.Width.{Width}
use Rattle.ts_bucket.proofs.BucketLaws.{buckets_apart, bucket_of_meets, bucket_of-last, is_bucket-bucket_of}
use Rattle.ts_bucket.proofs.SpanLaws.{in_span-from_ends, in_span-ends}
use Rattle.ts_schema.specs.declared.rows.Row.{Row}
use Rattle.ts_model.specs.Answers.{buckets_in}
use Rattle.ts_bucket.specs.Ranges.{is_asked, IsWholeRange}
use Rattle.ts_model.specs.Reads.{spans_meet, rows_near}
use Rattle.ts_bucket.specs.Chunks.{chunk_of}
use Rattle.ts_model.proofs.RangeLaws.{among, among-buckets_in}
use Rattle.ts_schema.proofs.Cases.{le-int_le, int_lt-true, lt-int_lt, same_test}

-- ---- some bucket that passes

pub list_any-map : {A B : Type 0} (q : B → Bool) (g : A → B) (xs : List A) → list_any q (map g xs) ≡ list_any (λ x. q (g x)) xs
list_any-map q g [] = refl
list_any-map q g (x ∷ xs) = ap (λ b. q (g x) || b) (list_any-map q g xs)

pub any_found : (P : Type 0) (q : ℤ → Bool) (bs : List ℤ) → ((b : ℤ) → among b bs ≡ true → q b ≡ true → P) → list_any q bs ≡ true → P
any_found P q [] gives e = absurd (true≢false (sym e))
any_found P q (b ∷ bs) gives e =
    elim (q b) as (λ t. q b ≡ t → (t || list_any q bs) ≡ true → P) [
      | true ↦ λ p _. gives b (or_left _ _ ((Decides-int_eq b b).1 refl)) p
      | false ↦ λ _ f. any_found P q bs (λ c i p. gives c (or_right (int_eq b c) _ i) p) f
    ] refl e

pub any_from : (q : ℤ → Bool) (bs : List ℤ) (c : ℤ) → among c bs ≡ true → q c ≡ true → list_any q bs ≡ true
any_from q [] c e p = absurd (true≢false (sym e))
any_from q (b ∷ bs) c e p =
    elim (int_eq b c) as (λ t. int_eq b c ≡ t → (t || among c bs) ≡ true → (q b || list_any q bs) ≡ true) [
      | true ↦ λ here _. or_left _ _ (ap q ((Decides-int_eq b c).0 here) ∙ p)
      | false ↦ λ _ f. or_right (q b) _ (any_from q bs c f p)
    ] refl e

-- ---- spans that meet

pub record Meet (a b : Span) : Type 0 where
  pub before : a.lo <ℤ b.hi
  pub after : b.lo <ℤ a.hi
  pub some_a : a.lo <ℤ a.hi
  pub some_b : b.lo <ℤ b.hi

pub meet_parts : (a b : Span) → spans_meet a b ≡ true → Meet a b
meet_parts a b e =
    let first = and_parts _ _ e in
    let second = and_parts _ _ first.0 in
    let third = and_parts _ _ second.0 in
    record {
      before = int_lt-true a.lo b.hi third.0;
      after = int_lt-true b.lo a.hi third.1;
      some_a = int_lt-true a.lo a.hi second.1;
      some_b = int_lt-true b.lo b.hi first.1;
    }

pub meet_from : (a b : Span) → Meet a b → spans_meet a b ≡ true
meet_from a b m = and_from _ _ (and_from _ _ (and_from _ _ (lt-int_lt a.lo b.hi m.before) (lt-int_lt b.lo a.hi m.after)) (lt-int_lt a.lo a.hi m.some_a)) (lt-int_lt b.lo b.hi m.some_b)

module _ (w : Width) (width : IsWidth w) (range : Span) (whole : IsWholeRange w range) (first : first_of w ≤ℤ range.lo) (chunk : Span) where
  -- a chunk that meets a bucket of a range meets the range
  bucket_within : (b : ℤ) → is_asked w range b ≡ true → Meet chunk (bucket_span w b) → Meet chunk range
  bucket_within b asked m =
      let parts = and_parts (in_span range b) (is_bucket w b && int_le (first_of w) b) asked in
      let ends = in_span-ends range b parts.0 in
      let low : range.lo ≤ℤ b = ends.0 in
      let high : b <ℤ range.hi = ends.1 in
      let fits : (b +ℤ w.step) ≤ℤ range.hi = buckets_apart w b range.hi width (and_parts _ _ parts.1).0 whole.ends high in
      let before : chunk.lo <ℤ (b +ℤ w.step) = m.before in
      let after : b <ℤ chunk.hi = m.after in
      record { before = omega (arith, ints); after = omega (arith, ints); some_a = m.some_a; some_b = whole.some }

  -- a chunk that meets a range meets the bucket of their first common time
  bucket_of_both : (P : Type 0) → ((b : ℤ) → is_asked w range b ≡ true → Meet chunk (bucket_span w b) → P) → Meet chunk range → P
  bucket_of_both P gives m =
      let t = int_max chunk.lo range.lo in
      let b = bucket_of w t in
      let above_chunk : chunk.lo ≤ℤ t = omega (arith, ints, clamps) in
      let above_range : range.lo ≤ℤ t = omega (arith, ints, clamps) in
      let before : chunk.lo <ℤ range.hi = m.before in
      let after : range.lo <ℤ chunk.hi = m.after in
      let some_chunk : chunk.lo <ℤ chunk.hi = m.some_a in
      let some_range : range.lo <ℤ range.hi = m.some_b in
      let in_range : t <ℤ range.hi = omega (arith, ints, clamps) in
      let in_chunk : t <ℤ chunk.hi = omega (arith, ints, clamps) in
      let held = bucket_of_meets w t width in
      let at_or_below : b ≤ℤ t = held.at_or_below in
      let end_above : t <ℤ (b +ℤ w.step) = held.end_above in
      let from_range : range.lo ≤ℤ b = bucket_of-last w range.lo t width whole.starts above_range in
      let from_first : int_le (first_of w) b ≡ true = le-int_le (first_of w) b (omega (arith, ints)) in
      let positive : pos 0 <ℤ w.step = width.positive in
      gives b
      (and_from _ _ (in_span-from_ends range b from_range (omega (arith, ints))) (and_from _ _ (is_bucket-bucket_of w t width) from_first))
      (record { before = omega (arith, ints); after = omega (arith, ints); some_a = some_chunk; some_b = omega (arith, ints) })

  -- a chunk meets some bucket of a range if and only if it meets the range
  pub meets_some_bucket : list_any (spans_meet chunk) (map (bucket_span w) (buckets_in w range)) ≡ list_any (spans_meet chunk) (range ∷ [])
  meets_some_bucket =
      let q : ℤ → Bool = λ b. spans_meet chunk (bucket_span w b) in
      list_any-map (spans_meet chunk) (bucket_span w) (buckets_in w range)
      ∙ same_test (list_any q (buckets_in w range)) (list_any (spans_meet chunk) (range ∷ []))
      (λ e. or_left _ _ (meet_from chunk range (any_found (Meet chunk range) q (buckets_in w range) (λ b i p. bucket_within b (sym (among-buckets_in w range b) ∙ i) (meet_parts chunk (bucket_span w b) p)) e)))
      (λ e. bucket_of_both (list_any q (buckets_in w range) ≡ true) (λ b asked m. any_from q (buckets_in w range) b (among-buckets_in w range b ∙ asked) (meet_from chunk (bucket_span w b) m)) (meet_parts chunk range (alone (spans_meet chunk range) e)))
    where
      alone : (b : Bool) → (b || false) ≡ true → b ≡ true
      alone true e = refl
      alone false e = e

-- ---- rows in chunks near buckets

count_same : {X : Type 0} (p q : X → Bool) → ((x : X) → p x ≡ q x) → (n : ℕ) (xs : List X) → fold (λ a x. a + cond (p x) 1 0) n xs ≡ fold (λ a x. a + cond (q x) 1 0) n xs
count_same p q same n [] = refl
count_same p q same n (x ∷ xs) = ap (λ b. fold (λ a y. a + cond (p y) 1 0) (n + cond b 1 0) xs) (same x) ∙ count_same p q same (n + cond (q x) 1 0) xs

-- the rows in chunks that meet some bucket of a range are those in chunks that meet the range
pub rows_near-buckets : (w : Width) (width : IsWidth w) (range : Span) (whole : IsWholeRange w range) (first : first_of w ≤ℤ range.lo) (interval : ℤ) (stored : List Row) → rows_near interval stored (map (bucket_span w) (buckets_in w range)) ≡ rows_near interval stored (range ∷ [])
rows_near-buckets w width range whole first interval stored =
    count_same (λ row. list_any (spans_meet (chunk_of interval row.at)) (map (bucket_span w) (buckets_in w range))) (λ row. list_any (spans_meet (chunk_of interval row.at)) (range ∷ [])) (λ row. meets_some_bucket w width range whole first (chunk_of interval row.at)) 0 stored
