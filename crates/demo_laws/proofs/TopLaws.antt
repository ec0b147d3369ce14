-- The greatest end of a bucket that has a row, by the numbers below it.
use Rattle.std.proofs.Common.{◌≡◌, Bool, true, false, ◌&&◌, ◌||◌, cond, List, [], ◌∷◌, ℤ, ◌+ℤ◌, ◌≤ℤ◌, ◌<ℤ◌, int_lt, Option, Some, None, sym, refl, ap, ◌∙◌, arith}
use Rattle.std.specs.List.{list_any}
use Rattle.std.specs.Ordering.{is_gt}
use Rattle.std.proofs.lemmas.Bool.{true≢false, and_parts}
use Rattle.std.proofs.lemmas.Int.{ints}
use Rattle.ts_bucket.specs.Bucket.{IsWidth, is_bucket, bucket_of}
use Rattle.ts_bucket.specs.Spans.{in_span}
use Rattle.ts_bucket.specs.WholeSpans.{is_below}
use Rattle.ts_bucket.specs.declared.spans.Span.{Span}
use Rattle.ts_bucket.proofs.BucketLaws.{buckets_apart, is_bucket-bucket_of}
use Rattle.ts_bucket.proofs.SpanLaws.{in_span-ends}
use Rattle.ts_schema.specs.Conditions.{passes_all}
use Rattle.ts_schema.specs.Rows.{row_cmp}
use Rattle.ts_schema.specs.declared.rows.Row.{Row}
use Rattle.ts_model.specs.Refreshes.{top_in}
use Rattle.ts_model.specs.Rows.{with_row, with_rows}
use Rattle.ts_model.specs.declared.views.Fold.{Fold}
use Rattle.ts_model.proofs.RefreshLaws.{is_below-greater}
use Rattle.ts_schema.proofs.Cases.{or_swapped}

-- ---- some row

-- P is true if some item passes, and follows from each that does
pub any_gives : {X : Type 0} (P : Type 0) (test : X → Bool) (xs : List X) → ((x : X) → test x ≡ true → P) → list_any test xs ≡ true → P
any_gives P test [] gives e = absurd (true≢false (sym e))
any_gives P test (x ∷ xs) gives e =
    elim (test x) as (λ t. test x ≡ t → (t || list_any test xs) ≡ true → P) [
      | true ↦ λ here _. gives x here
      | false ↦ λ _ rest. any_gives P test xs gives rest
    ] refl e

-- in a list with one more row in its place, a row passes if that one or another does
any-with_row : (test : Row → Bool) (row : Row) (xs : List Row) → list_any test (with_row row xs) ≡ (test row || list_any test xs)
any-with_row test row [] = refl
any-with_row test row (x ∷ xs) =
    elim (is_gt (row_cmp row x)) as (λ t. list_any test (cond t (x ∷ with_row row xs) (row ∷ x ∷ xs)) ≡ (test row || (test x || list_any test xs))) [
      | true ↦ ap (λ t. test x || t) (any-with_row test row xs) ∙ or_swapped (test x) (test row) (list_any test xs)
      | false ↦ refl
    ]

pub any-with_rows : (test : Row → Bool) (new rows : List Row) → list_any test new ≡ true → list_any test (with_rows new rows) ≡ true
any-with_rows test [] rows e = absurd (true≢false (sym e))
any-with_rows test (row ∷ new) rows e =
    any-with_row test row (with_rows new rows) ∙ (
    elim (test row) as (λ t. (t || list_any test new) ≡ true → (t || list_any test (with_rows new rows)) ≡ true) [
      | true ↦ λ _. refl
      | false ↦ λ rest. any-with_rows test new rows rest
    ] e
    )

-- ---- the top of a span

-- the end of the bucket of a row, if it starts in the span and the row matches every test
abbrev pub end_of_row : Fold → Span → Row → Option ℤ
end_of_row fold span row = cond (in_span span (bucket_of fold.width row.at) && passes_all row fold.tests) (Some (bucket_of fold.width row.at +ℤ fold.width.step)) None

-- a number is below the top if it is below the end of some row's bucket
pub is_below-top : (fold : Fold) (span : Span) (b : ℤ) (rows : List Row) → is_below b (top_in fold span rows) ≡ list_any (λ row. is_below b (end_of_row fold span row)) rows
is_below-top fold span b [] = refl
is_below-top fold span b (row ∷ rows) =
    is_below-greater b (end_of_row fold span row) (top_in fold span rows)
    ∙ ap (λ t. is_below b (end_of_row fold span row) || t) (is_below-top fold span b rows)

-- no bucket of a row ends after a span of whole buckets
pub end_within : (fold : Fold) (span : Span) (b : ℤ) (row : Row) → IsWidth fold.width → is_bucket fold.width span.hi ≡ true → is_below b (end_of_row fold span row) ≡ true → int_lt b span.hi ≡ true
end_within fold span b row width whole e = by_cases (in_span span (bucket_of fold.width row.at) && passes_all row fold.tests) refl e
  where
    by_cases : (t : Bool) → (in_span span (bucket_of fold.width row.at) && passes_all row fold.tests) ≡ t → is_below b (cond t (Some (bucket_of fold.width row.at +ℤ fold.width.step)) None) ≡ true → int_lt b span.hi ≡ true
    by_cases true held below =
        let inside : bucket_of fold.width row.at <ℤ span.hi = (in_span-ends span (bucket_of fold.width row.at) (and_parts _ _ held).0).1 in
        let fits : (bucket_of fold.width row.at +ℤ fold.width.step) ≤ℤ span.hi = buckets_apart fold.width (bucket_of fold.width row.at) span.hi width (is_bucket-bucket_of fold.width row.at width) whole inside in
        grind (arith, ints)
    by_cases false held below = absurd (true≢false (sym below))

-- if the last bucket of the span has a row that matches, a number is below the top exactly if it is below the span's
-- end
pub is_below-full : (fold : Fold) (span : Span) (b : ℤ) (rows : List Row) → IsWidth fold.width → is_bucket fold.width span.hi ≡ true → (int_lt b span.hi ≡ true → list_any (λ row. is_below b (end_of_row fold span row)) rows ≡ true) → is_below b (top_in fold span rows) ≡ int_lt b span.hi
is_below-full fold span b rows width whole reached = is_below-top fold span b rows ∙ by_cases (list_any (λ row. is_below b (end_of_row fold span row)) rows) (int_lt b span.hi) refl refl
  where
    by_cases : (s t : Bool) → list_any (λ row. is_below b (end_of_row fold span row)) rows ≡ s → int_lt b span.hi ≡ t → s ≡ t
    by_cases true true p q = refl
    by_cases true false p q = sym (any_gives (int_lt b span.hi ≡ true) (λ row. is_below b (end_of_row fold span row)) rows (λ row e. end_within fold span b row width whole e) p) ∙ q
    by_cases false true p q = sym p ∙ reached q
    by_cases false false p q = refl
