-- Rows of a part of a span, and rows whose times are those of tests.
use Rattle.std.proofs.Common.{◌≡◌, Bool, true, false, ◌&&◌, cond, List, [], ◌∷◌, map, ℕ, sym, refl, ap, ◌∙◌, arith}
use Rattle.std.specs.List.{filter, list_all}
use Rattle.std.specs.Prelude.{ℤ, int_le, int_lt}
use Rattle.std.specs.Int.{int_max, int_min}
use Rattle.std.proofs.lemmas.Int.{ints, clamps}
use Rattle.std.proofs.lemmas.Bool.{and_parts}
use Rattle.ts_bucket.specs.Bucket.{is_time}
use Rattle.ts_bucket.specs.Spans.{in_span}
use Rattle.ts_bucket.specs.declared.spans.Span.{Span}
use Rattle.ts_schema.specs.declared.conditions.Test.{Test}
use Rattle.ts_schema.specs.declared.rows.Row.{Row}
use Rattle.ts_schema.specs.Conditions.{passes_all}
use Rattle.ts_schema.proofs.Cases.{by_test}
use Rattle.ts_model.specs.Rows.{in_order}
use Rattle.ts_model.proofs.RowLaws.{filter-in_order}
use Rattle.chunk_catalog.specs.Chunks.{HoldsTimes}
use Rattle.realtime_union.specs.Whole.{passing_rows}
use Rattle.group_fold.specs.Spans.{HaveTimes}

-- two filters in order are one filter by both
pub filter_both : {X : Type 0} (p q r : X → Bool) (xs : List X) → ((x : X) → r x ≡ (p x && q x)) → filter r xs ≡ filter p (filter q xs)
filter_both p q r [] both = refl
filter_both p q r (x ∷ xs) both =
    ap (λ b. cond b (x ∷ filter r xs) (filter r xs)) (both x)
    ∙ ap (λ rest. cond (p x && q x) (x ∷ rest) rest) (filter_both p q r xs both)
    ∙ elim (q x) as (λ b. cond (p x && b) (x ∷ filter p (filter q xs)) (filter p (filter q xs)) ≡ filter p (cond b (x ∷ filter q xs) (filter q xs))) [
      | true ↦ elim (p x) as (λ b. cond (b && true) (x ∷ filter p (filter q xs)) (filter p (filter q xs)) ≡ cond b (x ∷ filter p (filter q xs)) (filter p (filter q xs))) [ true ↦ refl | false ↦ refl ]
      | false ↦ elim (p x) as (λ b. cond (b && false) (x ∷ filter p (filter q xs)) (filter p (filter q xs)) ≡ filter p (filter q xs)) [ true ↦ refl | false ↦ refl ]
    ]

-- no row that passes the tests is lost
none_lost : (tests : List Test) (span : Span) (rows : List Row) → HoldsTimes tests span → HaveTimes rows → filter (λ row. passes_all row tests) (filter (λ row. in_span span row.at) rows) ≡ filter (λ row. passes_all row tests) rows
none_lost tests span [] holds times = refl
none_lost tests span (row ∷ rows) holds times =
    let parts = and_parts (is_time row.at) (list_all (λ r. is_time r.at) rows) times in
    let rest = none_lost tests span rows holds parts.1 in
    by_test (in_span span row.at)
    (λ inside.
    ap (λ b. filter (λ r. passes_all r tests) (cond b (row ∷ filter (λ r. in_span span r.at) rows) (filter (λ r. in_span span r.at) rows))) inside
    ∙ ap (λ rs. cond (passes_all row tests) (row ∷ rs) rs) rest)
    (λ outside.
    ap (λ b. filter (λ r. passes_all r tests) (cond b (row ∷ filter (λ r. in_span span r.at) rows) (filter (λ r. in_span span r.at) rows))) outside ∙ rest
    ∙ sym (ap (λ b. cond b (row ∷ filter (λ r. passes_all r tests) rows) (filter (λ r. passes_all r tests) rows)) (fails outside parts.0)))
  where
    true_false : {A : Type 0} → true ≡ false → A
    true_false e = absurd (cc)

    fails : in_span span row.at ≡ false → is_time row.at ≡ true → passes_all row tests ≡ false
    fails outside time = by_test (passes_all row tests) (λ passes. true_false (sym (holds row time passes) ∙ outside)) (λ e. e)

pub passing_timed : (at : ℕ) (tests : List Test) (span : Span) (rows : List Row) → HoldsTimes tests span → HaveTimes rows → passing_rows at tests (filter (λ row. in_span span row.at) rows) ≡ passing_rows at tests rows
passing_timed at tests span rows holds times =
    ap (map (Rattle.ts_model.specs.Answers.all_columns at))
    (filter-in_order (λ row. passes_all row tests) (filter (λ row. in_span span row.at) rows) ∙ ap in_order (none_lost tests span rows holds times) ∙ sym (filter-in_order (λ row. passes_all row tests) rows))

-- the common part of two spans
pub both_is : (alo ahi blo bhi l m h t : ℤ) → l ≡ int_max alo blo → m ≡ int_min ahi bhi → h ≡ int_max m l → (int_le l t && int_lt t h) ≡ ((int_le alo t && int_lt t ahi) && (int_le blo t && int_lt t bhi))
both_is alo ahi blo bhi l m h t p q r = rw (r, q, p) (grind (arith, ints, clamps))
