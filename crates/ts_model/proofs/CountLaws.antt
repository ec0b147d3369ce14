-- Rows inserted in their places are there as often as they are given, and none is lost.
use Rattle.std.proofs.Common.{◌≡◌, ℕ, ◌+◌, Bool, true, false, cond, List, [], ◌∷◌, arith}
use Rattle.std.specs.List.{fold, count_by}
use Rattle.std.specs.Ordering.{is_gt}
use Rattle.ts_schema.specs.declared.rows.Row.{Row}
use Rattle.ts_schema.specs.Rows.{row_cmp}
use Rattle.ts_model.specs.Rows.{with_row, with_rows}
use Rattle.ts_model.specs.Laws.{InsertsKeepAll}

count_from : {X : Type 0} (test : X → Bool) (n : ℕ) (xs : List X) → fold (λ a x. a + cond (test x) 1 0) n xs ≡ n + count_by test xs
count_from test n [] = omega arith
count_from test n (x ∷ xs) = omega (arith, count_from test (n + cond (test x) 1 0) xs, count_from test (0 + cond (test x) 1 0) xs)

pub count_cons : {X : Type 0} (test : X → Bool) (x : X) (xs : List X) → count_by test (x ∷ xs) ≡ cond (test x) 1 0 + count_by test xs
count_cons test x xs = omega (arith, count_from test (0 + cond (test x) 1 0) xs)

pub count-with_row : (test : Row → Bool) (row : Row) (xs : List Row) → count_by test (with_row row xs) ≡ cond (test row) 1 0 + count_by test xs
count-with_row test row [] = count_cons test row []
count-with_row test row (x ∷ xs) =
    elim (is_gt (row_cmp row x)) as (λ t. count_by test (cond t (x ∷ with_row row xs) (row ∷ x ∷ xs)) ≡ cond (test row) 1 0 + count_by test (x ∷ xs)) [
      | true ↦ omega (arith, count_cons test x (with_row row xs), count-with_row test row xs, count_cons test x xs)
      | false ↦ count_cons test row (x ∷ xs)
    ]

pub inserts_keep_all : InsertsKeepAll
inserts_keep_all test [] rows = omega arith
inserts_keep_all test (row ∷ new) rows = omega (arith, count-with_row test row (with_rows new rows), inserts_keep_all test new rows, count_cons test row new)
