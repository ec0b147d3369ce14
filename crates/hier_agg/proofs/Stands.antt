-- The cells after the bucket of an answer's row represent the row of the upper fold.
use Rattle.std.proofs.Common.{◌≡◌, ℕ, suc, ◌&&◌, List, [], ◌∷◌, map, Option, unwrap_or, ℤ, pos, ◌+ℤ◌, ◌≤ℤ◌, ◌<ℤ◌, true, sym, refl, ap, ◌∙◌, subst}
use Rattle.std.specs.List.{AllByRecursion}
use Rattle.ts_num.specs.declared.values.Datum.{Datum}
use Rattle.ts_bucket.specs.Bucket.{IsWidth, WidthValue, bucket_of, is_bucket}
use Rattle.ts_bucket.proofs.BucketLaws.{holds-from_parts, holds-one, is_bucket-bucket_of}
use Rattle.ts_schema.specs.declared.conditions.Test.{Test}
use Rattle.ts_schema.specs.Conditions.{compares, passes_all}
use Rattle.ts_schema.specs.Rows.{field_of}
use Rattle.ts_model.specs.declared.views.Agg.{Agg}
use Rattle.ts_model.specs.declared.views.Fold.{Fold}
use Rattle.ts_model.specs.Results.{cell_at}
use Rattle.ts_model.specs.Scratch.{keys_of}
use Rattle.partial_agg.specs.declared.groups.Group.{Group}
use Rattle.partial_agg.specs.Summaries.{Summary, summary}
use Rattle.group_fold.specs.Grouping.{row_parts}
use Rattle.cell_groups.specs.Cells.{cells_pass}
use Rattle.cell_groups.specs.Groups.{keys_at, rows_shown}
use Rattle.cell_groups.specs.KeptSummaries.{needed_summary, needed_parts, row_needs}
use Rattle.cell_groups.specs.TakenRows.{with_rows}
use Rattle.cell_groups.proofs.Shown.{StandFor, gathered_show}
use Rattle.hier_agg.specs.declared.plans.UpperPlan.{UpperPlan}
use Rattle.hier_agg.specs.Plans.{added_by, agg_at}
use Rattle.hier_agg.specs.Taken.{added_at, columns_of, row_group_of, row_passes, shape_of}
use Rattle.hier_agg.specs.Upper.{adds_up, answer_test, row_of, upper_fold, upper_rows}

-- ---- one cell

cell_is : (cells : List Datum) (c : ℕ) → cell_at (columns_of cells) c ≡ field_of (row_of cells) (suc c)
cell_is [] c = refl
cell_is (b ∷ cells) c = refl

-- the bucket of a row
pub start_shown : (cells : List Datum) → unwrap_or (cell_at cells 0) (pos 0) ≡ (row_of cells).at
start_shown [] = refl
start_shown (b ∷ cells) = refl

-- ---- one row

keys_stand : (keys : List ℕ) (cells : List Datum) → keys_at keys (columns_of cells) ≡ keys_of (map suc keys) (row_of cells)
keys_stand [] cells = refl
keys_stand (k ∷ keys) cells = ap (λ v. v ∷ keys_at keys (columns_of cells)) (cell_is cells k) ∙ ap (λ vs. field_of (row_of cells) (suc k) ∷ vs) (keys_stand keys cells)

parts_stand : (lower : Fold) (cols : List ℕ) (cells : List Datum) → row_needs (map (added_at lower) cols) (columns_of cells) ≡ needed_parts (map (added_at lower) cols) (row_parts (map (adds_up lower) cols) (row_of cells))
parts_stand lower [] cells = refl
parts_stand lower (c ∷ cols) cells =
    let fun = added_by (agg_at lower c).fun in
    ap (λ v. needed_summary fun (summary (v ∷ [])) ∷ row_needs (map (added_at lower) cols) (columns_of cells)) (cell_is cells c)
    ∙ ap (λ ps. needed_summary fun (summary (field_of (row_of cells) (suc c) ∷ [])) ∷ ps) (parts_stand lower cols cells)

tests_stand : (tests : List Test) (cells : List Datum) → cells_pass tests (columns_of cells) ≡ passes_all (row_of cells) (map answer_test tests)
tests_stand [] cells = refl
tests_stand (t ∷ tests) cells =
    ap (λ v. compares t.cmp v t.num && cells_pass tests (columns_of cells)) (cell_is cells t.col)
    ∙ ap (λ b. compares t.cmp (field_of (row_of cells) (suc t.col)) t.num && b) (tests_stand tests cells)

funs_stand : (lower : Fold) (cols : List ℕ) → map (λ (a : Agg). a.fun) (map (added_at lower) cols) ≡ map (λ (a : Agg). a.fun) (map (adds_up lower) cols)
funs_stand lower [] = refl
funs_stand lower (c ∷ cols) = ap (λ funs. added_by (agg_at lower c).fun ∷ funs) (funs_stand lower cols)

module _ (lower : Fold) (plan : UpperPlan) where
  row_stands : (cells : List Datum) → StandFor (upper_fold lower plan) (shape_of lower plan).aggs (row_passes plan) (row_group_of plan (shape_of lower plan)) row_of cells
  row_stands cells =
      let made : List (Option ℤ) → List Summary → Group = λ ks ps. record { start = bucket_of plan.width (row_of cells).at; keys = ks; parts = ps } in
      record {
        tests = tests_stand plan.tests cells;
        group =
            ap (λ ks. made ks (row_needs (map (added_at lower) plan.cols) (columns_of cells))) (keys_stand plan.keys cells)
            ∙ ap (made (keys_of (map suc plan.keys) (row_of cells))) (parts_stand lower plan.cols cells);
      }

  rows_stand : (rows : List (List Datum)) → AllByRecursion (StandFor (upper_fold lower plan) (shape_of lower plan).aggs (row_passes plan) (row_group_of plan (shape_of lower plan)) row_of) rows
  rows_stand [] = tt
  rows_stand (cells ∷ rows) = (row_stands cells, rows_stand rows)

  -- the groups gathered show the rows of the upper answer
  pub gathered_is_upper : IsWidth plan.width → (rows : List (List Datum)) → rows_shown (shape_of lower plan) (with_rows (row_passes plan) (row_group_of plan (shape_of lower plan)) rows []) ≡ upper_rows lower plan rows
  gathered_is_upper wide rows =
      gathered_show (upper_fold lower plan) (shape_of lower plan) wide (row_passes plan) (row_group_of plan (shape_of lower plan)) row_of rows (funs_stand lower plan.cols) (rows_stand rows)

-- ---- a wider bucket

-- the numbers from the start of a bucket on, up to its step, are in that bucket
pub numbers_held : (w : WidthValue) (t start end : ℤ) → IsWidth w → start ≡ bucket_of w t → end ≡ start +ℤ w.step → (u : ℤ) → start ≤ℤ u → u <ℤ end → bucket_of w u ≡ start
numbers_held w t start end wide is ends u low high =
    let own : is_bucket w start ≡ true = ap (is_bucket w) is ∙ is_bucket-bucket_of w t wide in
    let below : u <ℤ (start +ℤ w.step) = subst (λ e. u <ℤ e) ends high in
    sym (holds-one w start u wide own (holds-from_parts w start u low below))
