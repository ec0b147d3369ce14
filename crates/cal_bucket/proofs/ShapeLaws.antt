-- The cells of a row represent the moved row.
use Rattle.std.proofs.Common.{◌≡◌, ℕ, zero, suc, ◌+◌, ◌<◌, ◌≤◌, ◌&&◌, List, [], ◌∷◌, ◌++◌, map, take, drop, length, get_or, Option, Some, None, unwrap_or, IsSomeAnd, IsTrue, sym, subst, ap, refl, ◌∙◌, arith, ℤ, pos}
use Rattle.std.specs.Prelude.{nat_lt}
use Rattle.std.specs.List.{AllByRecursion}
use Rattle.std.proofs.lemmas.Bool.{ltb-false, ltb-true}
use Rattle.std.proofs.lemmas.Bool.Decides.{nat_tests}
use Rattle.ts_num.specs.declared.values.Datum.{Datum}
use Rattle.ts_bucket.specs.Bucket.{is_time}
use Rattle.ts_num.specs.declared.values.Datum.TheVariants.{Null, Int, Ratio}
use Rattle.ts_schema.specs.declared.rows.Row.{Row}
use Rattle.ts_schema.specs.declared.conditions.Test.{Test}
use Rattle.ts_schema.specs.Rows.{field_of}
use Rattle.ts_schema.specs.Conditions.{compares, passes_all}
use Rattle.ts_schema.proofs.Cases.{by_test}
use Rattle.ts_model.specs.declared.views.Agg.{Agg}
use Rattle.ts_model.specs.Results.{cell_at}
use Rattle.ts_model.specs.Scratch.{fold_rows, keys_of}
use Rattle.partial_agg.specs.declared.groups.Group.{Group}
use Rattle.partial_agg.specs.Summaries.{Summary, summary, value_of}
use Rattle.group_fold.specs.Grouping.{row_group, row_parts}
use Rattle.cell_groups.specs.declared.shapes.Shape.{Shape}
use Rattle.cell_groups.specs.Cells.{cells_pass}
use Rattle.cell_groups.specs.Groups.{keys_at, rows_shown}
use Rattle.cell_groups.specs.KeptSummaries.{needed_summary, needed_parts, row_needs}
use Rattle.cell_groups.specs.TakenRows.{with_rows}
use Rattle.cell_groups.proofs.Shown.{StandFor, gathered_show}
use Rattle.cal_bucket.specs.declared.plans.CalPlan.{CalPlan}
use Rattle.cal_bucket.specs.Answers.{plan_rows}
use Rattle.cal_bucket.specs.Cells.{BeginWithATime}
use Rattle.cal_bucket.specs.Places.{name_of}
use Rattle.cal_bucket.specs.Rows.{ShowARow, first_number, number_of, row_shown}
use Rattle.cal_bucket.specs.Shapes.{agg_among, named_group, place_among, shape_of, test_among}
use Rattle.cal_bucket.proofs.MoveLaws.{bucket_of-one_number, field-moved, map-by, map-map, moved, moved_each, moved_fold, moved_fold-wide, moved_rows_show, next_agg, next_test}
use Rattle.cal_bucket.proofs.RowLaws.{cells_fit}

-- ---- one cell

same_number : (d : Datum) → value_of d ≡ number_of d
same_number Null = refl
same_number (Int n) = refl
same_number (Ratio r) = refl

time_cell : (at : ℕ) (cells : List Datum) → BeginWithATime (drop at cells) → get_or (map value_of cells) at None ≡ Some (first_number (drop at cells))
time_cell zero [] h = absurd h
time_cell zero (Null ∷ cells) h = absurd h
time_cell zero (Int n ∷ cells) h = refl
time_cell zero (Ratio r ∷ cells) h = absurd h
time_cell (suc at) [] h = absurd h
time_cell (suc at) (d ∷ cells) h = time_cell at cells h

time_begun : (cells : List Datum) → BeginWithATime cells → IsTrue (is_time (first_number cells))
time_begun [] h = absurd h
time_begun (Null ∷ cells) h = absurd h
time_begun (Int n ∷ cells) h = h
time_begun (Ratio r ∷ cells) h = absurd h

-- the cell at the place of the time shows one
pub time_is_shown : (at : ℕ) (cells : List Datum) → ShowARow at cells → IsSomeAnd (cell_at cells at) (λ n. IsTrue (is_time n))
time_is_shown at cells shown =
    let begin = (cells_fit at cells shown).time in
    subst (λ v. IsSomeAnd v (λ n. IsTrue (is_time n))) (sym (time_cell at cells begin)) (time_begun (drop at cells) begin)

pub time_is : (at : ℕ) (cells : List Datum) → ShowARow at cells → unwrap_or (cell_at cells at) (pos 0) ≡ (row_shown at cells).at
time_is at cells shown = ap (λ v. unwrap_or v (pos 0)) (time_cell at cells (cells_fit at cells shown).time)

-- the other cells, before the time and after it
cell_before : (at : ℕ) (cells : List Datum) (k : ℕ) → at < length cells → k < at → get_or (map value_of cells) k None ≡ get_or (map number_of (take at cells) ++ map number_of (drop 1 (drop at cells))) k None
cell_before zero cells k h below = absurd (omega (arith, below))
cell_before (suc at) [] k h below = absurd (omega (arith, h))
cell_before (suc at) (d ∷ cells) zero h below = same_number d
cell_before (suc at) (d ∷ cells) (suc k) h below = cell_before at cells k (omega (arith, h)) (omega (arith, below))

cell_behind : (at : ℕ) (cells : List Datum) (k : ℕ) → at < length cells → at ≤ k → get_or (map value_of cells) (suc k) None ≡ get_or (map number_of (take at cells) ++ map number_of (drop 1 (drop at cells))) k None
cell_behind zero [] k h below = absurd (omega (arith, h))
cell_behind zero (d ∷ cells) k h below = ap (λ vs. get_or vs k None) (map-by value_of number_of same_number cells)
cell_behind (suc at) [] k h below = absurd (omega (arith, h))
cell_behind (suc at) (d ∷ cells) zero h below = absurd (omega (arith, below))
cell_behind (suc at) (d ∷ cells) (suc k) h below = cell_behind at cells k (omega (arith, h)) (omega (arith, below))

-- the place of a column
place-before : (at k : ℕ) → k < at → place_among at (suc k) ≡ k
place-before at k h = grind (arith, nat_tests)

place-behind : (at k : ℕ) → at ≤ k → place_among at (suc k) ≡ suc k
place-behind at k h = grind (arith, nat_tests)

module _ (at : ℕ) (cells : List Datum) (shown : ShowARow at cells) where
  -- the cell of a column shows the field of the row
  cell_field : (c : ℕ) → cell_at cells (place_among at c) ≡ field_of (row_shown at cells) c
  cell_field zero = time_cell at cells (cells_fit at cells shown).time
  cell_field (suc k) =
      let below = (cells_fit at cells shown).below in
      by_test (nat_lt k at)
      (λ e. let h = ltb-true k at e in ap (cell_at cells) (place-before at k h) ∙ cell_before at cells k below h)
      (λ e. let h = ltb-false k at e in ap (cell_at cells) (place-behind at k h) ∙ cell_behind at cells k below h)

  module _ (name : ℤ → ℤ) where
    -- and the next field of the moved row
    cell_moved : (c : ℕ) → cell_at cells (place_among at c) ≡ field_of (moved name (row_shown at cells)) (c + 1)
    cell_moved c = cell_field c ∙ sym (field-moved name (row_shown at cells) c)

    keys_stand : (keys : List ℕ) → keys_at (map (place_among at) keys) cells ≡ keys_of (map (λ k. k + 1) keys) (moved name (row_shown at cells))
    keys_stand [] = refl
    keys_stand (k ∷ keys) = ap (λ v. v ∷ keys_at (map (place_among at) keys) cells) (cell_moved k) ∙ ap (λ vs. field_of (moved name (row_shown at cells)) (k + 1) ∷ vs) (keys_stand keys)

    parts_stand : (aggs : List Agg) → row_needs (map (agg_among at) aggs) cells ≡ needed_parts (map (agg_among at) aggs) (row_parts (map next_agg aggs) (moved name (row_shown at cells)))
    parts_stand [] = refl
    parts_stand (a ∷ aggs) =
        ap (λ v. needed_summary a.fun (summary (v ∷ [])) ∷ row_needs (map (agg_among at) aggs) cells) (cell_moved a.col)
        ∙ ap (λ ps. needed_summary a.fun (summary (field_of (moved name (row_shown at cells)) (a.col + 1) ∷ [])) ∷ ps) (parts_stand aggs)

    tests_stand : (tests : List Test) → cells_pass (map (test_among at) tests) cells ≡ passes_all (moved name (row_shown at cells)) (map next_test tests)
    tests_stand [] = refl
    tests_stand (t ∷ tests) =
        ap (λ v. compares t.cmp v t.num && cells_pass (map (test_among at) tests) cells) (cell_moved t.col)
        ∙ ap (λ b. compares t.cmp (field_of (moved name (row_shown at cells)) (t.col + 1)) t.num && b) (tests_stand tests)

-- ---- a plan

module _ (plan : CalPlan) where
  abbrev name : ℤ → ℤ
  name = name_of plan.unit plan.number

  abbrev shape : Shape
  shape = shape_of plan.at plan.fold

  abbrev tests : List Test
  tests = map (test_among plan.at) plan.fold.tests

  abbrev moved_row : List Datum → Row
  moved_row cells = moved name (row_shown plan.at cells)

  row_stands : (cells : List Datum) → ShowARow plan.at cells → StandFor (moved_fold plan.fold) shape.aggs (cells_pass tests) (named_group plan shape) moved_row cells
  row_stands cells shown =
      let made : ℤ → List (Option ℤ) → List Summary → Group = λ s ks ps. record { start = s; keys = ks; parts = ps } in
      record {
        tests = tests_stand plan.at cells shown name plan.fold.tests;
        group =
            ap (λ s. made s (keys_at shape.keys cells) (row_needs shape.aggs cells)) (sym (bucket_of-one_number (name (row_shown plan.at cells).at)))
            ∙ ap (λ ks. made (row_group (moved_fold plan.fold) (moved_row cells)).start ks (row_needs shape.aggs cells)) (keys_stand plan.at cells shown name plan.fold.keys)
            ∙ ap (made (row_group (moved_fold plan.fold) (moved_row cells)).start (row_group (moved_fold plan.fold) (moved_row cells)).keys) (parts_stand plan.at cells shown name plan.fold.aggs);
      }

  rows_stand : (lower : List (List Datum)) → AllByRecursion (ShowARow plan.at) lower → AllByRecursion (StandFor (moved_fold plan.fold) shape.aggs (cells_pass tests) (named_group plan shape) moved_row) lower
  rows_stand [] h = tt
  rows_stand (cells ∷ lower) h = (row_stands cells h.0, rows_stand lower h.1)

  -- the groups gathered by name show what the plan shows
  pub gathered_by_name : (lower : List (List Datum)) → AllByRecursion (ShowARow plan.at) lower → rows_shown shape (with_rows (cells_pass tests) (named_group plan shape) lower []) ≡ plan_rows plan lower
  gathered_by_name lower h =
      gathered_show (moved_fold plan.fold) shape (moved_fold-wide plan.fold) (cells_pass tests) (named_group plan shape) moved_row lower
      (map-map (λ (a : Agg). a.fun) (agg_among plan.at) plan.fold.aggs ∙ sym (map-map (λ (a : Agg). a.fun) next_agg plan.fold.aggs)) (rows_stand lower h)
      ∙ ap (λ rows. fold_rows (moved_fold plan.fold) rows) (moved_each name plan.at lower)
      ∙ moved_rows_show name plan.fold (map (row_shown plan.at) lower)
