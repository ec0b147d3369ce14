-- The row of a table is the row that its columns show.
use Rattle.std.proofs.Common.{◌≡◌, ℕ, zero, suc, ◌≤◌, ◌<◌, List, [], ◌∷◌, map, take, drop, length, insert, sym, ap, subst, refl, ◌∙◌, arith, ℤ, Option, Some, None, IsTrue, true}
use Rattle.std.specs.Prelude.{int_le, remove}
use Rattle.std.proofs.lemmas.Bool.{and_from, and_parts}
use Rattle.std.proofs.lemmas.Int.{ints}
use Rattle.std.proofs.lemmas.List.Edits.{length-remove}
use Rattle.std.specs.List.{AllByRecursion, list_all}
use Rattle.ts_bucket.specs.Bucket.{is_time, max_time, min_time}
use Rattle.ts_bucket.specs.WholeSpans.{greatest, least}
use Rattle.ts_schema.proofs.Cases.{int_le-true, le-int_le}
use Rattle.ts_num.specs.declared.values.Datum.{Datum}
use Rattle.ts_num.specs.Aggregates.{shown_or_null}
use Rattle.ts_schema.specs.declared.columns.Column.{Column}
use Rattle.ts_schema.specs.declared.rows.Row.{Row}
use Rattle.ts_model.specs.Answers.{all_columns}
use Rattle.ts_model.specs.Limits.{is_word}
use Rattle.ts_model.specs.Sound.{row_fits, value_fits, values_fit}
use Rattle.ts_model.specs.declared.tables.Hyper.{Hyper}
use Rattle.ts_model.specs.declared.tables.TableDef.{TableDef}
use Rattle.cal_bucket.specs.Laws.{ColumnsShowRows, FittingRowsAreShown}
use Rattle.cal_bucket.specs.Answers.{rows_of_plan}
use Rattle.cal_bucket.specs.Rows.{number_of, row_shown, IsValue, ShowARow}
use Rattle.partial_agg.specs.Summaries.{value_of}
use Rattle.cell_groups.specs.Room.{ShowWords}
use Rattle.cal_bucket.specs.Cells.{ShowsAValue, BeginWithATime}

number_of-shown : (v : Option ℤ) → number_of (shown_or_null v) ≡ v
number_of-shown None = refl
number_of-shown (Some n) = refl

numbers_of-shown : (vals : List (Option ℤ)) → map number_of (map shown_or_null vals) ≡ vals
numbers_of-shown [] = refl
numbers_of-shown (v ∷ vals) = ap (λ x. x ∷ map number_of (map shown_or_null vals)) (number_of-shown v) ∙ ap (λ xs. v ∷ xs) (numbers_of-shown vals)

-- a row with one more value in front
with_value : Option ℤ → Row → Row
with_value v row = record { at = row.at; vals = v ∷ row.vals }

-- the columns of values with a time among them
row_of_columns : (t : ℤ) (vals : List (Option ℤ)) (at : ℕ) → at ≤ length vals → row_shown at (map shown_or_null (insert vals at (Some t))) ≡ record { at = t; vals = vals }
unfolding with_value
row_of_columns t vals zero h = ap (λ xs. record { at = t; vals = xs }) (numbers_of-shown vals)
row_of_columns t [] (suc at) h = absurd (omega arith)
row_of_columns t (v ∷ vals) (suc at) h =
    ap (λ x. with_value x (row_shown at (map shown_or_null (insert vals at (Some t))))) (number_of-shown v)
    ∙ ap (with_value v) (row_of_columns t vals at (omega arith))

rows_shown : (at : ℕ) (rows : List Row) → AllByRecursion (λ row. at ≤ length row.vals) rows → map (row_shown at) (map (all_columns at) rows) ≡ rows
rows_shown at [] h = refl
rows_shown at (row ∷ rows) h = ap (λ x. x ∷ map (row_shown at) (map (all_columns at) rows)) (row_of_columns row.at row.vals at h.0) ∙ ap (λ xs. row ∷ xs) (rows_shown at rows h.1)

pub columns_show_rows : ColumnsShowRows
columns_show_rows plan rows h = ap (rows_of_plan plan) (rows_shown plan.at rows h)

-- ---- what the cells of a row are

time_is_word : (t : ℤ) → IsTrue (is_time t) → IsTrue (is_word t)
time_is_word t h =
    let parts = and_parts (int_le min_time t) (int_le t max_time) h in
    let low = int_le-true min_time t parts.0 in
    let high = int_le-true t max_time parts.1 in
    and_from (int_le least t) (int_le t greatest) (le-int_le least t (omega (arith, ints, low))) (le-int_le t greatest (omega (arith, ints, high)))

value_shown : (v : Option ℤ) → IsValue v → ShowsAValue (shown_or_null v)
value_shown None h = tt
value_shown (Some n) h = h

values_shown : (vals : List (Option ℤ)) → AllByRecursion IsValue vals → AllByRecursion ShowsAValue (map shown_or_null vals)
values_shown [] h = tt
values_shown (v ∷ vals) h = (value_shown v h.0, values_shown vals h.1)

-- a time among values
pub record CellsFit (at : ℕ) (cells : List Datum) : Type 0 where
  pub below : at < length cells
  pub before : AllByRecursion ShowsAValue (take at cells)
  pub time : BeginWithATime (drop at cells)
  pub after : AllByRecursion ShowsAValue (drop 1 (drop at cells))

columns_fit : (t : ℤ) (vals : List (Option ℤ)) (at : ℕ) → at ≤ length vals → IsTrue (is_time t) → AllByRecursion IsValue vals → CellsFit at (map shown_or_null (insert vals at (Some t)))
columns_fit t vals zero h time values = record { below = omega arith; before = tt; time = time; after = values_shown vals values }
columns_fit t [] (suc at) h time values = absurd (omega arith)
columns_fit t (v ∷ vals) (suc at) h time values =
    let rest = columns_fit t vals at (omega arith) time values.1 in
    record { below = omega (arith, rest.below); before = (value_shown v values.0, rest.before); time = rest.time; after = rest.after }

pub cells_fit : (at : ℕ) (cells : List Datum) → ShowARow at cells → CellsFit at cells
cells_fit at cells h = subst (CellsFit at) (sym h.columns) (columns_fit h.row.at h.row.vals at h.place h.time h.values)

words_of_row : (t : ℤ) (vals : List (Option ℤ)) (at : ℕ) → at ≤ length vals → IsTrue (is_time t) → AllByRecursion IsValue vals → AllByRecursion IsValue (insert vals at (Some t))
words_of_row t vals zero h time values = (time_is_word t time, values)
words_of_row t [] (suc at) h time values = absurd (omega (arith, h))
words_of_row t (v ∷ vals) (suc at) h time values = (values.0, words_of_row t vals at (omega (arith, h)) time values.1)

values_of_cells : (vals : List (Option ℤ)) → map value_of (map shown_or_null vals) ≡ vals
values_of_cells [] = refl
values_of_cells (None ∷ vals) = ap (λ vs. None ∷ vs) (values_of_cells vals)
values_of_cells (Some n ∷ vals) = ap (λ vs. Some n ∷ vs) (values_of_cells vals)

-- the cells show numbers of 64 bits
pub words_shown : (at : ℕ) (cells : List Datum) → ShowARow at cells → ShowWords cells
words_shown at cells h =
    subst ShowWords (sym h.columns)
    (subst (AllByRecursion IsValue) (sym (values_of_cells (insert h.row.vals at (Some h.row.at)))) (words_of_row h.row.at h.row.vals at h.place h.time h.values))

-- ---- rows of a hypertable

fitting_value : (c : Column) (v : Option ℤ) → value_fits c v ≡ true → IsValue v
fitting_value c None e = tt
fitting_value c (Some n) e = e

-- as many values as columns, and each has 64 bits
values_of : (cols : List Column) (vals : List (Option ℤ)) → values_fit cols vals ≡ true → (length vals ≡ length cols) × AllByRecursion IsValue vals
values_of [] [] e = (refl, tt)
values_of [] (v ∷ vs) e = absurd cc
values_of (c ∷ cs) [] e = absurd cc
values_of (c ∷ cs) (v ∷ vs) e =
    let parts = and_parts (value_fits c v) (values_fit cs vs) e in
    let rest = values_of cs vs parts.1 in
    (ap suc rest.0, (fitting_value c v parts.0, rest.1))

-- so the time column is one of the row's
pub place_of_fitting : (def : TableDef) (hyper : Hyper) (row : Row) → hyper.at < length def.cols → row_fits def hyper row ≡ true → hyper.at ≤ length row.vals
place_of_fitting def hyper row there e =
    let parts = and_parts (is_time row.at) (values_fit (remove def.cols hyper.at) row.vals) e in
    let values = values_of (remove def.cols hyper.at) row.vals parts.1 in
    omega (arith, values.0, length-remove def.cols hyper.at there)

fitting_row : (def : TableDef) (hyper : Hyper) (row : Row) → hyper.at < length def.cols → row_fits def hyper row ≡ true → ShowARow hyper.at (all_columns hyper.at row)
fitting_row def hyper row there e =
    let parts = and_parts (is_time row.at) (values_fit (remove def.cols hyper.at) row.vals) e in
    let values = values_of (remove def.cols hyper.at) row.vals parts.1 in
    record {
      row = row;
      columns = refl;
      place = place_of_fitting def hyper row there e;
      time = parts.0;
      values = values.1;
    }

pub fitting_rows_are_shown : FittingRowsAreShown
fitting_rows_are_shown def hyper [] there e = tt
fitting_rows_are_shown def hyper (row ∷ rows) there e =
    let parts = and_parts (row_fits def hyper row) (list_all (row_fits def hyper) rows) e in
    (fitting_row def hyper row there parts.0, fitting_rows_are_shown def hyper rows there parts.1)
