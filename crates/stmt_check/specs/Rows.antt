-- The rows of an INSERT.
use Rattle.std.specs.Prelude.{ℕ, ◌+◌, ◌==◌, Bool, false, not, ◌||◌, ◌&&◌, nat_le, ℤ, pos as nonneg, List, [], ◌∷◌, ◌++◌, length, map, slice_index_or, Option, Some, None, is_none, unwrap_or, if◌then◌else◌, Result}
use Rattle.ts_bucket.specs.Bucket.{is_time}
use Rattle.stmt_check.specs.Limits.{most_rows}
use Rattle.ts_model.specs.Numbers.{name_taken, no_column, bad_time, value_count, null_value, too_many}
use Rattle.ts_model.specs.declared.outcomes.Refusal.{Refusal}
use Rattle.ts_schema.specs.declared.columns.Column.{Column}
use Rattle.ts_schema.specs.declared.rows.Row.{Row}
use Rattle.ts_catalog.specs.Columns.{column_from, place_from}
use Rattle.stmt_check.specs.declared.inserts.Rule.{Rule}
use Rattle.stmt_check.specs.declared.inserts.Shape.{Shape}
use Rattle.stmt_check.specs.Refusals.{◌⊳◌, marked_refusal, refusal_if_none, refusal_if}
use Rattle.stmt_check.specs.Tables.{is_among}
use Rattle.stmt_check.specs.declared.actions.ResolveStop.{ResolveStop}
use Rattle.stmt_check.specs.Results.{Checks}

-- a column without a name that may be NULL
abbrev pub blank_column : Column
blank_column = record { name = []; must = false }

-- the rule of the column with the declared place `place`, if the time column has the place `at`
abbrev pub rule_at : ℕ → Column → ℕ → Rule
rule_at at c place = record { time = at == place; must = c.must || at == place }

-- the rules of a table's columns in declared order, with places counted from k
abbrev pub rules_from : ℕ → ℕ → List Column → List Rule
rules_from at k [] = []
rules_from at k (c ∷ cs) = rule_at at c k ∷ rules_from at (k + 1) cs

-- the rule of the column with a name
abbrev pub rule_of : ℕ → List Column → List ℕ → Rule
rule_of at cols name =
    let place = unwrap_or (column_from name 0 cols) 0 in
    rule_at at (slice_index_or cols place blank_column) place

-- the rule of each value of a row: the values are for the columns listed, or for all in declared order
abbrev pub value_rules : ℕ → List Column → Option (List (List ℕ)) → List Rule
value_rules at cols None = rules_from at 0 cols
value_rules at cols (Some names) = map (rule_of at cols) names

-- the place of the value of a column among those of a row
abbrev pub place_in : Option (List (List ℕ)) → ℕ → Column → Option ℕ
place_in None k c = Some k
place_in (Some names) k c = place_from c.name 0 names

-- the column list of an INSERT, in order after the names before: none is named twice, and each exists
abbrev pub list_refusal : ℕ → List Column → List (List ℕ) → List (List ℕ) → Option Refusal
list_refusal pos cols before [] = None
list_refusal pos cols before (n ∷ ns) =
    refusal_if pos name_taken (is_among n before) ⊳ refusal_if_none pos no_column (column_from n 0 cols)
    ⊳ list_refusal pos cols (before ++ n ∷ []) ns

-- the column list, if there is one
abbrev pub list_refusal_of : ℕ → List Column → Option (List (List ℕ)) → Option Refusal
list_refusal_of pos cols None = None
list_refusal_of pos cols (Some names) = list_refusal pos cols [] names

-- some column that must not be NULL is omitted from the list
abbrev pub leaves_out : ℕ → Option (List (List ℕ)) → ℕ → List Column → Bool
leaves_out at names k [] = false
leaves_out at names k (c ∷ cs) = ((c.must || at == k) && is_none (place_in names k c)) || leaves_out at names (k + 1) cs

-- one value: a time is in the range of times, and NULL is there only if it is allowed
abbrev pub value_refusal : ℕ → Rule → Option ℤ → Option Refusal
value_refusal pos rule None = refusal_if pos null_value rule.must
value_refusal pos rule (Some v) = refusal_if pos bad_time (rule.time && not (is_time v))

-- the values of a row from left to right
abbrev pub values_refusal : ℕ → List Rule → List (Option ℤ) → Option Refusal
values_refusal pos [] vs = None
values_refusal pos (r ∷ rs) [] = None
values_refusal pos (r ∷ rs) (v ∷ vs) = value_refusal pos r v ⊳ values_refusal pos rs vs

-- one row: at its parenthesis the row limit of 1,000, the count of values and the omitted columns, and then its
-- values
abbrev pub row_refusal : ℕ → Shape → ℕ → List (Option ℤ) → Option Refusal
row_refusal pos shape k values =
    marked_refusal pos too_many shape.count (nat_le most_rows k)
    ⊳ refusal_if pos value_count (not (length values == length shape.rules))
    ⊳ refusal_if pos null_value shape.left_out
    ⊳ values_refusal pos shape.rules values

-- the rows in order
abbrev pub rows_refusal : ℕ → Shape → ℕ → List (List (Option ℤ)) → Option Refusal
rows_refusal pos shape k [] = None
rows_refusal pos shape k (r ∷ rs) = row_refusal pos shape k r ⊳ rows_refusal pos shape (k + 1) rs

-- the value at a place, or NULL if a column is omitted
abbrev pub value_at : List (Option ℤ) → Option ℕ → Option ℤ
value_at values None = None
value_at values (Some i) = slice_index_or values i None

-- the places of the values of all columns except the time, in declared order
abbrev pub other_places : ℕ → Option (List (List ℕ)) → ℕ → List Column → List (Option ℕ)
other_places at names k [] = []
other_places at names k (c ∷ cs) =
    if at == k then other_places at names (k + 1) cs else place_in names k c ∷ other_places at names (k + 1) cs

-- the place of the time
abbrev pub time_place : ℕ → Option (List (List ℕ)) → ℕ → List Column → Option ℕ
time_place at names k [] = None
time_place at names k (c ∷ cs) = if at == k then place_in names k c else time_place at names (k + 1) cs

-- the values of all columns except the time, from values written in this order
abbrev pub others_of : Shape → List (Option ℤ) → List (Option ℤ)
others_of shape values = map (value_at values) shape.others

-- the row with values written in the order of these names
abbrev pub row_of : Option ℕ → List (Option ℕ) → List (Option ℤ) → Row
row_of time others values = record { at = unwrap_or (value_at values time) (nonneg 0); vals = map (value_at values) others }

-- the columns that the values of an INSERT's rows are for
abbrev pub shape_of : ℕ → List Column → Option (List (List ℕ)) → ℕ → Shape
shape_of at cols names count = record {
  rules = value_rules at cols names;
  left_out = leaves_out at names 0 cols;
  count = count;
  time = time_place at names 0 cols;
  others = other_places at names 0 cols;
}

-- INSERT into a hypertable with these columns, if the time column has the place `at`
abbrev pub insert_refusal : ℕ → ℕ → List Column → Option (List (List ℕ)) → List (List (Option ℤ)) → Option Refusal
insert_refusal pos at cols names rows =
    list_refusal_of pos cols names ⊳ rows_refusal pos (shape_of at cols names (length rows)) 0 rows

-- the rows of the INSERT
abbrev pub rows_of : Shape → List (List (Option ℤ)) → List Row
rows_of shape rows = map (row_of shape.time shape.others) rows

-- the rows of an INSERT
abbrev pub inserted_rows : ℕ → List Column → Option (List (List ℕ)) → List (List (Option ℤ)) → List Row
inserted_rows at cols names rows = rows_of (shape_of at cols names (length rows)) rows

-- the rows of an INSERT, or its first refusal
abbrev pub ChecksRows :
    ℕ → ℕ → List Column → Option (List (List ℕ)) → List (List (Option ℤ)) → Result (List Row) ResolveStop → Type 0
ChecksRows pos at cols names rows result =
    Checks (insert_refusal pos at cols names rows) (inserted_rows at cols names rows) result
