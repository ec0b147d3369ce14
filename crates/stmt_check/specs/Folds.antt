-- Tests and folds over a hypertable.
use Rattle.std.specs.Prelude.{ℕ, ◌==◌, Bool, false, not, ◌||◌, ◌&&◌, nat_le, ℤ, pos as nonneg, List, [], ◌∷◌, ◌++◌, length, map, Option, Some, None, is_none, is_some, unwrap_or, int_le, int_lt, unsigned_abs, codes, if◌then◌else◌, Result}
use Rattle.ts_num.specs.declared.values.Fun.{Fun}
use Rattle.ts_num.specs.declared.values.Fun.TheVariants.{CountAll, Count, Sum, Min, Max, Avg}
use Rattle.ts_bucket.specs.Bucket.{max_step}
use Rattle.ts_model.specs.Numbers.{name_taken, no_column, bad_width, too_many, bad_unit}
use Rattle.ts_model.specs.Limits.{most_columns}
use Rattle.ts_model.specs.declared.outcomes.Refusal.{Refusal}
use Rattle.ts_model.specs.declared.tables.TableInfo.{TableInfo}
use Rattle.ts_model.specs.declared.views.Agg.{Agg}
use Rattle.ts_model.specs.declared.views.Fold.{Fold}
use Rattle.ts_schema.specs.Counts.{raised_by}
use Rattle.ts_schema.specs.declared.conditions.Test.{Test}
use Rattle.ts_catalog.specs.Columns.{column_of}
use Rattle.stmt_syntax.specs.declared.statements.NamedAgg.{NamedAgg}
use Rattle.stmt_syntax.specs.declared.statements.NamedFold.{NamedFold}
use Rattle.stmt_syntax.specs.declared.statements.NamedTest.{NamedTest}
use Rattle.stmt_syntax.specs.Heads.{bucket_word, calendar_word}
use Rattle.stmt_check.specs.declared.folds.FoldTail.{FoldTail}
use Rattle.stmt_check.specs.Refusals.{◌⊳◌, marked_refusal, refusal_if_none, refusal_if}
use Rattle.std.specs.List.{list_any}
use Rattle.ts_model.specs.Roster.{same_name}
use Rattle.stmt_check.specs.Tables.{is_among}
use Rattle.stmt_check.specs.declared.actions.ResolveStop.{ResolveStop}
use Rattle.stmt_check.specs.Results.{Checks}
use Rattle.ts_bucket.specs.declared.widths.Width.{Width}

-- the number of a column, if it exists
abbrev pub number_or_zero : TableInfo → List ℕ → ℕ
number_or_zero info name = unwrap_or (column_of info name) 0

-- tests from left to right: each column exists
abbrev pub tests_refusal : ℕ → TableInfo → List NamedTest → Option Refusal
tests_refusal pos info [] = None
tests_refusal pos info (t ∷ ts) = refusal_if_none pos no_column (column_of info t.col) ⊳ tests_refusal pos info ts

-- a test with the number of its column
abbrev pub test_of : TableInfo → NamedTest → Test
test_of info t = record { col = number_or_zero info t.col; cmp = t.cmp; num = t.num }

-- tests with the numbers of their columns
abbrev pub tests_of : TableInfo → List NamedTest → List Test
tests_of info tests = map (test_of info) tests

-- the name of a function, which names its column if no other name is given
abbrev pub function_name : Fun → List ℕ
function_name CountAll = codes "count"
function_name Count = codes "count"
function_name Sum = codes "sum"
function_name Min = codes "min"
function_name Max = codes "max"
function_name Avg = codes "avg"

-- the name of an aggregate's column
abbrev pub aggregate_name : NamedAgg → List ℕ
aggregate_name a = unwrap_or a.name (function_name a.fun)

-- a name is that of the bucket's column or of one of these keys
abbrev pub is_key : List ℕ → List (List ℕ) → List ℕ → Bool
is_key bucket keys name = same_name bucket name || is_among name keys

-- a name is that of one of these aggregates
abbrev pub is_aggregate : List NamedAgg → List ℕ → Bool
is_aggregate aggs name = list_any (λ a. same_name (aggregate_name a) name) aggs

-- a name is that of the bucket's column, of a key or of one of these aggregates
abbrev pub is_taken : List ℕ → List (List ℕ) → List NamedAgg → List ℕ → Bool
is_taken bucket keys before name = is_key bucket keys name || is_aggregate before name

-- an aggregate's argument exists
abbrev pub argument_refusal : ℕ → TableInfo → Option (List ℕ) → Option Refusal
argument_refusal pos info None = None
argument_refusal pos info (Some col) = refusal_if_none pos no_column (column_of info col)

-- the number of output columns: the bucket, these keys and these aggregates, as a count of 64 bits
abbrev pub columns_before : ℕ → ℕ → ℕ
columns_before keys aggs = raised_by aggs (raised_by keys 1)

-- one aggregate after this many columns, whose name is taken if it must differ. The checks are: its function's
-- word, which names it without AS; its argument; the word after AS
abbrev pub aggregate_refusal : ℕ → ℕ → TableInfo → ℕ → Bool → NamedAgg → Option Refusal
aggregate_refusal pos count info others repeats a =
    refusal_if pos name_taken (is_none a.name && repeats) ⊳ marked_refusal pos too_many count (nat_le most_columns others)
    ⊳ argument_refusal pos info a.col
    ⊳ refusal_if pos name_taken (is_some a.name && repeats)

-- the aggregates from left to right, after a bucket, keys and the aggregates before; `distinct` if names must
-- differ
abbrev pub aggregates_refusal :
    ℕ → Bool → ℕ → TableInfo → List ℕ → List (List ℕ) → List NamedAgg → List NamedAgg → Option Refusal
aggregates_refusal pos distinct count info bucket keys before [] = None
aggregates_refusal pos distinct count info bucket keys before (a ∷ left) =
    aggregate_refusal pos count info (columns_before (length keys) (length before))
    (distinct && is_taken bucket keys before (aggregate_name a)) a
    ⊳ aggregates_refusal pos distinct count info bucket keys (before ++ a ∷ []) left

-- one key after this many columns, whose name is taken if it must differ
abbrev pub key_refusal : ℕ → ℕ → TableInfo → ℕ → Bool → List ℕ → Option Refusal
key_refusal pos count info others repeats key =
    refusal_if pos name_taken repeats ⊳ refusal_if_none pos no_column (column_of info key)
    ⊳ marked_refusal pos too_many count (nat_le most_columns others)

-- the keys from left to right, after a bucket and the keys before
abbrev pub keys_refusal : ℕ → Bool → ℕ → TableInfo → List ℕ → List (List ℕ) → List (List ℕ) → Option Refusal
keys_refusal pos distinct count info bucket before [] = None
keys_refusal pos distinct count info bucket before (k ∷ left) =
    key_refusal pos count info (columns_before (length before) 0) (distinct && is_key bucket before k) k
    ⊳ keys_refusal pos distinct count info bucket (before ++ k ∷ []) left

-- a step is from 1 to 2 ^ 40
abbrev pub is_step : ℤ → Bool
is_step n = int_lt (nonneg 0) n && int_le n max_step

-- an offset is from 0 to one less than the step
abbrev pub is_shift : ℤ → ℤ → Bool
is_shift step n = int_le (nonneg 0) n && int_lt n step

-- the name of the head's column: the one after AS, or the head's default name
abbrev pub head_name : List ℕ → NamedFold → List ℕ
head_name word f = unwrap_or f.name word

-- the name of the bucket's column
abbrev pub bucket_column : NamedFold → List ℕ
bucket_column f = head_name bucket_word f

-- the names of the output columns; the head's is the first
abbrev pub names_after : List ℕ → NamedFold → List (List ℕ)
names_after head f = (head ∷ f.keys) ++ map aggregate_name f.aggs

-- the names of the output columns of a fold; the bucket's is the first
abbrev pub output_names : NamedFold → List (List ℕ)
output_names f = names_after (bucket_column f) f

-- the number of output columns
abbrev pub output_count : NamedFold → ℕ
output_count f = columns_before (length f.keys) (length f.aggs)

-- the column is the time column
abbrev pub is_time_column : Option ℕ → Bool
is_time_column None = false
is_time_column (Some n) = n == 0

-- the width, the time column and the offset
abbrev pub width_refusal : ℕ → TableInfo → NamedFold → Option Refusal
width_refusal pos info f =
    refusal_if pos bad_width (not (is_step f.step))
    ⊳ refusal_if pos no_column (not (is_time_column (column_of info f.at)))
    ⊳ refusal_if pos bad_width (not (is_shift f.step f.shift))

-- the width of a fold
abbrev pub width_of : NamedFold → Width
width_of f = record { step = f.step; shift = f.shift }

-- the rest of a fold after its head, whose column has this name, from left to right; `distinct` if output names
-- must differ
abbrev pub rest_refusal : ℕ → Bool → List ℕ → TableInfo → NamedFold → Option Refusal
rest_refusal pos distinct head info f =
    keys_refusal pos distinct (output_count f) info head [] f.keys
    ⊳ aggregates_refusal pos distinct (output_count f) info head f.keys [] f.aggs
    ⊳ tests_refusal pos info f.tests

-- a fold over a hypertable: its bucket, and the rest
abbrev pub fold_refusal : ℕ → Bool → TableInfo → NamedFold → Option Refusal
fold_refusal pos distinct info f = width_refusal pos info f ⊳ rest_refusal pos distinct (bucket_column f) info f

-- how many units a bucket of the calendar has, if that is from 1 to 1,200
abbrev pub unit_count : ℤ → Option ℕ
unit_count n = if int_le (nonneg 1) n && int_le n (nonneg 1200) then Some (unsigned_abs n) else None

-- a unit of the calendar
abbrev pub is_unit : List ℕ → Bool
is_unit unit =
    same_name unit (codes "day") || same_name unit (codes "week") || same_name unit (codes "month")
    || same_name unit (codes "year")

-- the number of units, the unit and the time column
abbrev pub units_refusal : ℕ → TableInfo → ℤ → List ℕ → NamedFold → Option Refusal
units_refusal pos info number unit f =
    refusal_if_none pos bad_unit (unit_count number) ⊳ refusal_if pos bad_unit (not (is_unit unit))
    ⊳ refusal_if pos no_column (not (is_time_column (column_of info f.at)))

-- a fold by buckets of the calendar over a hypertable: its bucket, and the rest
abbrev pub calendar_refusal : ℕ → TableInfo → ℤ → List ℕ → NamedFold → Option Refusal
calendar_refusal pos info number unit f =
    units_refusal pos info number unit f ⊳ rest_refusal pos false (head_name calendar_word f) info f

-- the column that an aggregate reads; `count(*)` has column 0
abbrev pub argument_of : TableInfo → Option (List ℕ) → ℕ
argument_of info None = 0
argument_of info (Some col) = number_or_zero info col

-- an aggregate with the number of its column
abbrev pub aggregate_of : TableInfo → NamedAgg → Agg
aggregate_of info a = record { fun = a.fun; col = argument_of info a.col }

-- the rest of a fold with the numbers of its columns
abbrev pub rest_of : TableInfo → NamedFold → FoldTail
rest_of info f = record {
  keys = map (number_or_zero info) f.keys;
  aggs = map (aggregate_of info) f.aggs;
  tests = tests_of info f.tests;
}

-- a fold with the numbers of its columns
abbrev pub fold_of : TableInfo → NamedFold → Fold
fold_of info f = record {
  width = width_of f;
  keys = map (number_or_zero info) f.keys;
  aggs = map (aggregate_of info) f.aggs;
  tests = tests_of info f.tests;
}

-- a fold by buckets of the calendar with the numbers of its columns, with any width
abbrev pub calendar_of : TableInfo → NamedFold → Fold
calendar_of info f = record {
  width = record { step = nonneg 1; shift = nonneg 0 };
  keys = map (number_or_zero info) f.keys;
  aggs = map (aggregate_of info) f.aggs;
  tests = tests_of info f.tests;
}

-- ---- checks of parts

-- the width of a fold, or its refusal
abbrev pub ChecksWidth : ℕ → TableInfo → NamedFold → Result Width ResolveStop → Type 0
ChecksWidth pos info f result = Checks (width_refusal pos info f) (width_of f) result

-- the numbers of the keys' columns of a fold whose head has this name, or the first refusal of a key
abbrev pub ChecksKeys : ℕ → Bool → List ℕ → TableInfo → NamedFold → Result (List ℕ) ResolveStop → Type 0
ChecksKeys pos distinct head info f result =
    Checks (keys_refusal pos distinct (output_count f) info head [] f.keys) (map (number_or_zero info) f.keys) result

-- one aggregate after this many columns, with the number of its column, or its refusal
abbrev pub ChecksAggregate : ℕ → ℕ → TableInfo → ℕ → Bool → NamedAgg → Result Agg ResolveStop → Type 0
ChecksAggregate pos count info others repeats a result =
    Checks (aggregate_refusal pos count info others repeats a) (aggregate_of info a) result

-- the aggregates of a fold whose head has this name, or the first refusal of one
abbrev pub ChecksAggregates : ℕ → Bool → List ℕ → TableInfo → NamedFold → Result (List Agg) ResolveStop → Type 0
ChecksAggregates pos distinct head info f result =
    Checks (aggregates_refusal pos distinct (output_count f) info head f.keys [] f.aggs)
    (map (aggregate_of info) f.aggs) result
