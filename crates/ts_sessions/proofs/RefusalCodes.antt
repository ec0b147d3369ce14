-- The checks of a statement refuse it with the read position, and never because the store has stopped.
use Rattle.std.proofs.Common.{◌≡◌, ℕ, suc, ◌+◌, ◌<◌, ◌==◌, Bool, true, false, List, [], ◌∷◌, ◌++◌, length, Option, Some, None, refl, arith}
use Rattle.std.specs.Prelude.{ℤ, not, nat_le, is_none, is_some, ◌&&◌, ⊤}
use Rattle.std.proofs.lemmas.Bool.{and_parts, eqb-false, not-true}
use Rattle.ts_bucket.specs.Bucket.{is_time}
use Rattle.ts_model.specs.Numbers.{no_relation, name_taken, no_column, bad_time, value_count, null_value, not_hypertable, bad_width, too_many, not_aggregate, stopped, bad_unit}
use Rattle.ts_model.specs.Limits.{most_columns, most_relations}
use Rattle.ts_model.specs.declared.outcomes.Refusal.{Refusal}
use Rattle.ts_model.specs.declared.rosters.Roster.{Roster}
use Rattle.ts_model.specs.declared.tables.TableInfo.{TableInfo}
use Rattle.ts_model.specs.declared.views.ViewDef.{ViewDef}
use Rattle.ts_schema.specs.declared.columns.Column.{Column}
use Rattle.ts_catalog.specs.Columns.{column_from, column_of, view_column_of}
use Rattle.ts_catalog.specs.Relations.{found_in}
use Rattle.ts_catalog.specs.declared.relations.Found.{Found}
use Rattle.ts_catalog.specs.declared.relations.Found.TheVariants as found
use Rattle.stmt_syntax.specs.declared.statements.NamedAgg.{NamedAgg}
use Rattle.stmt_syntax.specs.declared.statements.NamedFold.{NamedFold}
use Rattle.stmt_syntax.specs.declared.statements.NamedTest.{NamedTest}
use Rattle.stmt_syntax.specs.declared.statements.Stmt.{Stmt}
use Rattle.stmt_syntax.specs.declared.statements.Stmt.TheVariants as stmts
use Rattle.stmt_syntax.specs.Heads.{calendar_word}
use Rattle.stmt_check.specs.Check.{refusal_of, rows_query_refusal, table_at, time_of, view_at}
use Rattle.stmt_check.specs.Limits.{most_rows}
use Rattle.stmt_check.specs.Folds.{aggregate_name, columns_before, is_key, is_shift, is_step, is_taken, is_time_column, aggregate_refusal, aggregates_refusal, argument_refusal, fold_refusal, key_refusal, keys_refusal, tests_refusal, width_refusal, bucket_column, calendar_refusal, head_name, is_unit, output_count, rest_refusal, unit_count, units_refusal}
use Rattle.stmt_check.specs.Queries.{bound_refusal, bounds_start, is_bucket_column, starts_refusal}
use Rattle.stmt_check.specs.Refusals.{◌⊳◌, finds_nothing, hypertable_refusal, marked_refusal, refusal_if_none, name_refusal, plain_refusal, refusal_if, query_refusal, view_refusal}
use Rattle.stmt_check.specs.Rows.{insert_refusal, list_refusal, list_refusal_of, row_refusal, rows_refusal, shape_of, value_refusal, values_refusal}
use Rattle.stmt_check.specs.Tables.{columns_refusal, hyper_refusal, is_among, is_column, is_interval}
use Rattle.ts_sessions.specs.Looks.{shows_position}

-- a refusal code other than E24
abbrev pub IsOther : ℕ → Type 0
IsOther code = code ≡ stopped → ⊥

-- a refusal, if there is one, has another code
abbrev pub Other : Option Refusal → Type 0
Other None = ⊤
Other (Some r) = IsOther r.code

pub below : (code : ℕ) → code < stopped → IsOther code
below code lt e = absurd (omega (arith, lt, e))

-- a refusal at a read position: it isn't E24, and its text has the position
pub record IsLooked (pos : ℕ) (r : Refusal) : Type 0 where
  pub other : IsOther r.code
  pub shown : shows_position r.code ≡ true
  pub at : r.pos ≡ pos

-- a refusal, if there is one, is at this read position
abbrev pub Looked : ℕ → Option Refusal → Type 0
Looked pos None = ⊤
Looked pos (Some r) = IsLooked pos r

-- such a refusal has one of these codes
abbrev pub is_looked : ℕ → Bool
is_looked code = shows_position code && not (code == stopped)

pub looked : (pos code mark : ℕ) → is_looked code ≡ true → IsLooked pos (record { code = code; pos = pos; mark = mark })
looked pos code mark e =
    let parts = and_parts (shows_position code) (not (code == stopped)) e in
    record { other = λ is. eqb-false code stopped (not-true (code == stopped) parts.1) is; shown = parts.0; at = refl }

pub then_looked : (pos : ℕ) (a b : Option Refusal) → Looked pos a → Looked pos b → Looked pos (a ⊳ b)
then_looked pos None b x y = y
then_looked pos (Some r) b x y = x

pub marked_looked : (pos code mark : ℕ) (wrong : Bool) → is_looked code ≡ true → Looked pos (marked_refusal pos code mark wrong)
marked_looked pos code mark true e = looked pos code mark e
marked_looked pos code mark false e = tt

-- ---- names

found_looked : (pos : ℕ) (f : Found) → Looked pos (hypertable_refusal pos f)
found_looked pos found.None = looked pos no_relation 0 refl
found_looked pos (found.Plain n) = looked pos not_hypertable 0 refl
found_looked pos (found.Hyper n) = tt
found_looked pos (found.View n) = looked pos not_hypertable 0 refl

plain_looked : (pos : ℕ) (f : Found) → Looked pos (plain_refusal pos f)
plain_looked pos found.None = looked pos no_relation 0 refl
plain_looked pos (found.Plain n) = tt
plain_looked pos (found.Hyper n) = looked pos name_taken 0 refl
plain_looked pos (found.View n) = looked pos not_hypertable 0 refl

view_looked : (pos : ℕ) (f : Found) → Looked pos (view_refusal pos f)
view_looked pos found.None = looked pos no_relation 0 refl
view_looked pos (found.Plain n) = looked pos not_aggregate 0 refl
view_looked pos (found.Hyper n) = looked pos not_aggregate 0 refl
view_looked pos (found.View n) = tt

query_looked : (pos : ℕ) (f : Found) → Looked pos (query_refusal pos f)
query_looked pos found.None = looked pos no_relation 0 refl
query_looked pos (found.Plain n) = looked pos not_hypertable 0 refl
query_looked pos (found.Hyper n) = tt
query_looked pos (found.View n) = tt

name_looked : (pos : ℕ) (roster : Roster) (name : List ℕ) (there : ℕ) → Looked pos (name_refusal pos roster name there)
name_looked pos roster name there =
    then_looked pos (marked_refusal pos name_taken 0 (not (finds_nothing (found_in roster name)))) (marked_refusal pos too_many (suc most_relations) (nat_le most_relations there))
    (marked_looked pos name_taken 0 (not (finds_nothing (found_in roster name))) refl)
    (marked_looked pos too_many (suc most_relations) (nat_le most_relations there) refl)

-- ---- tables

columns_looked : (pos count : ℕ) (before cols : List Column) → Looked pos (columns_refusal pos count before cols)
columns_looked pos count before [] = tt
columns_looked pos count before (c ∷ cs) =
    let more = marked_refusal pos too_many count (nat_le most_columns (length before)) in
    let rest = columns_refusal pos count (before ++ c ∷ []) cs in
    then_looked pos (marked_refusal pos name_taken 0 (is_column c.name before)) (more ⊳ rest)
    (marked_looked pos name_taken 0 (is_column c.name before) refl)
    (then_looked pos more rest (marked_looked pos too_many count (nat_le most_columns (length before)) refl) (columns_looked pos count (before ++ c ∷ []) cs))

hyper_looked : (pos : ℕ) (cols : List Column) (col : List ℕ) (interval : ℤ) → Looked pos (hyper_refusal pos cols col interval)
hyper_looked pos cols col interval =
    then_looked pos (marked_refusal pos no_column 0 (is_none (column_from col 0 cols))) (marked_refusal pos bad_width 0 (not (is_interval interval)))
    (marked_looked pos no_column 0 (is_none (column_from col 0 cols)) refl)
    (marked_looked pos bad_width 0 (not (is_interval interval)) refl)

-- ---- rows

list_looked : (pos : ℕ) (cols : List Column) (before names : List (List ℕ)) → Looked pos (list_refusal pos cols before names)
list_looked pos cols before [] = tt
list_looked pos cols before (n ∷ ns) =
    let lost = marked_refusal pos no_column 0 (is_none (column_from n 0 cols)) in
    let rest = list_refusal pos cols (before ++ n ∷ []) ns in
    then_looked pos (marked_refusal pos name_taken 0 (is_among n before)) (lost ⊳ rest)
    (marked_looked pos name_taken 0 (is_among n before) refl)
    (then_looked pos lost rest (marked_looked pos no_column 0 (is_none (column_from n 0 cols)) refl) (list_looked pos cols (before ++ n ∷ []) ns))

list_of_looked : (pos : ℕ) (cols : List Column) (names : Option (List (List ℕ))) → Looked pos (list_refusal_of pos cols names)
list_of_looked pos cols None = tt
list_of_looked pos cols (Some names) = list_looked pos cols [] names

value_looked : (pos : ℕ) (rule : _) (v : Option ℤ) → Looked pos (value_refusal pos rule v)
value_looked pos rule None = marked_looked pos null_value 0 rule.must refl
value_looked pos rule (Some v) = marked_looked pos bad_time 0 (rule.time && not (is_time v)) refl

values_looked : (pos : ℕ) (rules : _) (vs : List (Option ℤ)) → Looked pos (values_refusal pos rules vs)
values_looked pos [] vs = tt
values_looked pos (r ∷ rs) [] = tt
values_looked pos (r ∷ rs) (v ∷ vs) = then_looked pos (value_refusal pos r v) (values_refusal pos rs vs) (value_looked pos r v) (values_looked pos rs vs)

row_looked : (pos : ℕ) (shape : _) (k : ℕ) (values : List (Option ℤ)) → Looked pos (row_refusal pos shape k values)
row_looked pos shape k values =
    let count = marked_refusal pos value_count 0 (not (length values == length shape.rules)) in
    let left = marked_refusal pos null_value 0 shape.left_out in
    let each = values_refusal pos shape.rules values in
    then_looked pos (marked_refusal pos too_many shape.count (nat_le most_rows k)) (count ⊳ left ⊳ each)
    (marked_looked pos too_many shape.count (nat_le most_rows k) refl)
    (then_looked pos count (left ⊳ each) (marked_looked pos value_count 0 (not (length values == length shape.rules)) refl)
    (then_looked pos left each (marked_looked pos null_value 0 shape.left_out refl) (values_looked pos shape.rules values)))

rows_looked : (pos : ℕ) (shape : _) (k : ℕ) (rows : List (List (Option ℤ))) → Looked pos (rows_refusal pos shape k rows)
rows_looked pos shape k [] = tt
rows_looked pos shape k (r ∷ rs) = then_looked pos (row_refusal pos shape k r) (rows_refusal pos shape (k + 1) rs) (row_looked pos shape k r) (rows_looked pos shape (k + 1) rs)

insert_looked : (pos at : ℕ) (cols : List Column) (names : Option (List (List ℕ))) (rows : List (List (Option ℤ))) → Looked pos (insert_refusal pos at cols names rows)
insert_looked pos at cols names rows =
    let shape = shape_of at cols names (length rows) in
    then_looked pos (list_refusal_of pos cols names) (rows_refusal pos shape 0 rows) (list_of_looked pos cols names) (rows_looked pos shape 0 rows)

-- ---- tests, folds and bounds

tests_looked : (pos : ℕ) (info : TableInfo) (tests : List NamedTest) → Looked pos (tests_refusal pos info tests)
tests_looked pos info [] = tt
tests_looked pos info (t ∷ ts) =
    then_looked pos (marked_refusal pos no_column 0 (is_none (column_of info t.col))) (tests_refusal pos info ts)
    (marked_looked pos no_column 0 (is_none (column_of info t.col)) refl)
    (tests_looked pos info ts)

argument_looked : (pos : ℕ) (info : TableInfo) (col : Option (List ℕ)) → Looked pos (argument_refusal pos info col)
argument_looked pos info None = tt
argument_looked pos info (Some col) = marked_looked pos no_column 0 (is_none (column_of info col)) refl

aggregate_looked : (pos count : ℕ) (info : TableInfo) (others : ℕ) (repeats : Bool) (a : NamedAgg) → Looked pos (aggregate_refusal pos count info others repeats a)
aggregate_looked pos count info others repeats a =
    let many = marked_refusal pos too_many count (nat_le most_columns others) in
    let argument = argument_refusal pos info a.col in
    let named = marked_refusal pos name_taken 0 (is_some a.name && repeats) in
    then_looked pos (marked_refusal pos name_taken 0 (is_none a.name && repeats)) (many ⊳ argument ⊳ named)
    (marked_looked pos name_taken 0 (is_none a.name && repeats) refl)
    (then_looked pos many (argument ⊳ named) (marked_looked pos too_many count (nat_le most_columns others) refl)
    (then_looked pos argument named (argument_looked pos info a.col) (marked_looked pos name_taken 0 (is_some a.name && repeats) refl)))

aggregates_looked : (pos : ℕ) (distinct : Bool) (count : ℕ) (info : TableInfo) (bucket : List ℕ) (keys : List (List ℕ)) (before aggs : List NamedAgg) → Looked pos (aggregates_refusal pos distinct count info bucket keys before aggs)
aggregates_looked pos distinct count info bucket keys before [] = tt
aggregates_looked pos distinct count info bucket keys before (a ∷ left) =
    let others = columns_before (length keys) (length before) in
    let repeats = distinct && is_taken bucket keys before (aggregate_name a) in
    then_looked pos (aggregate_refusal pos count info others repeats a) (aggregates_refusal pos distinct count info bucket keys (before ++ a ∷ []) left)
    (aggregate_looked pos count info others repeats a)
    (aggregates_looked pos distinct count info bucket keys (before ++ a ∷ []) left)

key_looked : (pos count : ℕ) (info : TableInfo) (others : ℕ) (repeats : Bool) (key : List ℕ) → Looked pos (key_refusal pos count info others repeats key)
key_looked pos count info others repeats key =
    let lost = marked_refusal pos no_column 0 (is_none (column_of info key)) in
    let many = marked_refusal pos too_many count (nat_le most_columns others) in
    then_looked pos (marked_refusal pos name_taken 0 repeats) (lost ⊳ many)
    (marked_looked pos name_taken 0 repeats refl)
    (then_looked pos lost many (marked_looked pos no_column 0 (is_none (column_of info key)) refl) (marked_looked pos too_many count (nat_le most_columns others) refl))

keys_looked : (pos : ℕ) (distinct : Bool) (count : ℕ) (info : TableInfo) (bucket : List ℕ) (before keys : List (List ℕ)) → Looked pos (keys_refusal pos distinct count info bucket before keys)
keys_looked pos distinct count info bucket before [] = tt
keys_looked pos distinct count info bucket before (k ∷ left) =
    let others = columns_before (length before) 0 in
    let repeats = distinct && is_key bucket before k in
    then_looked pos (key_refusal pos count info others repeats k) (keys_refusal pos distinct count info bucket (before ++ k ∷ []) left)
    (key_looked pos count info others repeats k)
    (keys_looked pos distinct count info bucket (before ++ k ∷ []) left)

width_looked : (pos : ℕ) (info : TableInfo) (f : NamedFold) → Looked pos (width_refusal pos info f)
width_looked pos info f =
    let at = marked_refusal pos no_column 0 (not (is_time_column (column_of info f.at))) in
    let shift = marked_refusal pos bad_width 0 (not (is_shift f.step f.shift)) in
    then_looked pos (marked_refusal pos bad_width 0 (not (is_step f.step))) (at ⊳ shift)
    (marked_looked pos bad_width 0 (not (is_step f.step)) refl)
    (then_looked pos at shift (marked_looked pos no_column 0 (not (is_time_column (column_of info f.at))) refl) (marked_looked pos bad_width 0 (not (is_shift f.step f.shift)) refl))

rest_looked : (pos : ℕ) (distinct : Bool) (head : List ℕ) (info : TableInfo) (f : NamedFold) → Looked pos (rest_refusal pos distinct head info f)
rest_looked pos distinct head info f =
    let keys = keys_refusal pos distinct (output_count f) info head [] f.keys in
    let aggs = aggregates_refusal pos distinct (output_count f) info head f.keys [] f.aggs in
    let tests = tests_refusal pos info f.tests in
    then_looked pos keys (aggs ⊳ tests) (keys_looked pos distinct (output_count f) info head [] f.keys)
    (then_looked pos aggs tests (aggregates_looked pos distinct (output_count f) info head f.keys [] f.aggs) (tests_looked pos info f.tests))

fold_looked : (pos : ℕ) (distinct : Bool) (info : TableInfo) (f : NamedFold) → Looked pos (fold_refusal pos distinct info f)
fold_looked pos distinct info f =
    then_looked pos (width_refusal pos info f) (rest_refusal pos distinct (bucket_column f) info f) (width_looked pos info f) (rest_looked pos distinct (bucket_column f) info f)

unit_looked : (pos : ℕ) (wrong : Bool) → Looked pos (refusal_if pos bad_unit wrong)
unit_looked pos true = looked pos bad_unit 0 refl
unit_looked pos false = tt

units_looked : (pos : ℕ) (info : TableInfo) (number : ℤ) (unit : List ℕ) (f : NamedFold) → Looked pos (units_refusal pos info number unit f)
units_looked pos info number unit f =
    let count = refusal_if_none pos bad_unit (unit_count number) in
    let known = refusal_if pos bad_unit (not (is_unit unit)) in
    let wrong = not (is_time_column (column_of info f.at)) in
    then_looked pos count (known ⊳ refusal_if pos no_column wrong) (unit_looked pos (is_none (unit_count number)))
    (then_looked pos known (refusal_if pos no_column wrong) (unit_looked pos (not (is_unit unit))) (marked_looked pos no_column 0 wrong refl))

calendar_looked : (pos : ℕ) (info : TableInfo) (number : ℤ) (unit : List ℕ) (f : NamedFold) → Looked pos (calendar_refusal pos info number unit f)
calendar_looked pos info number unit f =
    let head = head_name calendar_word f in
    then_looked pos (units_refusal pos info number unit f) (rest_refusal pos false head info f) (units_looked pos info number unit f) (rest_looked pos false head info f)

starts_looked : (pos : ℕ) (def : ViewDef) (tests : List NamedTest) → Looked pos (starts_refusal pos def tests)
starts_looked pos def [] = tt
starts_looked pos def (t ∷ ts) =
    let wrong = not (is_bucket_column (view_column_of def t.col) && bounds_start t.cmp) in
    then_looked pos (marked_refusal pos no_column 0 wrong) (starts_refusal pos def ts) (marked_looked pos no_column 0 wrong refl) (starts_looked pos def ts)

bound_looked : (pos : ℕ) (t : Option ℤ) → Looked pos (bound_refusal pos t)
bound_looked pos None = tt
bound_looked pos (Some t) = marked_looked pos bad_time 0 (not (is_time t)) refl

-- ---- statements

query_rows_looked : (pos : ℕ) (roster : Roster) (f : Found) (tests : List NamedTest) → Looked pos (rows_query_refusal pos roster f tests)
query_rows_looked pos roster found.None tests = tt
query_rows_looked pos roster (found.Plain n) tests = tt
query_rows_looked pos roster (found.Hyper n) tests = tests_looked pos (table_at roster (found.Hyper n)) tests
query_rows_looked pos roster (found.View n) tests = starts_looked pos (view_at roster (found.View n)) tests

bounds_looked : (pos : ℕ) (f : Found) (lo hi : Option ℤ) → Looked pos (view_refusal pos f ⊳ bound_refusal pos lo ⊳ bound_refusal pos hi)
bounds_looked pos f lo hi =
    then_looked pos (view_refusal pos f) (bound_refusal pos lo ⊳ bound_refusal pos hi) (view_looked pos f)
    (then_looked pos (bound_refusal pos lo) (bound_refusal pos hi) (bound_looked pos lo) (bound_looked pos hi))

pub checks_looked : (pos : ℕ) (roster : Roster) (stmt : Stmt) → Looked pos (refusal_of pos roster stmt)
checks_looked pos roster (stmts.Table name cols) =
    then_looked pos (name_refusal pos roster name (length roster.tables)) (columns_refusal pos (length cols) [] cols)
    (name_looked pos roster name (length roster.tables))
    (columns_looked pos (length cols) [] cols)
checks_looked pos roster (stmts.Hyper table col interval) =
    let cols = (table_at roster (found_in roster table)).def.cols in
    then_looked pos (plain_refusal pos (found_in roster table)) (hyper_refusal pos cols col interval) (plain_looked pos (found_in roster table)) (hyper_looked pos cols col interval)
checks_looked pos roster (stmts.View name only filled fold) =
    let hyper = hypertable_refusal pos (found_in roster fold.table) in
    let info = table_at roster (found_in roster fold.table) in
    then_looked pos (name_refusal pos roster name (length roster.views)) (hyper ⊳ fold_refusal pos true info fold)
    (name_looked pos roster name (length roster.views))
    (then_looked pos hyper (fold_refusal pos true info fold) (found_looked pos (found_in roster fold.table)) (fold_looked pos true info fold))
checks_looked pos roster (stmts.Mode view only) = view_looked pos (found_in roster view)
checks_looked pos roster (stmts.Insert table cols rows) =
    let info = table_at roster (found_in roster table) in
    then_looked pos (hypertable_refusal pos (found_in roster table)) (insert_refusal pos (time_of info.hyper) info.def.cols cols rows)
    (found_looked pos (found_in roster table))
    (insert_looked pos (time_of info.hyper) info.def.cols cols rows)
checks_looked pos roster (stmts.Delete table tests) =
    let info = table_at roster (found_in roster table) in
    then_looked pos (hypertable_refusal pos (found_in roster table)) (tests_refusal pos info tests) (found_looked pos (found_in roster table)) (tests_looked pos info tests)
checks_looked pos roster (stmts.Drop table below) =
    then_looked pos (hypertable_refusal pos (found_in roster table)) (bound_refusal pos (Some below)) (found_looked pos (found_in roster table)) (bound_looked pos (Some below))
checks_looked pos roster (stmts.Refresh view lo hi) = bounds_looked pos (found_in roster view) lo hi
checks_looked pos roster (stmts.Cut view lo hi) = bounds_looked pos (found_in roster view) lo hi
checks_looked pos roster (stmts.Snap cut) = tt
checks_looked pos roster (stmts.Finish cut) = tt
checks_looked pos roster stmts.Begin = tt
checks_looked pos roster stmts.BeginRead = tt
checks_looked pos roster stmts.Commit = tt
checks_looked pos roster stmts.Rollback = tt
checks_looked pos roster (stmts.Buckets fold) =
    let info = table_at roster (found_in roster fold.table) in
    then_looked pos (hypertable_refusal pos (found_in roster fold.table)) (fold_refusal pos false info fold) (found_looked pos (found_in roster fold.table)) (fold_looked pos false info fold)
checks_looked pos roster (stmts.Calendar number unit fold) =
    let info = table_at roster (found_in roster fold.table) in
    then_looked pos (hypertable_refusal pos (found_in roster fold.table)) (calendar_refusal pos info number unit fold) (found_looked pos (found_in roster fold.table)) (calendar_looked pos info number unit fold)
checks_looked pos roster (stmts.Rows table tests) =
    let f = found_in roster table in
    then_looked pos (query_refusal pos f) (rows_query_refusal pos roster f tests) (query_looked pos f) (query_rows_looked pos roster f tests)

looked_other : (pos : ℕ) (o : Option Refusal) → Looked pos o → Other o
looked_other pos None l = tt
looked_other pos (Some r) l = l.other

pub checks_other : (pos : ℕ) (roster : Roster) (stmt : Stmt) → Other (refusal_of pos roster stmt)
checks_other pos roster stmt = looked_other pos (refusal_of pos roster stmt) (checks_looked pos roster stmt)
