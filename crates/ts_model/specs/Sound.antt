-- Sound events: what an event names exists, and all that it holds is in range. This stays true as a history
-- grows.
use Rattle.std.specs.Prelude.{ℕ, suc, ◌+◌, Bool, true, false, ◌&&◌, ◌||◌, not, nat_lt, nat_le, ◌==◌, List, [], ◌∷◌, map, length, remove, ℤ, pos, int_lt, int_le, Option, Some, None, is_some}
use Rattle.std.specs.List.{list_all, list_any}
use Rattle.std.specs.Ordering.{int_eq}
use Rattle.ts_num.specs.declared.values.Fun.{Fun}
use Rattle.ts_num.specs.declared.values.Fun.TheVariants.{CountAll}
use Rattle.ts_bucket.specs.Chunks.{max_interval}
use Rattle.ts_bucket.specs.Bucket.{first_of, is_bucket, is_time, is_width}
use Rattle.ts_bucket.specs.declared.spans.Span.{Span}
use Rattle.ts_schema.specs.Names.{is_name}
use Rattle.ts_schema.specs.declared.columns.Column.{Column}
use Rattle.ts_schema.specs.declared.rows.Row.{Row}
use Rattle.ts_schema.specs.declared.conditions.Cmp.{Cmp}
use Rattle.ts_schema.specs.declared.conditions.Cmp.TheVariants.{IsNull, NotNull}
use Rattle.ts_schema.specs.declared.conditions.Test.{Test}
use Rattle.ts_model.specs.declared.events.Event.{Event}
use Rattle.ts_model.specs.declared.events.Event.TheVariants.{Table, Hyper, View, Mode, Commit, Cut, Built}
use Rattle.ts_model.specs.declared.events.Op.{Op}
use Rattle.ts_model.specs.declared.events.Op.TheVariants.{Insert, Delete}
use Rattle.ts_model.specs.declared.rosters.Roster.{Roster}
use Rattle.ts_model.specs.declared.tables.Hyper.{Hyper as HyperInfo}
use Rattle.ts_model.specs.declared.tables.TableDef.{TableDef}
use Rattle.ts_model.specs.declared.tables.TableInfo.{TableInfo}
use Rattle.ts_model.specs.declared.views.Agg.{Agg}
use Rattle.ts_model.specs.declared.views.Fold.{Fold}
use Rattle.ts_model.specs.declared.views.ViewDef.{ViewDef}
use Rattle.ts_model.specs.History.{History, position, base_position}
use Rattle.ts_model.specs.Roster.{roster, table_of, of_table, view_of, same_name}
use Rattle.ts_model.specs.Pending.{pending, is_known}
use Rattle.ts_model.specs.Limits.{most_columns, bytes_limit, is_word}
use Rattle.ts_model.specs.Bytes.{event_bytes}

-- ---- tests, folds and rows

-- no two of these names are the same
abbrev pub all_apart : List (List ℕ) → Bool
all_apart [] = true
all_apart (name ∷ names) = not (list_any (same_name name) names) && all_apart names

-- names in lower case, of which no two are the same
abbrev pub are_names : List (List ℕ) → Bool
are_names names = list_all is_name names && all_apart names

-- a test on NULL
abbrev pub is_null_test : Cmp → Bool
is_null_test IsNull = true
is_null_test NotNull = true
is_null_test cmp = false

-- a test on one of the first n columns with a number of 64 bits, which is 0 if the test is on NULL
abbrev pub test_fits : ℕ → Test → Bool
test_fits n t = nat_lt t.col n && is_word t.num && (not (is_null_test t.cmp) || int_eq t.num (pos 0))

abbrev pub is_count_all : Fun → Bool
is_count_all CountAll = true
is_count_all fun = false

-- an aggregate over one of the first n columns, which is column 0 for `count(*)`
abbrev pub agg_fits : ℕ → Agg → Bool
agg_fits n agg = nat_lt agg.col n && (not (is_count_all agg.fun) || agg.col == 0)

-- keys, aggregates and tests are on the first n columns
abbrev pub fold_fits : ℕ → Fold → Bool
fold_fits n fold =
    list_all (λ k. nat_lt k n) fold.keys && list_all (agg_fits n) fold.aggs && list_all (test_fits n) fold.tests

-- how many columns an aggregate outputs: the bucket, the keys and the aggregates
abbrev pub output_count : Fold → ℕ
output_count fold = suc (length fold.keys + length fold.aggs)

-- NULL, or a number of 64 bits; and no NULL in a NOT NULL column
abbrev pub value_fits : Column → Option ℤ → Bool
value_fits c None = not c.must
value_fits c (Some v) = is_word v

-- as many values as columns, and each fits its column
abbrev pub values_fit : List Column → List (Option ℤ) → Bool
values_fit [] [] = true
values_fit [] (v ∷ vs) = false
values_fit (c ∷ cs) [] = false
values_fit (c ∷ cs) (v ∷ vs) = value_fits c v && values_fit cs vs

-- a row that may be inserted into a hypertable: its time is in range, and its values fit the other columns
abbrev pub row_fits : TableDef → HyperInfo → Row → Bool
row_fits def hyper row = is_time row.at && values_fit (remove def.cols hyper.at) row.vals

-- at least one row, and each fits
abbrev pub rows_fit : TableDef → HyperInfo → List Row → Bool
rows_fit def hyper new = nat_lt 0 (length new) && list_all (row_fits def hyper) new

-- ---- what events hold

-- an operation on a hypertable: rows that fit, or tests on its columns
abbrev pub op_fits : Roster → Op → Bool
op_fits r (Insert t new) = of_table (λ def hyper. rows_fit def hyper new) (table_of r t)
op_fits r (Delete t tests) = of_table (λ def hyper. list_all (test_fits (length def.cols)) tests) (table_of r t)

-- 1 to 16 columns with different names
abbrev pub columns_fit : List Column → Bool
columns_fit cols = nat_lt 0 (length cols) && nat_le (length cols) most_columns && are_names (map (λ c. c.name) cols)

-- an interval from 1 to 2 ^ 50, and an existing time column
abbrev pub hyper_fits : HyperInfo → Option TableInfo → Bool
hyper_fits hyper None = false
hyper_fits hyper (Some info) =
    nat_lt hyper.at (length info.def.cols) && int_lt (pos 0) hyper.interval && int_le hyper.interval max_interval

-- an aggregate over the columns of a hypertable: a width, at least one function, at most 16 output columns, and as
-- many different names
abbrev pub view_fits : ViewDef → TableDef → HyperInfo → Bool
view_fits def table hyper =
    is_name def.name && is_width def.fold.width && fold_fits (length table.cols) def.fold
    && nat_lt 0 (length def.fold.aggs) && nat_le (output_count def.fold) most_columns
    && length def.names == output_count def.fold && are_names def.names

-- a span of whole buckets from the first on that isn't empty, with bounds of 64 bits
abbrev pub span_fits : Span → Option ViewDef → Bool
span_fits span None = false
span_fits span (Some def) =
    is_bucket def.fold.width span.lo && is_bucket def.fold.width span.hi && int_lt span.lo span.hi
    && int_le (first_of def.fold.width) span.lo && is_word span.lo && is_word span.hi

-- a finish names a refresh that was cut, and a snapshot at or after its cut and the base, and not after the history
abbrev pub finish_fits : History → ℕ → ℕ → Bool
finish_fits h cut snap =
    is_known (pending h cut) && nat_le cut snap && nat_le (base_position h) snap && nat_le snap (position h)

-- ---- sound events

-- what an event names is in the roster, and all that it holds is in range. A finish names nothing of a roster
abbrev pub sound_in : Roster → Event → Bool
sound_in r (Table def) = is_name def.name && columns_fit def.cols
sound_in r (Hyper t hyper) = hyper_fits hyper (table_of r t)
sound_in r (View def) = of_table (view_fits def) (table_of r def.table)
sound_in r (Mode v only) = is_some (view_of r v)
sound_in r (Commit ops) = nat_lt 0 (length ops) && list_all (op_fits r) ops
sound_in r (Cut v span) = span_fits span (view_of r v)
sound_in r (Built cut snap) = true

-- the same at a history, of a finish too
abbrev pub sound_at : History → Event → Bool
sound_at h (Built cut snap) = finish_fits h cut snap
sound_at h e = sound_in (roster h) e

-- the same, and the event takes fewer than 2 ^ 32 bytes
abbrev pub sound : History → Event → Bool
sound h e = sound_at h e && nat_lt (event_bytes e) bytes_limit
