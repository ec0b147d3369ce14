-- Laws of checks, stated by the meaning of a statement.
use Rattle.std.specs.Prelude.{◌≡◌, ℕ, zero, true, Bool, ℤ, ◌≤ℤ◌, ◌<ℤ◌, int_le, List, [], ◌∷◌, slice_get, slice_index_or, Option, Some, None, is_some, IfSome, if◌then◌else◌}
use Rattle.std.specs.List.{list_all, AllByRecursion}
use Rattle.ts_bucket.specs.Chunks.{IsInterval, chunk_of}
use Rattle.ts_bucket.specs.Spans.{in_span}
use Rattle.ts_schema.specs.Conditions.{compares, passes_all}
use Rattle.ts_schema.specs.Rows.{field_of}
use Rattle.ts_schema.specs.declared.columns.Column.{Column}
use Rattle.ts_schema.specs.declared.rows.Row.{Row}
use Rattle.ts_model.specs.declared.events.Event.TheVariants as events
use Rattle.ts_model.specs.declared.tables.TableInfo.{TableInfo}
use Rattle.ts_model.specs.declared.views.ViewDef.{ViewDef}
use Rattle.ts_model.specs.History.{History}
use Rattle.ts_model.specs.Roster.{roster, same_name, table_named, table_of}
use Rattle.ts_model.specs.Sound.{columns_fit}
use Rattle.ts_model.specs.Allowed.{allowed}
use Rattle.ts_catalog.specs.Columns.{column_of, hyper_number}
use Rattle.stmt_syntax.specs.declared.statements.NamedFold.{NamedFold}
use Rattle.stmt_syntax.specs.declared.statements.NamedTest.{NamedTest}
use Rattle.stmt_syntax.specs.declared.statements.Stmt.TheVariants as stmts
use Rattle.stmt_check.specs.Check.{refusal_of}
use Rattle.stmt_check.specs.Folds.{fold_of, output_names}
use Rattle.stmt_check.specs.Queries.{drop_test, starts_of, starts_refusal}
use Rattle.ts_bucket.specs.WholeSpans.{least, greatest}
use Rattle.stmt_check.specs.Rows.{insert_refusal, inserted_rows}

-- ---- which buckets, which rows

-- a start passes a test
abbrev pub start_passes : ℤ → NamedTest → Bool
start_passes b t = compares t.cmp (Some b) t.num

-- the starts that a query of an aggregate requests are exactly those that pass every test; no bucket starts at
-- the greatest number of 64 bits
abbrev pub StartsPassEach : Type 0
StartsPassEach =
    (pos : ℕ) (def : ViewDef) (tests : List NamedTest) (b : ℤ) → starts_refusal pos def tests ≡ None → least ≤ℤ b
    → b <ℤ greatest → in_span (starts_of tests) b ≡ list_all (start_passes b) tests

-- drop_chunks removes the rows of the chunks that end at or before its bound
abbrev pub DropsWholeChunks : Type 0
DropsWholeChunks =
    (interval bound : ℤ) (row : Row) → IsInterval interval
    → passes_all row (drop_test interval bound ∷ []) ≡ int_le (chunk_of interval row.at).hi bound

-- ---- which values

-- the value written under a name, or NULL
abbrev pub value_named : List (List ℕ) → List (Option ℤ) → List ℕ → Option ℤ
value_named [] values name = None
value_named (n ∷ names) [] name = None
value_named (n ∷ names) (v ∷ values) name = if same_name n name then v else value_named names values name

-- the value that a row's values have for the column with declared place k: the one under its name if columns
-- are listed, and otherwise the one at its place
abbrev pub value_written : Option (List (List ℕ)) → List (Option ℤ) → ℕ → Column → Option ℤ
value_written None values k c = slice_index_or values k None
value_written (Some names) values k c = value_named names values c.name

-- the value written for a column arrives in that column, and an omitted column is NULL
abbrev pub ValuesArrive : Type 0
ValuesArrive =
    (pos at : ℕ) (cols : List Column) (names : Option (List (List ℕ))) (rows : List (List (Option ℤ))) (i k : ℕ)
    (values : List (Option ℤ)) (row : Row) (c : Column)
    → columns_fit cols ≡ true → insert_refusal pos at cols names rows ≡ None
    → slice_get rows i ≡ Some values → slice_get (inserted_rows at cols names rows) i ≡ Some row
    → slice_get cols k ≡ Some c
    → field_of row (hyper_number at k) ≡ value_written names values k c

-- ---- what isn't refused

-- the columns that a fold names exist, and its bucket is over the time column
pub record NamesColumns (info : TableInfo) (f : NamedFold) : Type 0 where
  pub time : column_of info f.at ≡ Some zero
  pub keys : AllByRecursion (λ k. is_some (column_of info k) ≡ true) f.keys
  pub aggs : AllByRecursion (λ a. IfSome a.col (λ c. is_some (column_of info c) ≡ true)) f.aggs
  pub tests : AllByRecursion (λ t. is_some (column_of info t.col) ≡ true) f.tests

-- a CREATE TABLE, a hypertable and an aggregate whose event would be allowed aren't refused, if the names that
-- they use exist
pub record AllowedIsReady : Type 0 where
  pub tables : (h : History) (pos : ℕ) (name : List ℕ) (cols : List Column)
      → allowed h (events.Table (record { name = name; cols = cols })) ≡ true
      → refusal_of pos (roster h) (stmts.Table name cols) ≡ None
  pub hypers : (h : History) (pos : ℕ) (table : List ℕ) (n : ℕ) (info : TableInfo) (at : ℕ) (c : Column) (interval : ℤ)
      → table_named (roster h) table ≡ Some n → table_of (roster h) n ≡ Some info → slice_get info.def.cols at ≡ Some c
      → allowed h (events.Hyper n (record { at = at; interval = interval })) ≡ true
      → refusal_of pos (roster h) (stmts.Hyper table c.name interval) ≡ None
  pub views : (h : History) (pos : ℕ) (name : List ℕ) (only filled : Bool) (f : NamedFold) (n : ℕ) (info : TableInfo)
      → table_named (roster h) f.table ≡ Some n → table_of (roster h) n ≡ Some info → NamesColumns info f
      → allowed h
      (events.View (record { name = name; table = n; fold = fold_of info f; names = output_names f; only = only }))
      ≡ true
      → refusal_of pos (roster h) (stmts.View name only filled f) ≡ None
