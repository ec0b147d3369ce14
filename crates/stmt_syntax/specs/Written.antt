-- Statements as texts have them: a statement is whole, and its text has at least a certain number of bytes.
use Rattle.std.specs.Prelude.{◌≡◌, ℕ, ◌+◌, ◌*◌, ◌<◌, ◌≤◌, ℤ, pos, Bool, true, false, List, length, sum_by, Option, Some, None, is_some}
use Rattle.std.specs.List.{AllByRecursion}
use Rattle.ts_num.specs.declared.values.Fun.{Fun}
use Rattle.ts_num.specs.declared.values.Fun.TheVariants as fun
use Rattle.ts_schema.specs.declared.columns.Column.{Column}
use Rattle.ts_schema.specs.declared.conditions.Cmp.{Cmp}
use Rattle.ts_schema.specs.declared.conditions.Cmp.TheVariants as cmp
use Rattle.stmt_syntax.specs.Proper.{IsProper}
use Rattle.stmt_syntax.specs.declared.statements.Stmt.{Stmt}
use Rattle.stmt_syntax.specs.declared.statements.Stmt.TheVariants as stmt
use Rattle.stmt_syntax.specs.declared.statements.NamedFold.{NamedFold}
use Rattle.stmt_syntax.specs.declared.statements.NamedAgg.{NamedAgg}
use Rattle.stmt_syntax.specs.declared.statements.NamedTest.{NamedTest}

-- ---- whole statements

-- a test on NULL
abbrev pub is_null_test : Cmp → Bool
is_null_test cmp.IsNull = true
is_null_test cmp.NotNull = true
is_null_test other = false

-- the number of a test on NULL is 0
pub record IsWholeTest (t : NamedTest) : Type 0 where
  pub number : is_null_test t.cmp ≡ true → t.num ≡ pos 0

-- each function except count(*) has an argument
abbrev pub takes_argument : Fun → Bool
takes_argument fun.CountAll = false
takes_argument other = true

-- an aggregate has an argument if and only if its function takes one
pub record IsWholeAgg (a : NamedAgg) : Type 0 where
  pub argument : is_some a.col ≡ takes_argument a.fun

-- at least one aggregate
pub record IsWholeFold (f : NamedFold) : Type 0 where
  pub some : 0 < length f.aggs
  pub aggs : AllByRecursion IsWholeAgg f.aggs
  pub tests : AllByRecursion IsWholeTest f.tests

-- at least one value
pub record IsWholeRow (values : List (Option ℤ)) : Type 0 where
  pub some : 0 < length values

-- at least one row
pub record AreWholeRows (rows : List (List (Option ℤ))) : Type 0 where
  pub some : 0 < length rows
  pub each : AllByRecursion IsWholeRow rows

-- at least one column of a table, one row and one value of an INSERT, and one aggregate of a fold; tests and
-- aggregates are whole
abbrev pub IsWhole : Stmt → Type 0
IsWhole (stmt.Table name cols) = 0 < length cols
IsWhole (stmt.Hyper table col interval) = Unit {0}
IsWhole (stmt.View name only filled fold) = IsWholeFold fold
IsWhole (stmt.Mode view only) = Unit {0}
IsWhole (stmt.Insert table cols rows) = AreWholeRows rows
IsWhole (stmt.Delete table tests) = AllByRecursion IsWholeTest tests
IsWhole (stmt.Drop table below) = Unit {0}
IsWhole (stmt.Refresh view lo hi) = Unit {0}
IsWhole (stmt.Cut view lo hi) = Unit {0}
IsWhole (stmt.Snap cut) = Unit {0}
IsWhole (stmt.Finish cut) = Unit {0}
IsWhole stmt.Begin = Unit {0}
IsWhole stmt.BeginRead = Unit {0}
IsWhole stmt.Commit = Unit {0}
IsWhole stmt.Rollback = Unit {0}
IsWhole (stmt.Buckets fold) = IsWholeFold fold
IsWhole (stmt.Calendar number unit fold) = IsWholeFold fold
IsWhole (stmt.Rows table tests) = AllByRecursion IsWholeTest tests

-- ---- the least number of bytes of a statement's text

-- a name and the comma or parenthesis beside it
abbrev pub name_size : List ℕ → ℕ
name_size name = 1 + length name

-- c BIGINT, and a comma or parenthesis
abbrev pub column_size : Column → ℕ
column_size c = 7 + length c.name

-- ( value { , value } )
abbrev pub row_size : List (Option ℤ) → ℕ
row_size values = 1 + 2 * length values

-- c op num, after WHERE or AND
abbrev pub test_size : NamedTest → ℕ
test_size t = 5 + length t.col

-- *, or c
abbrev pub argument_size : Option (List ℕ) → ℕ
argument_size None = 1
argument_size (Some c) = length c

-- AS x, if there is one
abbrev pub alias_size : Option (List ℕ) → ℕ
alias_size None = 0
alias_size (Some x) = 2 + length x

-- , fun ( c ) AS x
abbrev pub agg_size : NamedAgg → ℕ
agg_size a = 6 + argument_size a.col + alias_size a.name

-- time_bucket ( num , c ) AS x { , c } , agg { , agg } FROM n WHERE tests GROUP BY
abbrev pub fold_size : NamedFold → ℕ
fold_size f =
    26 + length f.at + alias_size f.name + sum_by name_size f.keys + sum_by agg_size f.aggs + length f.table + sum_by
    test_size f.tests

-- ( c { , c } ), if there is one
abbrev pub list_size : Option (List (List ℕ)) → ℕ
list_size None = 0
list_size (Some cols) = 1 + sum_by name_size cols

-- the least number of bytes that a statement's text has
abbrev pub size_of : Stmt → ℕ
size_of (stmt.Table name cols) = 12 + length name + sum_by column_size cols
size_of (stmt.Hyper table col interval) = length table + length col
size_of (stmt.View name only filled fold) = 32 + length name + fold_size fold
size_of (stmt.Mode view only) = length view
size_of (stmt.Insert table cols rows) = 16 + length table + list_size cols + sum_by row_size rows
size_of (stmt.Delete table tests) = 10 + length table + sum_by test_size tests
size_of (stmt.Drop table below) = 23 + length table
size_of (stmt.Refresh view lo hi) = length view
size_of (stmt.Cut view lo hi) = length view
size_of (stmt.Snap cut) = 0
size_of (stmt.Finish cut) = 0
size_of stmt.Begin = 0
size_of stmt.BeginRead = 0
size_of stmt.Commit = 0
size_of stmt.Rollback = 0
size_of (stmt.Buckets fold) = 6 + fold_size fold
size_of (stmt.Calendar number unit fold) = 6 + length unit + fold_size fold
size_of (stmt.Rows table tests) = 11 + length table + sum_by test_size tests

-- a statement of a text of this many bytes
pub record IsShaped (bytes : ℕ) (s : Stmt) : Type 0 where
  pub whole : IsWhole s
  pub size : size_of s ≤ bytes

-- a statement that a correct text of this many bytes may have
pub record IsWritten (bytes : ℕ) (s : Stmt) : Type 0 where
  pub whole : IsWhole s
  pub size : size_of s ≤ bytes
  pub proper : IsProper s
