-- Proper statements: their names are names in lower case, and their numbers are of 64 bits.
use Rattle.std.specs.Prelude.{◌≡◌, ℕ, ℤ, true, List, Option}
use Rattle.std.specs.Prelude.{IfSome}
use Rattle.std.specs.List.{AllByRecursion}
use Rattle.ts_schema.specs.Names.{is_name}
use Rattle.ts_schema.specs.declared.columns.Column.{Column}
use Rattle.stmt_syntax.specs.Limits.{is_i64}
use Rattle.stmt_syntax.specs.declared.statements.NamedAgg.{NamedAgg}
use Rattle.stmt_syntax.specs.declared.statements.NamedFold.{NamedFold}
use Rattle.stmt_syntax.specs.declared.statements.NamedTest.{NamedTest}
use Rattle.stmt_syntax.specs.declared.statements.Stmt.{Stmt}
use Rattle.stmt_syntax.specs.declared.statements.Stmt.TheVariants as stmt

-- a name of at most 63 bytes in lower case
abbrev pub IsName : List ℕ → Type 0
IsName w = is_name w ≡ true

-- a number of 64 bits
abbrev pub IsWord : ℤ → Type 0
IsWord z = is_i64 z ≡ true

-- NULL, or a number of 64 bits
abbrev pub IsValue : Option ℤ → Type 0
IsValue v = IfSome v IsWord

-- no name, or a name in lower case
abbrev pub IsAlias : Option (List ℕ) → Type 0
IsAlias x = IfSome x IsName

-- its name is one
abbrev pub IsProperColumn : Column → Type 0
IsProperColumn c = IsName c.name

-- its column is a name, and its number fits 64 bits
pub record IsProperTest (t : NamedTest) : Type 0 where
  pub col : IsName t.col
  pub num : IsWord t.num

-- its column and its name are names, if it has them
pub record IsProperAgg (a : NamedAgg) : Type 0 where
  pub col : IsAlias a.col
  pub name : IsAlias a.name

-- each test is proper
abbrev pub AreProperTests : List NamedTest → Type 0
AreProperTests tests = AllByRecursion IsProperTest tests

-- each value is NULL or a number of 64 bits
abbrev pub AreProperRows : List (List (Option ℤ)) → Type 0
AreProperRows rows = AllByRecursion (AllByRecursion IsValue) rows

-- its names are names, and its numbers of 64 bits
pub record IsProperFold (f : NamedFold) : Type 0 where
  pub step : IsWord f.step
  pub shift : IsWord f.shift
  pub at : IsName f.at
  pub name : IsAlias f.name
  pub keys : AllByRecursion IsName f.keys
  pub aggs : AllByRecursion IsProperAgg f.aggs
  pub table : IsName f.table
  pub tests : AreProperTests f.tests

-- a proper statement
abbrev pub IsProper : Stmt → Type 0
IsProper (stmt.Table name cols) = IsName name × AllByRecursion IsProperColumn cols
IsProper (stmt.Hyper table col interval) = IsName table × IsName col × IsWord interval
IsProper (stmt.View name only filled fold) = IsName name × IsProperFold fold
IsProper (stmt.Mode view only) = IsName view
IsProper (stmt.Insert table cols rows) = IsName table × IfSome cols (AllByRecursion IsName) × AreProperRows rows
IsProper (stmt.Delete table tests) = IsName table × AreProperTests tests
IsProper (stmt.Drop table below) = IsName table × IsWord below
IsProper (stmt.Refresh view lo hi) = IsName view × IsValue lo × IsValue hi
IsProper (stmt.Cut view lo hi) = IsName view × IsValue lo × IsValue hi
IsProper (stmt.Snap cut) = IsValue cut
IsProper (stmt.Finish cut) = IsValue cut
IsProper stmt.Begin = Unit {0}
IsProper stmt.BeginRead = Unit {0}
IsProper stmt.Commit = Unit {0}
IsProper stmt.Rollback = Unit {0}
IsProper (stmt.Buckets fold) = IsProperFold fold
IsProper (stmt.Calendar number unit fold) = IsWord number × IsName unit × IsProperFold fold
IsProper (stmt.Rows table tests) = IsName table × AreProperTests tests
