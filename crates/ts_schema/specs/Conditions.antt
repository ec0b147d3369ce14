use Rattle.std.specs.Prelude.{ℤ, Bool, true, false, not, List, Option, Some, None}
use Rattle.std.specs.List.{list_all}
use Rattle.std.specs.Ordering.{int_eq}
use Rattle.std.specs.Prelude.{int_lt, int_le}
use Rattle.ts_schema.specs.Rows.{field_of}
use Rattle.ts_schema.specs.declared.rows.Row.{Row}
use Rattle.ts_schema.specs.declared.conditions.Cmp.{Cmp}
use Rattle.ts_schema.specs.declared.conditions.Cmp.TheVariants.{Eq, Ne, Lt, Le, Gt, Ge, IsNull, NotNull}
use Rattle.ts_schema.specs.declared.conditions.Test.{Test}

-- whether a comparison of a value with a number is true; for NULL only IS NULL is true
abbrev pub compares : Cmp → Option ℤ → ℤ → Bool
compares IsNull None n = true
compares IsNull (Some v) n = false
compares NotNull None n = false
compares NotNull (Some v) n = true
compares Eq None n = false
compares Eq (Some v) n = int_eq v n
compares Ne None n = false
compares Ne (Some v) n = not (int_eq v n)
compares Lt None n = false
compares Lt (Some v) n = int_lt v n
compares Le None n = false
compares Le (Some v) n = int_le v n
compares Gt None n = false
compares Gt (Some v) n = int_lt n v
compares Ge None n = false
compares Ge (Some v) n = int_le n v

-- whether a row passes one test
abbrev pub passes_one : Row → Test → Bool
passes_one row t = compares t.cmp (field_of row t.col) t.num

-- whether a row passes every test
abbrev pub passes_all : Row → List Test → Bool
passes_all row tests = list_all (passes_one row) tests
