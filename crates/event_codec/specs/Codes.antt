-- The bytes that are codes of kinds, comparisons, functions and flags.
use Rattle.std.specs.Prelude.{ℕ, Bool, true, false}
use Rattle.ts_num.specs.declared.values.Fun.{Fun}
use Rattle.ts_num.specs.declared.values.Fun.TheVariants.{CountAll, Count, Sum, Min, Max, Avg}
use Rattle.ts_schema.specs.declared.conditions.Cmp.{Cmp}
use Rattle.ts_schema.specs.declared.conditions.Cmp.TheVariants.{Eq, Ne, Lt, Le, Gt, Ge, IsNull, NotNull}
use Rattle.event_codec.specs.declared.kinds.Kind.{Kind}
use Rattle.event_codec.specs.declared.kinds.Kind.TheVariants as kinds
use Rattle.event_codec.specs.declared.kinds.OpKind.{OpKind}
use Rattle.event_codec.specs.declared.kinds.OpKind.TheVariants as op_kinds

abbrev pub flag_code : Bool → ℕ
flag_code false = 0
flag_code true = 1

abbrev pub cmp_code : Cmp → ℕ
cmp_code Eq = 1
cmp_code Ne = 2
cmp_code Lt = 3
cmp_code Le = 4
cmp_code Gt = 5
cmp_code Ge = 6
cmp_code IsNull = 7
cmp_code NotNull = 8

abbrev pub fun_code : Fun → ℕ
fun_code CountAll = 1
fun_code Count = 2
fun_code Sum = 3
fun_code Min = 4
fun_code Max = 5
fun_code Avg = 6

abbrev pub kind_code : Kind → ℕ
kind_code kinds.Table = 1
kind_code kinds.Hyper = 2
kind_code kinds.View = 3
kind_code kinds.Mode = 4
kind_code kinds.Commit = 5
kind_code kinds.Cut = 6
kind_code kinds.Built = 7

abbrev pub op_code : OpKind → ℕ
op_code op_kinds.Insert = 1
op_code op_kinds.Delete = 2
