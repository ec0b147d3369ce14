-- Refusals of a roll-up's names and values against the aggregate that it is over.
use Rattle.std.specs.Prelude.{ℕ, suc, zero, ◌-◌, Bool, true, false, not, ◌&&◌, nat_le, nat_lt, if◌then◌else◌, ℤ, pos as nonneg, ◌-ℤ◌, List, [], ◌∷◌, length, Option, Some, None, unwrap_or}
use Rattle.std.specs.Int.{int_rem_euclid}
use Rattle.std.specs.Ordering.{int_eq}
use Rattle.ts_num.specs.declared.values.Fun.{Fun}
use Rattle.ts_num.specs.declared.values.Fun.TheVariants.{CountAll, Count, Sum, Min, Max, Avg}
use Rattle.ts_schema.specs.Counts.{raised_by}
use Rattle.ts_model.specs.Numbers.{no_column, bad_width, too_many, bad_rollup}
use Rattle.ts_model.specs.Limits.{most_columns}
use Rattle.ts_model.specs.declared.outcomes.Refusal.{Refusal}
use Rattle.ts_model.specs.declared.views.ViewDef.{ViewDef}
use Rattle.ts_catalog.specs.Columns.{view_column_of}
use Rattle.stmt_syntax.specs.declared.statements.NamedAgg.{NamedAgg}
use Rattle.stmt_syntax.specs.declared.statements.NamedFold.{NamedFold}
use Rattle.stmt_syntax.specs.declared.statements.NamedTest.{NamedTest}
use Rattle.stmt_check.specs.Folds.{columns_before, is_shift, is_step, output_count}
use Rattle.stmt_check.specs.Queries.{is_bucket_column}
use Rattle.stmt_check.specs.Refusals.{◌⊳◌, marked_refusal, refusal_if_none, refusal_if}
use Rattle.hier_agg.specs.Plans.{agg_at}

-- ---- columns

-- the number of a key by its place among the output columns
abbrev pub key_place : ViewDef → Option ℕ → Option ℕ
key_place def None = None
key_place def (Some zero) = None
key_place def (Some (suc k)) = if nat_lt k (length def.fold.keys) then Some k else None

-- the number of an aggregate's column by its place among the output columns
abbrev pub agg_place : ViewDef → Option ℕ → Option ℕ
agg_place def None = None
agg_place def (Some zero) = None
agg_place def (Some (suc k)) =
    if nat_le (length def.fold.keys) k && nat_lt (k - length def.fold.keys) (length def.fold.aggs) then Some k else None

abbrev pub key_named : ViewDef → List ℕ → Option ℕ
key_named def name = key_place def (view_column_of def name)

abbrev pub agg_named : ViewDef → List ℕ → Option ℕ
agg_named def name = agg_place def (view_column_of def name)

-- ---- functions

-- the values of a function are added up by a sum
abbrev pub is_summed : Fun → Bool
is_summed CountAll = true
is_summed Count = true
is_summed Sum = true
is_summed Min = false
is_summed Max = false
is_summed Avg = false

abbrev pub is_least : Fun → Bool
is_least CountAll = false
is_least Count = false
is_least Sum = false
is_least Min = true
is_least Max = false
is_least Avg = false

abbrev pub is_most : Fun → Bool
is_most CountAll = false
is_most Count = false
is_most Sum = false
is_most Min = false
is_most Max = true
is_most Avg = false

-- a function fits a column of another function: it adds up the values of that one
abbrev pub fits : Fun → Fun → Bool
fits CountAll f = false
fits Count f = false
fits Sum f = is_summed f
fits Min f = is_least f
fits Max f = is_most f
fits Avg f = false

-- ---- refusals

-- one key after this many columns: it is a key, and there aren't too many columns
abbrev pub key_refusal : ℕ → ViewDef → ℕ → ℕ → List ℕ → Option Refusal
key_refusal pos def count others name =
    refusal_if_none pos no_column (key_named def name) ⊳ marked_refusal pos too_many count (nat_le most_columns others)

-- keys from left to right, after this many columns
abbrev pub keys_refusal : ℕ → ViewDef → ℕ → ℕ → List (List ℕ) → Option Refusal
keys_refusal pos def count others [] = None
keys_refusal pos def count others (k ∷ ks) =
    key_refusal pos def count others k ⊳ keys_refusal pos def count (raised_by 1 others) ks

-- the argument of a function, or the function if it has none: it is an aggregate's column, and the function
-- fits it
abbrev pub argument_refusal : ℕ → ViewDef → Fun → Option (List ℕ) → Option Refusal
argument_refusal pos def fun None = refusal_if pos bad_rollup true
argument_refusal pos def fun (Some name) =
    refusal_if_none pos no_column (agg_named def name)
    ⊳ refusal_if pos bad_rollup (not (fits fun (agg_at def.fold (unwrap_or (agg_named def name) 0)).fun))

-- one aggregate after this many columns: there aren't too many at its function, and then its argument is
-- checked
abbrev pub agg_refusal : ℕ → ViewDef → ℕ → ℕ → NamedAgg → Option Refusal
agg_refusal pos def count others a =
    marked_refusal pos too_many count (nat_le most_columns others) ⊳ argument_refusal pos def a.fun a.col

-- aggregates from left to right, after this many columns
abbrev pub aggs_refusal : ℕ → ViewDef → ℕ → ℕ → List NamedAgg → Option Refusal
aggs_refusal pos def count others [] = None
aggs_refusal pos def count others (a ∷ left) =
    agg_refusal pos def count others a ⊳ aggs_refusal pos def count (raised_by 1 others) left

-- a step divides a number
abbrev pub divides_evenly : ℤ → ℤ → Bool
divides_evenly z step = int_eq (int_rem_euclid z step) (nonneg 0)

-- the width and the offset are in range and fit those of the aggregate, with the bucket column between them. An offset
-- that isn't written is checked as 0
abbrev pub width_refusal : ℕ → ViewDef → NamedFold → Option Refusal
width_refusal pos def f =
    refusal_if pos bad_width (not (is_step f.step)) ⊳ refusal_if pos bad_width (not (divides_evenly f.step def.fold.width.step))
    ⊳ refusal_if pos no_column (not (is_bucket_column (view_column_of def f.at)))
    ⊳ refusal_if pos bad_width (not (is_shift f.step f.shift))
    ⊳ refusal_if pos bad_width (not (divides_evenly (f.shift -ℤ def.fold.width.shift) def.fold.width.step))

-- tests from left to right: each is on a key
abbrev pub tests_refusal : ℕ → ViewDef → List NamedTest → Option Refusal
tests_refusal pos def [] = None
tests_refusal pos def (t ∷ ts) = refusal_if_none pos no_column (key_named def t.col) ⊳ tests_refusal pos def ts

-- a roll-up over an aggregate: the width, the bucket column and the offset, the keys, the aggregates, the tests
abbrev pub upper_refusal : ℕ → ViewDef → NamedFold → Option Refusal
upper_refusal pos def f =
    width_refusal pos def f ⊳ keys_refusal pos def (output_count f) 1 f.keys
    ⊳ aggs_refusal pos def (output_count f) (columns_before (length f.keys) 0) f.aggs
    ⊳ tests_refusal pos def f.tests
