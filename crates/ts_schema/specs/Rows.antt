use Rattle.std.specs.Prelude.{ℕ, ℤ, suc, zero, List, Option, Some, None, slice_index_or}
use Rattle.std.specs.Ordering.{int_cmp, then_cmp, on}
use Rattle.std.specs.declared.cmp.Ordering.{Ordering}
use Rattle.std.specs.declared.cmp.Ordering.TheVariants.{Less, Equal, Greater}
use Rattle.std.specs.Cmp.Lexicographic.{slice_cmp}
use Rattle.ts_schema.specs.declared.rows.Row.{Row}

-- values by size; NULL is greater than every number
abbrev pub value_cmp : Option ℤ → Option ℤ → Ordering
value_cmp None None = Equal
value_cmp None (Some y) = Greater
value_cmp (Some x) None = Less
value_cmp (Some x) (Some y) = int_cmp x y

-- lists of values from left to right
abbrev pub values_cmp : List (Option ℤ) → List (Option ℤ) → Ordering
values_cmp = slice_cmp value_cmp

-- rows by time, then by their other columns in declared order
abbrev pub row_cmp : Row → Row → Ordering
row_cmp = then_cmp (on (λ r. r.at) int_cmp) (on (λ r. r.vals) values_cmp)

-- the value of a column: column 0 is the time, the others count from 1
abbrev pub field_of : Row → ℕ → Option ℤ
field_of row zero = Some row.at
field_of row (suc k) = slice_index_or row.vals k None
