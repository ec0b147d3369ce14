-- A range of starts of chunks, and of times.
use Rattle.std.specs.Prelude.{◌≡◌, Bool, true, ◌&&◌, List, ℤ, int_le, FitsSigned}
use Rattle.std.specs.Int.{w64}
use Rattle.ts_schema.specs.declared.rows.Row.{Row}
use Rattle.ts_schema.specs.declared.conditions.Test.{Test}
use Rattle.ts_schema.specs.Conditions.{passes_all, passes_one}
use Rattle.chunk_catalog.specs.declared.time_ranges.TimeRange.{TimeRange}

-- the number lies in the range, whose ends are included
abbrev pub in_reach : TimeRange → ℤ → Bool
in_reach r t = int_le r.first t && int_le t r.last

-- the range holds the time, of 64 bits, of each row that passes every test
abbrev pub HoldsPassing : List Test → TimeRange → Type 0
HoldsPassing tests r = (row : Row) → FitsSigned w64 row.at → passes_all row tests ≡ true → in_reach r row.at ≡ true

-- the second range holds the times of rows that pass a test and that the first range holds
abbrev pub Narrows : TimeRange → Test → TimeRange → Type 0
Narrows times test r =
    (row : Row) → FitsSigned w64 row.at → in_reach times row.at ≡ true → passes_one row test ≡ true
    → in_reach r row.at ≡ true
