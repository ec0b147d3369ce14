-- The row of a table whose columns in declared order these cells show.
use Rattle.std.specs.Prelude.{◌≡◌, ℕ, ◌≤◌, List, [], ◌∷◌, ◌++◌, map, take, drop, length, ℤ, pos, Option, Some, None, IfSome, IsTrue}
use Rattle.std.specs.List.{AllByRecursion}
use Rattle.ts_num.specs.declared.values.Datum.{Datum}
use Rattle.ts_num.specs.declared.values.Datum.TheVariants.{Null, Int, Ratio}
use Rattle.ts_bucket.specs.Bucket.{is_time}
use Rattle.ts_schema.specs.declared.rows.Row.{Row}
use Rattle.ts_model.specs.Answers.{all_columns}
use Rattle.ts_model.specs.Limits.{is_word}

-- the number that a cell shows, if it shows one
abbrev pub number_of : Datum → Option ℤ
number_of Null = None
number_of (Int n) = Some n
number_of (Ratio r) = None

-- the number that the first of these cells shows, or 0
abbrev pub first_number : List Datum → ℤ
first_number [] = pos 0
first_number (Null ∷ cells) = pos 0
first_number (Int n ∷ cells) = n
first_number (Ratio r ∷ cells) = pos 0

-- the row that these cells show, if the time column is at this place
abbrev pub row_shown : ℕ → List Datum → Row
row_shown at cells = record {
  at = first_number (drop at cells);
  vals = map number_of (take at cells) ++ map number_of (drop 1 (drop at cells));
}

-- NULL, or a number of 64 bits
abbrev pub IsValue : Option ℤ → Type 0
IsValue v = IfSome v (λ n. IsTrue (is_word n))

-- the cells show a row of a table: its columns in declared order, if the time column is at this place
pub record ShowARow (at : ℕ) (cells : List Datum) : Type 0 where
  pub row : Row
  pub columns : cells ≡ all_columns at row
  pub place : at ≤ length row.vals
  pub time : IsTrue (is_time row.at)
  pub values : AllByRecursion IsValue row.vals
