-- What an aggregate function shows of a column: of one value for each row, where NULL is None.
use Rattle.std.specs.Prelude.{List, [], ◌∷◌, length, Option, None, Some, ℤ, pos, ◌+ℤ◌}
use Rattle.std.specs.Int.{int_min, int_max}
use Rattle.ts_num.specs.declared.values.Fun.{Fun}
use Rattle.ts_num.specs.declared.values.Fun.TheVariants.{CountAll, Count, Sum, Min, Max, Avg}
use Rattle.ts_num.specs.declared.values.Datum.{Datum}
use Rattle.ts_num.specs.declared.values.Datum.TheVariants.{Null, Int, Ratio}
use Rattle.ts_num.specs.Fractions.{lowest_terms}

-- the values that aren't NULL, in order
abbrev pub values : List (Option ℤ) → List ℤ
values [] = []
values (None ∷ column) = values column
values (Some v ∷ column) = v ∷ values column

-- the sum of whole numbers
abbrev pub sum_of : List ℤ → ℤ
sum_of [] = pos 0
sum_of (v ∷ vs) = v +ℤ sum_of vs

-- the lesser and the greater of two numbers, each of which may be missing
abbrev pub lesser : Option ℤ → Option ℤ → Option ℤ
lesser None b = b
lesser (Some x) None = Some x
lesser (Some x) (Some y) = Some (int_min x y)

abbrev pub greater : Option ℤ → Option ℤ → Option ℤ
greater None b = b
greater (Some x) None = Some x
greater (Some x) (Some y) = Some (int_max x y)

-- the least number of a list, None if it is empty
abbrev pub least_of : List ℤ → Option ℤ
least_of [] = None
least_of (v ∷ vs) = lesser (Some v) (least_of vs)

-- the greatest number of a list, None if it is empty
abbrev pub greatest_of : List ℤ → Option ℤ
greatest_of [] = None
greatest_of (v ∷ vs) = greater (Some v) (greatest_of vs)

-- the datum, or NULL if there are no values
abbrev pub unless_empty : List ℤ → Datum → Datum
unless_empty [] shown = Null
unless_empty (v ∷ vs) shown = shown

-- the number, or NULL if it is missing
abbrev pub shown_or_null : Option ℤ → Datum
shown_or_null None = Null
shown_or_null (Some v) = Int v

-- what an aggregate function shows of a column
abbrev pub aggregate : Fun → List (Option ℤ) → Datum
aggregate CountAll column = Int (pos (length column))
aggregate Count column = Int (pos (length (values column)))
aggregate Sum column = unless_empty (values column) (Int (sum_of (values column)))
aggregate Min column = shown_or_null (least_of (values column))
aggregate Max column = shown_or_null (greatest_of (values column))
aggregate Avg column =
    unless_empty (values column) (Ratio (lowest_terms (sum_of (values column)) (length (values column))))
