-- What a column sums up to, for every aggregate function at once.
use Rattle.std.specs.Prelude.{◌≡◌, ℕ, zero, suc, ◌+◌, ◌-◌, ◌*◌, ◌^◌, ◌<◌, ◌≤◌, List, [], ◌∷◌, ◌++◌, length, Option, None, Some, ℤ, pos, ◌+ℤ◌, ◌≤ℤ◌, neg_ℤ}
use Rattle.ts_num.specs.Aggregates.{values as values_in, sum_of, least_of, greatest_of, lesser, greater, shown_or_null}
use Rattle.ts_num.specs.Fractions.{lowest_terms}
use Rattle.ts_num.specs.declared.values.Fun.{Fun}
use Rattle.ts_num.specs.declared.values.Fun.TheVariants.{CountAll, Count, Sum, Min, Max, Avg}
use Rattle.ts_num.specs.declared.values.Datum.{Datum}
use Rattle.ts_num.specs.declared.values.Datum.TheVariants.{Null, Int, Ratio}

-- the numbers of rows and of values that aren't NULL, and the sum, the least and the greatest of these values
pub record Summary : Type 0 where
  pub count : ℕ
  pub values : ℕ
  pub sum : ℤ
  pub least : Option ℤ
  pub most : Option ℤ

-- the summary of a column, which has one value for each row
abbrev pub summary : List (Option ℤ) → Summary
summary column = record {
  count = length column;
  values = length (values_in column);
  sum = sum_of (values_in column);
  least = least_of (values_in column);
  most = greatest_of (values_in column);
}

-- the summary of the rows of both
abbrev pub summary_of_both : Summary → Summary → Summary
summary_of_both a b = record {
  count = a.count + b.count;
  values = a.values + b.values;
  sum = a.sum +ℤ b.sum;
  least = lesser a.least b.least;
  most = greater a.most b.most;
}

-- a summary of a column becomes that of the column with one more value
abbrev pub TakesIn : Option ℤ → Summary → Summary → Type 0
TakesIn v old new = (column : List (Option ℤ)) → old ≡ summary column → new ≡ summary (column ++ v ∷ [])

-- a summary of a column, joined with that of a second column, becomes that of both in order
abbrev pub TakesInAll : Summary → Summary → Summary → Type 0
TakesInAll other old new =
    (mine theirs : List (Option ℤ)) → old ≡ summary mine → other ≡ summary theirs → new ≡ summary (mine ++ theirs)

-- the sum of this many values, NULL if there are none
abbrev pub sum_shown : ℕ → ℤ → Datum
sum_shown zero sum = Null
sum_shown (suc n) sum = Int sum

-- the mean of this many values with this sum, NULL if there are none
abbrev pub mean_shown : ℕ → ℤ → Datum
mean_shown zero sum = Null
mean_shown (suc n) sum = Ratio (lowest_terms sum (suc n))

-- what an aggregate function shows of the rows that were summed up
abbrev pub datum_of : Fun → Summary → Datum
datum_of CountAll s = Int (pos s.count)
datum_of Count s = Int (pos s.values)
datum_of Sum s = sum_shown s.values s.sum
datum_of Min s = shown_or_null s.least
datum_of Max s = shown_or_null s.most
datum_of Avg s = mean_shown s.values s.sum

-- the whole number that a cell shows, None for NULL and for a mean
abbrev pub value_of : Datum → Option ℤ
value_of Null = None
value_of (Int v) = Some v
value_of (Ratio q) = None

-- there are at most as many values as rows and fewer than 2^62 rows, and that many 64-bit values can have the
-- sum
pub record IsBounded (count values : ℕ) (sum : ℤ) : Type 0 where
  pub counted : values ≤ count
  pub fewer : count < 2 ^ 62
  pub low : neg_ℤ (pos (2 ^ 63 * values)) ≤ℤ sum
  pub high : sum ≤ℤ pos ((2 ^ 63 - 1) * values)
