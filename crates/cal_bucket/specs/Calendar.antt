-- The calendar: leap years, months, and the starts of months in seconds since 1970.
use Rattle.std.specs.Prelude.{ℕ, zero, suc, ◌+◌, Bool, not, ◌&&◌, ◌||◌, ◌==◌, if◌then◌else◌, ℤ, pos, negsuc, neg_ℤ, ◌+ℤ◌, ◌*ℤ◌, ◌≤ℤ◌, ◌<ℤ◌, unsigned_abs}
use Rattle.std.specs.Int.{int_div_euclid, int_rem_euclid}
use Rattle.std.specs.Ordering.{int_eq}
use Rattle.ts_bucket.specs.Bucket.{min_time, max_time}

-- n divides the number
abbrev pub divides : ℕ → ℤ → Bool
divides n z = int_eq (int_rem_euclid z (pos n)) (pos 0)

-- every fourth year is a leap year, except for centuries, of which only every fourth is
abbrev pub is_leap : ℤ → Bool
is_leap year = (divides 4 year && not (divides 100 year)) || divides 400 year

-- the number of days of a month, in a leap year or another, by its place in the year: 0 is January
abbrev pub days_of_month : Bool → ℕ → ℕ
days_of_month leap place =
    if place == 1 then (if leap then 29 else 28)
    else (if (place == 3) || (place == 5) || (place == 8) || (place == 10) then 30 else 31)

-- the year of a month, where month 0 is January 2000
abbrev pub year_of : ℤ → ℤ
year_of k = pos 2000 +ℤ int_div_euclid k (pos 12)

-- its place in the year
abbrev pub place_of : ℤ → ℕ
place_of k = unsigned_abs (int_rem_euclid k (pos 12))

-- the number of days of the month
abbrev pub length_of : ℤ → ℕ
length_of k = days_of_month (is_leap (year_of k)) (place_of k)

-- the days of the first n months from January 2000 on
unfoldable pub days_after : ℕ → ℕ
days_after zero = 0
days_after (suc n) = days_after n + length_of (pos n)

-- the days of the last n months before January 2000
unfoldable pub days_before : ℕ → ℕ
days_before zero = 0
days_before (suc n) = days_before n + length_of (negsuc n)

-- the days from the start of January 2000 to the start of the month, below 0 for a month before it
unfoldable pub days_to : ℤ → ℤ
days_to (pos n) = pos (days_after n)
days_to (negsuc n) = neg_ℤ (pos (days_before (suc n)))

-- the second in which the month starts
abbrev pub start_of : ℤ → ℤ
start_of k = pos 946684800 +ℤ (pos 86400 *ℤ days_to k)

-- t lies in the month
pub record IsMonthOf (t k : ℤ) : Type 0 where
  pub at_or_below : start_of k ≤ℤ t
  pub end_above : t <ℤ start_of (k +ℤ pos 1)

-- the month starts at or below the greatest time, and ends above the least one if 14,400 months more are
-- counted
pub record IsNearMonth (k : ℤ) : Type 0 where
  pub low : min_time <ℤ start_of (k +ℤ pos 14401)
  pub high : start_of k ≤ℤ max_time
