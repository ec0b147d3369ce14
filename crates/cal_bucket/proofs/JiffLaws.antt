-- The calendar is that of jiff, in all its years.
use Rattle.std.proofs.Common.{◌≡◌, ℕ, zero, suc, ◌+◌, ◌/◌, ◌%◌, inl, inr, not, ◌&&◌, ◌||◌, nat_eq, sym, ap, subst, ◌∙◌, arith, ℤ, pos, negsuc, neg_ℤ, ◌+ℤ◌, ◌≤ℤ◌, unsigned_abs}
use Rattle.std.proofs.lemmas.Bool.{cases_order}
use Rattle.std.proofs.lemmas.Bool.Decides.{nat_tests}
use Rattle.jiff_core.specs.Calendar.{days_in_month, day_count, is_leap_year}
use Rattle.jiff_core.proofs.SignedLemmas.{signed_arith}
use Rattle.jiff_core.proofs.CalendarLemmas.{day_count-next_month, day_count-next_year, day_count-last_of_year, day_count-day, days_from_civil-day_count}
use Rattle.cal_bucket.specs.Calendar.{divides, is_leap, days_of_month, year_of, place_of, length_of, days_after, days_to}
use Rattle.cal_bucket.specs.Laws.{MonthsFollow, MonthsStartWithFirstDates, January2000}
use Rattle.cal_bucket.proofs.CalendarLaws.{same_tests, days_to-next, days_to-pos, days_after-zero, days_after-first_day, day_count-2000}

-- ---- months follow one another

pub january_2000 : January2000
january_2000 = let none : days_to (pos 0) ≡ pos 0 = days_to-pos 0 ∙ ap pos days_after-zero in omega (arith, signed_arith)

pub months_follow : MonthsFollow
months_follow k = let next : days_to (k +ℤ pos 1) ≡ days_to k +ℤ pos (length_of k) = days_to-next k in omega (arith, signed_arith)

-- ---- months have as many days as jiff's

divides-same : (y : ℤ) → (divides 4 y ≡ nat_eq (unsigned_abs y % 4) 0) × (divides 100 y ≡ nat_eq (unsigned_abs y % 100) 0) × (divides 400 y ≡ nat_eq (unsigned_abs y % 400) 0)
divides-same y = (grind (arith, signed_arith, nat_tests), grind (arith, signed_arith, nat_tests), grind (arith, signed_arith, nat_tests))

leap-same : (y : ℤ) → is_leap y ≡ is_leap_year y
leap-same y = let same = divides-same y in rw (same.0, same.1, same.2) (tests y)
  where
    tests : (y : ℤ) → ((nat_eq (unsigned_abs y % 4) 0 && not (nat_eq (unsigned_abs y % 100) 0)) || nat_eq (unsigned_abs y % 400) 0) ≡ is_leap_year y
    tests y = grind (arith, nat_tests)

month-same : (y : ℤ) (place : ℕ) → days_of_month (is_leap y) place ≡ days_in_month y (place + 1)
month-same y place = ap (λ leap. days_of_month leap place) (leap-same y) ∙ same_tests (is_leap_year y) place

-- ---- the day counts of first days

-- the day count of the first day of month k
abbrev first_day : ℤ → ℕ
first_day k = day_count (year_of k) (place_of k + 1) 1

-- the years of jiff's day counts
abbrev IsCounted : ℤ → Type 0
IsCounted k = neg_ℤ (pos 10000) ≤ℤ year_of k

new_year : (y next : ℤ) (place : ℕ) → neg_ℤ (pos 10000) ≤ℤ y → next ≡ y +ℤ pos 1 → place ≡ 11 → day_count next 1 1 ≡ day_count y (place + 1) 1 + days_in_month y (place + 1)
new_year y next place from is last =
    let begins = day_count-next_year y next from is in
    rw last (omega (arith, begins, day_count-last_of_year y, day_count-day y 12 31 1 (omega arith) (omega arith)))

next_day : (k : ℤ) → IsCounted k → first_day (k +ℤ pos 1) ≡ first_day k + days_in_month (year_of k) (place_of k + 1)
next_day k from =
    elim (cases_order (place_of k) 11) [
      | inr (inl lt) ↦ let year : year_of (k +ℤ pos 1) ≡ year_of k = omega (arith, signed_arith) in
          let place : place_of (k +ℤ pos 1) ≡ place_of k + 1 = omega (arith, signed_arith) in
          rw (year, place) (day_count-next_month (year_of k) (place_of k + 1) (omega arith))
      | inl last ↦ let year : year_of (k +ℤ pos 1) ≡ year_of k +ℤ pos 1 = omega (arith, signed_arith) in
          let place : place_of (k +ℤ pos 1) ≡ 0 = omega (arith, signed_arith) in
          ap (λ m. day_count (year_of (k +ℤ pos 1)) (m + 1) 1) place ∙ new_year (year_of k) (year_of (k +ℤ pos 1)) (place_of k) from year last
      | inr (inr gt) ↦ absurd (omega (arith, signed_arith))
    ]

first_day-next : (k : ℤ) → IsCounted k → first_day (k +ℤ pos 1) ≡ first_day k + length_of k
first_day-next k from = next_day k from ∙ ap (λ d. first_day k + d) (sym (month-same (year_of k) (place_of k)))

-- the days to a month are the day count of its first day, less that of January 2000
abbrev IsCount : ℤ → Type 0
IsCount k = days_to k +ℤ pos 4_382_910 ≡ pos (first_day k)

count_back : (k : ℤ) → IsCounted k → IsCount (k +ℤ pos 1) → IsCount k
count_back k from h =
    let days : days_to (k +ℤ pos 1) ≡ days_to k +ℤ pos (length_of k) = days_to-next k in
    let first : first_day (k +ℤ pos 1) ≡ first_day k + length_of k = first_day-next k from in
    omega (arith, signed_arith)

count_on : (n : ℕ) → IsCount (pos n)
count_on n =
    let year : year_of (pos n) ≡ pos (2000 + n / 12) = omega (arith, signed_arith) in
    let place : place_of (pos n) ≡ n % 12 = omega (arith, signed_arith) in
    let first : first_day (pos n) ≡ day_count (pos (2000 + n / 12)) (n % 12 + 1) 1 = ap (λ y. day_count y (place_of (pos n) + 1) 1) year ∙ ap (λ m. day_count (pos (2000 + n / 12)) (m + 1) 1) place in
    let days : days_to (pos n) ≡ pos (days_after n) = days_to-pos n in
    omega (arith, signed_arith, first, days, days_after-first_day n, day_count-2000)

count_is : (k : ℤ) → IsCounted k → IsCount k
count_is (pos n) from = count_on n
count_is (negsuc zero) from = count_back (negsuc 0) from (count_on 0)
count_is (negsuc (suc n)) from =
    let next : negsuc (suc n) +ℤ pos 1 ≡ negsuc n = omega (arith, signed_arith) in
    let before : IsCounted (negsuc n) = omega (arith, signed_arith) in
    count_back (negsuc (suc n)) from (subst IsCount (sym next) (count_is (negsuc n) before))

pub months_start_with_first_dates : MonthsStartWithFirstDates
months_start_with_first_dates k first ymd =
    let from : IsCounted k = subst (λ y. neg_ℤ (pos 10000) ≤ℤ y) ymd.0 (omega (arith, signed_arith, first.year_in)) in
    let month : first.month ≡ place_of k + 1 = omega (arith, signed_arith, ymd.1) in
    let day : first.day ≡ 1 = omega (arith, signed_arith, ymd.2) in
    let counted : day_count first.year first.month first.day ≡ first_day k
    = ap (λ d. day_count first.year first.month d) day ∙ ap (λ m. day_count first.year m 1) month ∙ ap (λ y. day_count y (place_of k + 1) 1) ymd.0 in
    let is : days_to k +ℤ pos 4_382_910 ≡ pos (first_day k) = count_is k from in
    omega (arith, signed_arith, counted, days_from_civil-day_count first.year first.month first.day)
