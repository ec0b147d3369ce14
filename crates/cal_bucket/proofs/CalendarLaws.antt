-- Laws of the calendar: months follow one another, and the calendar repeats after 400 years.
use Rattle.std.proofs.Common.{◌≡◌, ℕ, zero, suc, ◌+◌, ◌-◌, ◌/◌, ◌%◌, ◌<◌, ◌≤◌, inl, inr, Bool, ◌||◌, cond, nat_eq, refl, sym, ap, subst, ◌∙◌, arith, ℤ, pos, negsuc, ◌+ℤ◌, ◌*ℤ◌, ◌<ℤ◌, ◌≤ℤ◌, unsigned_abs}
use Rattle.std.proofs.lemmas.Bool.Decides.{nat_tests}
use Rattle.std.proofs.lemmas.Int.{by_lt_z}
use Rattle.std.proofs.lemmas.Bool.{cases_order}
use Rattle.std.specs.Int.{int_rem_euclid}
use Rattle.jiff_core.specs.Calendar.{days_in_month, day_count, is_leap_year}
use Rattle.jiff_core.proofs.SignedLemmas.{signed_arith}
use Rattle.jiff_core.proofs.CalendarLemmas.{day_count-next_month, day_count-next_year, day_count-last_of_year, day_count-day}
use Rattle.jiff_core.proofs.MarchLemmas.{day_count-early}
use Rattle.cal_bucket.specs.Calendar.{is_leap, days_of_month, year_of, place_of, length_of, days_after, days_before, days_to}
use borrow.Author.Differences.{up, down}

-- ---- one month after another

pub days_of_month-bounds : (leap : Bool) (place : ℕ) → (28 ≤ days_of_month leap place) × (days_of_month leap place ≤ 31)
days_of_month-bounds leap place = grind arith

pub length_of-bounds : (k : ℤ) → (28 ≤ length_of k) × (length_of k ≤ 31)
length_of-bounds k = days_of_month-bounds (is_leap (year_of k)) (place_of k)

pub days_to-pos : (n : ℕ) → days_to (pos n) ≡ pos (days_after n)
unfolding days_to
days_to-pos n = refl

pub days_after-zero : days_after 0 ≡ 0
unfolding days_after
days_after-zero = refl

pub days_to-next : (k : ℤ) → days_to (k +ℤ pos 1) ≡ days_to k +ℤ pos (length_of k)
unfolding days_to days_after days_before
days_to-next (pos n) =
    let next : pos n +ℤ pos 1 ≡ pos (suc n) = omega (arith, signed_arith) in
    ap days_to next
days_to-next (negsuc zero) = omega (arith, signed_arith)
days_to-next (negsuc (suc n)) =
    let next : negsuc (suc n) +ℤ pos 1 ≡ negsuc n = omega (arith, signed_arith) in
    ap days_to next ∙ omega (arith, signed_arith)

-- n months later at least n days have passed
pub days_to-later : (k : ℤ) (n : ℕ) → (days_to k +ℤ pos n) ≤ℤ days_to (k +ℤ pos n)
days_to-later k zero =
    let same : k +ℤ pos 0 ≡ k = omega (arith, signed_arith) in
    rw same (omega (arith, signed_arith))
days_to-later k (suc n) =
    let next : (k +ℤ pos n) +ℤ pos 1 ≡ k +ℤ pos (suc n) = omega (arith, signed_arith) in
    let step : days_to (k +ℤ pos (suc n)) ≡ days_to (k +ℤ pos n) +ℤ pos (length_of (k +ℤ pos n)) = sym (ap days_to next) ∙ days_to-next (k +ℤ pos n) in
    let low : 28 ≤ length_of (k +ℤ pos n) = (length_of-bounds (k +ℤ pos n)).0 in
    let before : (days_to k +ℤ pos n) ≤ℤ days_to (k +ℤ pos n) = days_to-later k n in
    omega (arith, signed_arith)

-- a later month starts later
pub days_to-rises : (j k : ℤ) → j <ℤ k → days_to j <ℤ days_to k
days_to-rises j k h =
    let n = up k + down j - (down k + up j) in
    let is : j +ℤ pos n ≡ k = omega (arith, signed_arith) in
    let later : (days_to j +ℤ pos n) ≤ℤ days_to (j +ℤ pos n) = days_to-later j n in
    let same : days_to (j +ℤ pos n) ≡ days_to k = ap days_to is in
    omega (arith, signed_arith)

pub days_to-not_above : (j k : ℤ) → j ≤ℤ k → days_to j ≤ℤ days_to k
days_to-not_above j k h =
    by_lt_z j k
    (λ lt. let less : days_to j <ℤ days_to k = days_to-rises j k lt in omega (arith, signed_arith))
    (λ ge. let is : j ≡ k = omega (arith, signed_arith) in rw is (omega (arith, signed_arith)))

-- ---- 400 years

rem-400 : (z : ℤ) → (int_rem_euclid (z +ℤ pos 400) (pos 4) ≡ int_rem_euclid z (pos 4)) × (int_rem_euclid (z +ℤ pos 400) (pos 100) ≡ int_rem_euclid z (pos 100)) × (int_rem_euclid (z +ℤ pos 400) (pos 400) ≡ int_rem_euclid z (pos 400))
rem-400 z = (omega (arith, signed_arith), omega (arith, signed_arith), omega (arith, signed_arith))

pub is_leap-period : (year : ℤ) → is_leap (year +ℤ pos 400) ≡ is_leap year
is_leap-period year = let same = rem-400 year in rw (same.0, same.1, same.2) refl

pub length_of-period : (k : ℤ) → length_of (k +ℤ pos 4800) ≡ length_of k
length_of-period k =
    let year : year_of (k +ℤ pos 4800) ≡ year_of k +ℤ pos 400 = omega (arith, signed_arith) in
    let place : int_rem_euclid (k +ℤ pos 4800) (pos 12) ≡ int_rem_euclid k (pos 12) = omega (arith, signed_arith) in
    ap (λ leap. days_of_month leap (place_of (k +ℤ pos 4800))) (ap is_leap year ∙ is_leap-period (year_of k))
    ∙ ap (λ r. days_of_month (is_leap (year_of k)) (unsigned_abs r)) place

-- ---- the years from 2000 on, by the day counts of jiff_core

is_leap-same : (n : ℕ) → is_leap (pos n) ≡ is_leap_year (pos n)
is_leap-same n = grind (arith, nat_tests)

pub same_tests : (leap : Bool) (place : ℕ) → days_of_month leap place ≡ cond (nat_eq (place + 1) 2) (cond leap 29 28) (cond (nat_eq (place + 1) 4 || nat_eq (place + 1) 6 || nat_eq (place + 1) 9 || nat_eq (place + 1) 11) 30 31)
same_tests leap place = grind (arith, nat_tests)

days_of_month-same : (n place : ℕ) → days_of_month (is_leap (pos n)) place ≡ days_in_month (pos n) (place + 1)
days_of_month-same n place = ap (λ leap. days_of_month leap place) (is_leap-same n) ∙ same_tests (is_leap_year (pos n)) place

pub length_of-same : (n : ℕ) → length_of (pos n) ≡ days_in_month (pos (2000 + n / 12)) (n % 12 + 1)
length_of-same n = days_of_month-same (2000 + n / 12) (n % 12)

-- the day count of the first day of month n
abbrev first_day : ℕ → ℕ
first_day n = day_count (pos (2000 + n / 12)) (n % 12 + 1) 1

new_year : (n : ℕ) → n % 12 ≡ 11 → first_day (suc n) ≡ first_day n + days_in_month (pos (2000 + n / 12)) (n % 12 + 1)
new_year n last =
    let year : suc n / 12 ≡ suc (n / 12) = omega arith in
    let place : suc n % 12 ≡ 0 = omega arith in
    let next : pos (2000 + suc (n / 12)) ≡ pos (2000 + n / 12) +ℤ pos 1 = omega (arith, signed_arith) in
    let begins = day_count-next_year (pos (2000 + n / 12)) (pos (2000 + suc (n / 12))) (omega (arith, signed_arith)) next in
    rw (year, place, last) (omega (arith, begins, day_count-last_of_year (pos (2000 + n / 12)), day_count-day (pos (2000 + n / 12)) 12 31 1 (omega arith) (omega arith)))

within_year : (n : ℕ) → n % 12 < 11 → first_day (suc n) ≡ first_day n + days_in_month (pos (2000 + n / 12)) (n % 12 + 1)
within_year n before =
    let year : suc n / 12 ≡ n / 12 = omega arith in
    let place : suc n % 12 ≡ n % 12 + 1 = omega arith in
    rw (year, place) (day_count-next_month (pos (2000 + n / 12)) (n % 12 + 1) (omega arith))

first_day-next : (n : ℕ) → first_day (suc n) ≡ first_day n + length_of (pos n)
first_day-next n =
    elim (cases_order (n % 12) 11) [
      | inr (inl lt) ↦ within_year n lt ∙ ap (λ d. first_day n + d) (sym (length_of-same n))
      | inl last ↦ new_year n last ∙ ap (λ d. first_day n + d) (sym (length_of-same n))
      | inr (inr gt) ↦ absurd (omega arith)
    ]

pub days_after-first_day : (n : ℕ) → days_after n + day_count (pos 2000) 1 1 ≡ first_day n
unfolding days_after
days_after-first_day zero = omega arith
days_after-first_day (suc n) = omega (arith, days_after-first_day n, first_day-next n)

pub day_count-2000 : day_count (pos 2000) 1 1 ≡ 4_382_910
day_count-2000 = day_count-early (pos 2000) 11999 1 1 refl (omega arith) (omega arith) (omega arith)

pub day_count-2399 : day_count (pos 2399) 1 1 ≡ 4_528_642
day_count-2399 = day_count-early (pos 2399) 12398 1 1 refl (omega arith) (omega arith) (omega arith)

day_count-2400 : day_count (pos 2400) 1 1 ≡ 4_529_007
day_count-2400 = day_count-early (pos 2400) 12399 1 1 refl (omega arith) (omega arith) (omega arith)

pub days_after-cycle : days_after 4800 ≡ 146097
days_after-cycle =
    let link : days_after 4800 + day_count (pos 2000) 1 1 ≡ day_count (pos 2400) 1 1 = days_after-first_day 4800 in
    omega (arith, link, day_count-2000, day_count-2400)

-- ---- 400 years have 146,097 days, from any month on

abbrev IsPeriodic : ℤ → Type 0
IsPeriodic k = days_to (k +ℤ pos 4800) ≡ days_to k +ℤ pos 146097

swapped : (k : ℤ) → (k +ℤ pos 1) +ℤ pos 4800 ≡ (k +ℤ pos 4800) +ℤ pos 1
swapped k = omega (arith, signed_arith)

next_moved : (k : ℤ) → days_to ((k +ℤ pos 1) +ℤ pos 4800) ≡ days_to (k +ℤ pos 4800) +ℤ pos (length_of k)
next_moved k = ap days_to (swapped k) ∙ days_to-next (k +ℤ pos 4800) ∙ ap (λ n. days_to (k +ℤ pos 4800) +ℤ pos n) (length_of-period k)

periodic-forth : (k : ℤ) → IsPeriodic k → IsPeriodic (k +ℤ pos 1)
periodic-forth k h =
    let moved : days_to ((k +ℤ pos 1) +ℤ pos 4800) ≡ days_to (k +ℤ pos 4800) +ℤ pos (length_of k) = next_moved k in
    let here : days_to (k +ℤ pos 1) ≡ days_to k +ℤ pos (length_of k) = days_to-next k in
    omega (arith, signed_arith)

periodic-back : (k : ℤ) → IsPeriodic (k +ℤ pos 1) → IsPeriodic k
periodic-back k h =
    let moved : days_to ((k +ℤ pos 1) +ℤ pos 4800) ≡ days_to (k +ℤ pos 4800) +ℤ pos (length_of k) = next_moved k in
    let here : days_to (k +ℤ pos 1) ≡ days_to k +ℤ pos (length_of k) = days_to-next k in
    omega (arith, signed_arith)

pub days_to-period : (k : ℤ) → days_to (k +ℤ pos 4800) ≡ days_to k +ℤ pos 146097
unfolding days_to days_after
days_to-period (pos zero) = ap pos days_after-cycle
days_to-period (pos (suc n)) =
    let next : pos n +ℤ pos 1 ≡ pos (suc n) = omega (arith, signed_arith) in
    subst IsPeriodic next (periodic-forth (pos n) (days_to-period (pos n)))
days_to-period (negsuc zero) = periodic-back (negsuc 0) (ap pos days_after-cycle)
days_to-period (negsuc (suc n)) =
    let next : negsuc (suc n) +ℤ pos 1 ≡ negsuc n = omega (arith, signed_arith) in
    periodic-back (negsuc (suc n)) (subst IsPeriodic (sym next) (days_to-period (negsuc n)))

-- so j times 400 years have j times as many days
pub days_to-periods : (k j : ℤ) → days_to (k +ℤ (j *ℤ pos 4800)) ≡ days_to k +ℤ (j *ℤ pos 146097)
days_to-periods k (pos zero) =
    let none : k +ℤ (pos 0 *ℤ pos 4800) ≡ k = omega (arith, signed_arith) in
    ap days_to none ∙ omega (arith, signed_arith)
days_to-periods k (pos (suc n)) =
    let next : k +ℤ (pos (suc n) *ℤ pos 4800) ≡ (k +ℤ (pos n *ℤ pos 4800)) +ℤ pos 4800 = omega (arith, signed_arith) in
    let step : days_to ((k +ℤ (pos n *ℤ pos 4800)) +ℤ pos 4800) ≡ days_to (k +ℤ (pos n *ℤ pos 4800)) +ℤ pos 146097 = days_to-period (k +ℤ (pos n *ℤ pos 4800)) in
    let before : days_to (k +ℤ (pos n *ℤ pos 4800)) ≡ days_to k +ℤ (pos n *ℤ pos 146097) = days_to-periods k (pos n) in
    ap days_to next ∙ omega (arith, signed_arith)
days_to-periods k (negsuc zero) =
    let next : (k +ℤ (negsuc 0 *ℤ pos 4800)) +ℤ pos 4800 ≡ k = omega (arith, signed_arith) in
    let step : days_to ((k +ℤ (negsuc 0 *ℤ pos 4800)) +ℤ pos 4800) ≡ days_to (k +ℤ (negsuc 0 *ℤ pos 4800)) +ℤ pos 146097 = days_to-period (k +ℤ (negsuc 0 *ℤ pos 4800)) in
    let back : days_to ((k +ℤ (negsuc 0 *ℤ pos 4800)) +ℤ pos 4800) ≡ days_to k = ap days_to next in
    omega (arith, signed_arith)
days_to-periods k (negsuc (suc n)) =
    let next : (k +ℤ (negsuc (suc n) *ℤ pos 4800)) +ℤ pos 4800 ≡ k +ℤ (negsuc n *ℤ pos 4800) = omega (arith, signed_arith) in
    let step : days_to ((k +ℤ (negsuc (suc n) *ℤ pos 4800)) +ℤ pos 4800) ≡ days_to (k +ℤ (negsuc (suc n) *ℤ pos 4800)) +ℤ pos 146097 = days_to-period (k +ℤ (negsuc (suc n) *ℤ pos 4800)) in
    let back : days_to ((k +ℤ (negsuc (suc n) *ℤ pos 4800)) +ℤ pos 4800) ≡ days_to (k +ℤ (negsuc n *ℤ pos 4800)) = ap days_to next in
    let before : days_to (k +ℤ (negsuc n *ℤ pos 4800)) ≡ days_to k +ℤ (negsuc n *ℤ pos 146097) = days_to-periods k (negsuc n) in
    omega (arith, signed_arith)
