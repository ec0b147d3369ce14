-- The days and months of the years 2000 to 2399, as the dates of jiff have them.
use Rattle.std.proofs.Common.{◌≡◌, ℕ, ◌+◌, ◌-◌, ◌*◌, ◌/◌, ◌%◌, ◌<◌, ◌≤◌, sym, ap, subst, ◌∙◌, arith, ℤ, pos, ◌+ℤ◌, ◌-ℤ◌, ◌*ℤ◌, ◌<ℤ◌, ◌≤ℤ◌, to_z, of_z, w8, w16, w64, unsigned_abs, int_div, int_rem}
use Rattle.std.proofs.lemmas.Int.{by_lt_z, ints}
use Rattle.jiff_core.specs.Calendar.{days_in_month, day_count, IsDate, IsEpochDay}
use Rattle.jiff_core.specs.Date.{epoch_day, IsYmd}
use Rattle.jiff_core.specs.declared.civil.date.Date.{Date}
use Rattle.jiff_core.proofs.SignedLemmas.{signed_arith}
use Rattle.jiff_core.proofs.DateLemmas.{civil}
use Rattle.jiff_core.proofs.CalendarLemmas.{day_count-day_of_year, day_count-day, day_count-lt_year, day_count-later_year, days_from_civil-day_count, days_in_month_bounds}
use Rattle.cal_bucket.specs.Calendar.{length_of, days_after, days_to, start_of, IsMonthOf}
use Rattle.cal_bucket.specs.Cycles.{IsInCycle}
use Rattle.cal_bucket.proofs.CalendarLaws.{days_to-pos, days_to-next, days_after-first_day, days_after-zero, length_of-same, day_count-2000, day_count-2399, days_after-cycle, days_to-rises}
use borrow.Author.Differences.{up, down}

-- the month of a date in these years, and that it holds the day
pub record Found (d : Date) (day : ℕ) : Type 0 where
  pub month : ℕ
  pub within : month < 4800
  pub year_is : d.year ≡ pos (2000 + month / 12)
  pub place_is : d.month ≡ month % 12 + 1
  pub at_or_below : days_to (pos month) ≤ℤ pos day
  pub end_above : pos day <ℤ days_to (pos month +ℤ pos 1)

-- the date that is this many days after the first of January 2000
abbrev IsDayOfCycle : Date → ℕ → Type 0
IsDayOfCycle d day = (day < 146097) × (day_count d.year d.month d.day ≡ 4_382_910 + day)

day_of_cycle : (d : Date) (day : ℕ) → day < 146097 → epoch_day d ≡ pos (10957 + day) → IsDayOfCycle d day
day_of_cycle d day h e =
    let is = days_from_civil-day_count d.year d.month d.day in
    (h, omega (arith, signed_arith))

from_2000 : (d : Date) (day : ℕ) → IsDayOfCycle d day → pos 2000 ≤ℤ d.year
from_2000 d day h =
    by_lt_z d.year (pos 2000)
    (λ lt. let before = day_count-lt_year d.year d.month d.day (pos 2000) 1 1 (civil d) (omega arith) lt in absurd (omega (arith, before, day_count-2000, h.1)))
    (λ ge. ge)

to_2399 : (d : Date) (day : ℕ) → IsDayOfCycle d day → d.year ≤ℤ pos 2399
to_2399 d day h =
    by_lt_z (pos 2399) d.year
    (λ lt. let after : day_count (pos 2399) 1 1 + 365 ≤ day_count d.year 1 1 = day_count-later_year (pos 2399) d.year (omega (arith, signed_arith)) lt in
    absurd (omega (arith, after, day_count-2399, h.0, h.1, day_count-day_of_year d.year d.month d.day d.day_in.0, d.day_in.0)))
    (λ le. le)

-- from the year and the month of the date
found_at : (d : Date) (day y : ℕ) → IsDayOfCycle d day → d.year ≡ pos (2000 + y) → y < 400 → Found d day
found_at d day y h year below =
    let n = y * 12 + (d.month - 1) in
    let month_in : (1 ≤ d.month) × (d.month ≤ 12) = d.month_in in
    let year_of_n : n / 12 ≡ y = omega arith in
    let place_of_n : n % 12 + 1 ≡ d.month = omega arith in
    let year_is : d.year ≡ pos (2000 + n / 12) = year ∙ ap (λ x. pos (2000 + x)) (sym year_of_n) in
    let first : days_after n + day_count (pos 2000) 1 1 ≡ day_count d.year d.month 1
    = days_after-first_day n ∙ ap (λ m. day_count (pos (2000 + n / 12)) m 1) place_of_n ∙ ap (λ z. day_count z d.month 1) (sym year_is) in
    let length : length_of (pos n) ≡ days_in_month d.year d.month
    = length_of-same n ∙ ap (λ m. days_in_month (pos (2000 + n / 12)) m) place_of_n ∙ ap (λ z. days_in_month z d.month) (sym year_is) in
    let counted : day_count d.year d.month d.day + 1 ≡ day_count d.year d.month 1 + d.day = day_count-day d.year d.month d.day 1 d.day_in.0 (omega arith) in
    let last : d.day ≤ days_in_month d.year d.month = d.day_in.1 in
    let some : 1 ≤ d.day = d.day_in.0 in
    let day_is : day_count d.year d.month d.day ≡ 4_382_910 + day = h.1 in
    let start : days_to (pos n) ≡ pos (days_after n) = days_to-pos n in
    let next : days_to (pos n +ℤ pos 1) ≡ days_to (pos n) +ℤ pos (length_of (pos n)) = days_to-next (pos n) in
    let begin : days_after n + d.day ≡ day + 1 = omega (arith, first, counted, day_is, day_count-2000) in
    let enough : d.day ≤ length_of (pos n) = omega (arith, length, last) in
    record {
      month = n;
      within = omega arith;
      year_is = year_is;
      place_is = sym place_of_n;
      at_or_below = omega (arith, signed_arith, start, begin, some);
      end_above = omega (arith, signed_arith, start, next, begin, enough);
    }

month_found : (d : Date) (day : ℕ) → day < 146097 → epoch_day d ≡ pos (10957 + day) → Found d day
month_found d day h e =
    let is = day_of_cycle d day h e in
    let low : pos 2000 ≤ℤ d.year = from_2000 d day is in
    let high : d.year ≤ℤ pos 2399 = to_2399 d day is in
    found_at d day (up d.year - (down d.year + 2000)) is (omega (arith, signed_arith)) (omega (arith, signed_arith))

-- a month that holds the day of a second holds the second
pub month_of_its_day : (second day : ℕ) (m : ℤ) → day ≡ second / 86400 → days_to m ≤ℤ pos day → pos day <ℤ days_to (m +ℤ pos 1) → IsMonthOf (pos 946684800 +ℤ pos second) m
month_of_its_day second day m is at_or_below end_above = record {
  at_or_below = omega (arith, signed_arith);
  end_above = omega (arith, signed_arith);
}

-- ---- the date of a second

-- a date that is the first of month n
first_of_month : (d : Date) (n : ℕ) → d.year ≡ pos (2000 + n / 12) → d.month ≡ n % 12 + 1 → d.day ≡ 1 → epoch_day d ≡ pos (10957 + days_after n)
first_of_month d n year month day =
    let is = days_from_civil-day_count d.year d.month d.day in
    let first : day_count d.year d.month d.day ≡ days_after n + day_count (pos 2000) 1 1
    = ap (λ x. day_count d.year d.month x) day ∙ ap (λ m. day_count d.year m 1) month ∙ ap (λ y. day_count y (n % 12 + 1) 1) year ∙ sym (days_after-first_day n) in
    omega (arith, signed_arith, is, first, day_count-2000)

-- and the first date
first_of_all : (d : Date) → IsYmd (pos 2000) (pos 1) (pos 1) d → epoch_day d ≡ pos 10957
first_of_all d ymd =
    let month : d.month ≡ 1 = omega (arith, signed_arith, ymd.1) in
    let day : d.day ≡ 1 = omega (arith, signed_arith, ymd.2) in
    first_of_month d 0 ymd.0 month day ∙ ap (λ n. pos (10957 + n)) days_after-zero

whole_days : (second nanos : ℤ) → pos 0 ≤ℤ second → second <ℤ pos 12622780800 → nanos ≡ second *ℤ pos 1_000_000_000 → int_div nanos (pos 86_400_000_000_000) ≡ pos (unsigned_abs second / 86400)
whole_days second nanos low high is =
    let here : second ≡ pos (unsigned_abs second) = omega (arith, ints) in
    let all : nanos ≡ pos (unsigned_abs second * 1_000_000_000) = is ∙ ap (λ z. z *ℤ pos 1_000_000_000) here in
    ap (λ z. int_div z (pos 86_400_000_000_000)) all ∙ ap pos (days_of (unsigned_abs second))
  where
    days_of : (s : ℕ) → (s * 1_000_000_000) / 86_400_000_000_000 ≡ s / 86400
    days_of s = omega arith

-- the date that jiff finds for a second is the one of its day
pub date_found : (start d : Date) (second nanos : ℤ) → pos 0 ≤ℤ second → second <ℤ pos 12622780800
    → IsYmd (pos 2000) (pos 1) (pos 1) start → nanos ≡ second *ℤ pos 1_000_000_000
    → (IsEpochDay (epoch_day start +ℤ int_div nanos (pos 86_400_000_000_000)) → epoch_day d ≡ epoch_day start +ℤ int_div nanos (pos 86_400_000_000_000))
    → Found d (unsigned_abs second / 86400)
date_found start d second nanos low high ymd is fits =
    let first : epoch_day start ≡ pos 10957 = first_of_all start ymd in
    let days : int_div nanos (pos 86_400_000_000_000) ≡ pos (unsigned_abs second / 86400) = whole_days second nanos low high is in
    let few : unsigned_abs second / 86400 < 146097 = omega (arith, ints) in
    let found : epoch_day d ≡ epoch_day start +ℤ int_div nanos (pos 86_400_000_000_000) = fits (omega (arith, ints), omega (arith, ints)) in
    month_found d (unsigned_abs second / 86400) few (omega (arith, ints))

-- the code's number of the month
number_of_month : (y from_year m from_month : ℤ) (n : ℕ) → n < 4800 → from_year ≡ to_z w16 (of_z w16 y) → y ≡ pos (2000 + n / 12) → from_month ≡ to_z w8 (of_z w8 m) → m ≡ pos (n % 12 + 1)
    → to_z w64 (of_z w64 (to_z w64 (of_z w64 (to_z w64 (of_z w64 (to_z w64 (of_z w64 from_year) -ℤ pos 2000)) *ℤ pos 12)) +ℤ to_z w64 (of_z w64 (to_z w64 (of_z w64 from_month) -ℤ pos 1)))) ≡ pos n
number_of_month y from_year m from_month n h year year_is month month_is = omega (arith, ints)

-- ---- the first date of a month

-- the code's year and its place in the year, without their casts
pub code_year : (month : ℤ) → IsInCycle month → to_z w16 (of_z w16 (to_z w64 (of_z w64 (pos 2000 +ℤ to_z w64 (of_z w64 (int_div (to_z w64 (of_z w64 month)) (pos 12))))))) ≡ pos 2000 +ℤ int_div month (pos 12)
code_year month h =
    let low : pos 0 ≤ℤ month = h.0 in
    let high : month <ℤ pos 4800 = h.1 in
    omega (arith, ints)

pub code_place : (month : ℤ) → IsInCycle month → to_z w8 (of_z w8 (to_z w64 (of_z w64 (to_z w64 (of_z w64 (int_rem (to_z w64 (of_z w64 month)) (pos 12))) +ℤ pos 1)))) ≡ int_rem month (pos 12) +ℤ pos 1
code_place month h =
    let low : pos 0 ≤ℤ month = h.0 in
    let high : month <ℤ pos 4800 = h.1 in
    omega (arith, ints)

pub first_is_date : (month year place : ℤ) → IsInCycle month → year ≡ pos 2000 +ℤ int_div month (pos 12) → place ≡ int_rem month (pos 12) +ℤ pos 1 → IsDate year place (pos 1)
first_is_date month year place h year_is place_is =
    let bounds = days_in_month_bounds year (unsigned_abs place) in
    let low : pos 0 ≤ℤ month = h.0 in
    let high : month <ℤ pos 4800 = h.1 in
    ((omega (arith, ints), omega (arith, ints)), (omega (arith, ints), omega (arith, ints)), (omega (arith, ints), omega (arith, ints, bounds)))

inside_cycle : (n : ℕ) → n < 4800 → days_after n < 146097
inside_cycle n h =
    let rises : days_to (pos n) <ℤ days_to (pos 4800) = days_to-rises (pos n) (pos 4800) (omega (arith, signed_arith)) in
    let here : days_to (pos n) ≡ pos (days_after n) = days_to-pos n in
    let end : days_to (pos 4800) ≡ pos (days_after 4800) = days_to-pos 4800 in
    omega (arith, signed_arith, days_after-cycle)

-- the second in which a month starts
pub record StartsAt (month second : ℤ) : Type 0 where
  pub is : start_of month ≡ pos 946684800 +ℤ second
  pub low : pos 0 ≤ℤ second
  pub high : second <ℤ pos 12622780800

pub start_found : (first start : Date) (month year_of_it place nanos second : ℤ) → IsInCycle month
    → year_of_it ≡ pos 2000 +ℤ int_div month (pos 12) → place ≡ int_rem month (pos 12) +ℤ pos 1
    → IsYmd year_of_it place (pos 1) first → IsYmd (pos 2000) (pos 1) (pos 1) start
    → nanos ≡ (epoch_day first -ℤ epoch_day start) *ℤ pos 86_400_000_000_000 → second ≡ int_div nanos (pos 1_000_000_000)
    → StartsAt month second
start_found first start month year_of_it place_of_it nanos second h year_is place_is ymd ymd_start nanos_is second_is =
    let n = unsigned_abs month in
    let low : pos 0 ≤ℤ month = h.0 in
    let high : month <ℤ pos 4800 = h.1 in
    let is : month ≡ pos n = omega (arith, ints) in
    let below : n < 4800 = omega (arith, ints) in
    let year : first.year ≡ pos (2000 + n / 12) = ymd.0 ∙ year_is ∙ omega (arith, ints) in
    let place : first.month ≡ n % 12 + 1 = omega (arith, ints, ymd.1, place_is) in
    let day : first.day ≡ 1 = omega (arith, ints, ymd.2) in
    let counted : epoch_day first ≡ pos (10957 + days_after n) = first_of_month first n year place day in
    let zero_day : epoch_day start ≡ pos 10957 = first_of_all start ymd_start in
    let bound : days_after n < 146097 = inside_cycle n below in
    let begin : days_to month ≡ pos (days_after n) = ap days_to is ∙ days_to-pos n in
    let value : second ≡ pos (86400 * days_after n) = seconds_of (epoch_day first) (epoch_day start) nanos second (days_after n) counted zero_day bound nanos_is second_is in
    record { is = omega (arith, ints); low = omega (arith, ints); high = omega (arith, ints) }
  where
    seconds_of : (a b nanos second : ℤ) (days : ℕ) → a ≡ pos (10957 + days) → b ≡ pos 10957 → days < 146097 → nanos ≡ (a -ℤ b) *ℤ pos 86_400_000_000_000 → second ≡ int_div nanos (pos 1_000_000_000) → second ≡ pos (86400 * days)
    seconds_of a b nanos second days ha hb bound nanos_is second_is =
        let gap : a -ℤ b ≡ pos days = omega (arith, ints) in
        let all : nanos ≡ pos days *ℤ pos 86_400_000_000_000 = nanos_is ∙ ap (λ z. z *ℤ pos 86_400_000_000_000) gap in
        omega (arith, ints)

-- ---- what the code computes, without its casts

-- the code's number of the month is that of the date that jiff found
pub record CodeMonth (second number : ℤ) : Type 0 where
  pub within : IsInCycle number
  pub month : IsMonthOf (pos 946684800 +ℤ second) number

pub code_month : (d : Date) (second y from_year m from_month : ℤ) → pos 0 ≤ℤ second → Found d (unsigned_abs second / 86400)
    → y ≡ d.year → from_year ≡ to_z w16 (of_z w16 y) → m ≡ pos d.month → from_month ≡ to_z w8 (of_z w8 m)
    → CodeMonth second (to_z w64 (of_z w64 (to_z w64 (of_z w64 (to_z w64 (of_z w64 (to_z w64 (of_z w64 from_year) -ℤ pos 2000)) *ℤ pos 12)) +ℤ to_z w64 (of_z w64 (to_z w64 (of_z w64 from_month) -ℤ pos 1)))))
code_month d second y from_year m from_month low found y_is from_year_is m_is from_month_is =
    let same : pos (unsigned_abs second) ≡ second = omega (arith, ints) in
    let month = month_of_its_day (unsigned_abs second) (unsigned_abs second / 86400) (pos found.month) (omega arith) found.at_or_below found.end_above in
    let is = number_of_month y from_year m from_month found.month found.within from_year_is (y_is ∙ found.year_is) from_month_is (m_is ∙ ap pos found.place_is) in
    subst (CodeMonth second) (sym is) (record {
      within = (omega (arith, ints), omega (arith, ints, found.within));
      month = subst (λ s. IsMonthOf (pos 946684800 +ℤ s) (pos found.month)) same month;
    })
