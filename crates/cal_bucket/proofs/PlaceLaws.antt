-- The place of a time's bucket and the start of a bucket, as the code finds them.
use Rattle.std.proofs.Common.{◌≡◌, ℕ, zero, suc, Bool, true, false, cond, nat_le, refl, unsigned_abs, ◌/◌, ◌+◌, ◌*◌, ◌^◌, ◌<◌, ◌≤◌, sym, ap, subst, ◌∙◌, arith, ℤ, pos, negsuc, ◌+ℤ◌, ◌-ℤ◌, ◌*ℤ◌, ◌<ℤ◌, ◌≤ℤ◌, FitsSigned, to_z, of_z, to_z-of_z, w64, IsTrue}
use Rattle.std.proofs.lemmas.Int.{by_lt_z, ints}
use Rattle.std.specs.Int.{int_div_euclid, int_rem_euclid}
use Rattle.std.proofs.lemmas.Bool.Decides.{nat_tests}
use Rattle.jiff_core.proofs.SignedLemmas.{signed_arith}
use Rattle.ts_bucket.specs.Bucket.{is_time, min_time, max_time}
use Rattle.cal_bucket.specs.Calendar.{days_after, days_to, start_of, IsMonthOf, IsNearMonth}
use Rattle.cal_bucket.specs.declared.plans.CalUnit.{CalUnit}
use Rattle.cal_bucket.specs.declared.plans.CalUnit.TheVariants.{Day, Week, Month, Year}
use Rattle.cal_bucket.specs.Buckets.{monday, seconds_start, months_start, start_at, Holds, HoldsATime}
use Rattle.cal_bucket.specs.Places.{last_month, month_at, place_at}
use Rattle.cal_bucket.specs.Laws.{EachHasAMonth, NamesAreOfBuckets}
use Rattle.cal_bucket.proofs.CalendarLaws.{days_to-pos, days_to-later, days_after-zero, days_after-cycle}
use Rattle.cal_bucket.proofs.CycleLaws.{month_of_its_day}
use Rattle.cal_bucket.proofs.MonthLaws.{time_bounds, Cut, cut_of, month_moved}
use Rattle.cal_bucket.proofs.BucketLaws.{next_multiple, quotient_bounds, start_of-not_above, start_at-rises, one_holds}

from_monday : (t a b : ℤ) → a ≤ℤ (t -ℤ pos 946857600) → (t -ℤ pos 946857600) <ℤ b → ((monday +ℤ a) ≤ℤ t) × (t <ℤ (monday +ℤ b))
from_monday t a b h g = (omega (arith, ints), omega (arith, ints))

pub seconds_held : (seconds : ℕ) (t p by : ℤ) → 1 ≤ seconds → seconds < 2 ^ 32 → IsTrue (is_time t) → by ≡ pos seconds
    → p ≡ int_div_euclid (to_z w64 (of_z w64 (to_z w64 (of_z w64 t) -ℤ pos 946857600))) (to_z w64 (of_z w64 by)) → Holds (seconds_start seconds) t p
seconds_held seconds t p by some few time by_is e =
    let range = time_bounds t time in
    let low : min_time ≤ℤ t = range.0 in
    let high : t ≤ℤ max_time = range.1 in
    let above : to_z w64 (of_z w64 (to_z w64 (of_z w64 t) -ℤ pos 946857600)) ≡ t -ℤ pos 946857600 = omega (arith, ints) in
    let below : to_z w64 (of_z w64 by) ≡ pos seconds = omega (arith, ints) in
    let is : p ≡ int_div_euclid (t -ℤ pos 946857600) (pos seconds) = e ∙ ap (λ a. int_div_euclid a (to_z w64 (of_z w64 by))) above ∙ ap (int_div_euclid (t -ℤ pos 946857600)) below in
    let bounds = quotient_bounds (t -ℤ pos 946857600) p seconds some is in
    let moved = from_monday t (p *ℤ pos seconds) ((p +ℤ pos 1) *ℤ pos seconds) bounds.0 bounds.1 in
    record { at_or_below = moved.0; end_above = moved.1 }

months_between : (months : ℕ) (t k p : ℤ) → 0 < months → IsMonthOf t k → p ≡ int_div_euclid k (pos months) → Holds (months_start months) t p
months_between months t k p some month is =
    let bounds = quotient_bounds k p months some is in
    let first : months_start months p ≤ℤ start_of k = start_of-not_above (p *ℤ pos months) k bounds.0 in
    let last : start_of (k +ℤ pos 1) ≤ℤ months_start months (p +ℤ pos 1) = start_of-not_above (k +ℤ pos 1) ((p +ℤ pos 1) *ℤ pos months) (next_le k ((p +ℤ pos 1) *ℤ pos months) bounds.1) in
    record { at_or_below = up_to (months_start months p) (start_of k) t first month.at_or_below; end_above = below_end t (start_of (k +ℤ pos 1)) (months_start months (p +ℤ pos 1)) month.end_above last }
  where
    next_le : (a b : ℤ) → a <ℤ b → (a +ℤ pos 1) ≤ℤ b
    next_le a b h = omega (arith, ints)

    up_to : (a b c : ℤ) → a ≤ℤ b → b ≤ℤ c → a ≤ℤ c
    up_to a b c h g = omega (arith, ints)

    below_end : (a b c : ℤ) → a <ℤ b → b ≤ℤ c → a <ℤ c
    below_end a b c h g = omega (arith, ints)

pub months_held : (months : ℕ) (t k p by : ℤ) → 1 ≤ months → months < 2 ^ 32 → FitsSigned w64 k → IsMonthOf t k → by ≡ pos months
    → p ≡ int_div_euclid (to_z w64 (of_z w64 k)) (to_z w64 (of_z w64 by)) → Holds (months_start months) t p
months_held months t k p by some few fits month by_is e =
    let back : to_z w64 (of_z w64 k) ≡ k = to_z-of_z fits in
    let below : to_z w64 (of_z w64 by) ≡ pos months = omega (arith, ints) in
    months_between months t k p some month (e ∙ ap (λ a. int_div_euclid a (to_z w64 (of_z w64 by))) back ∙ ap (int_div_euclid k) below)

-- ---- months that start among the times are far from the ends of 64 bits

not_late : (k : ℤ) → start_of k ≤ℤ max_time → k ≤ℤ max_time
not_late (pos n) h =
    let later : (days_to (pos 0) +ℤ pos n) ≤ℤ days_to (pos 0 +ℤ pos n) = days_to-later (pos 0) n in
    let same : pos 0 +ℤ pos n ≡ pos n = omega (arith, ints) in
    let is : days_to (pos 0 +ℤ pos n) ≡ days_to (pos n) = ap days_to same in
    let first : days_to (pos 0) ≡ pos 0 = days_to-pos 0 ∙ ap pos days_after-zero in
    omega (arith, signed_arith)
not_late (negsuc n) h = omega (arith, ints)

-- far inside the range of times
abbrev far_below : ℤ
far_below = negsuc (2 ^ 61 + 2 ^ 30)

not_early : (k : ℤ) → min_time <ℤ start_of k → far_below ≤ℤ k
not_early (pos n) h = omega (arith, ints)
not_early (negsuc n) h =
    let later : (days_to (negsuc n) +ℤ pos (suc n)) ≤ℤ days_to (negsuc n +ℤ pos (suc n)) = days_to-later (negsuc n) (suc n) in
    let same : negsuc n +ℤ pos (suc n) ≡ pos 0 = omega (arith, signed_arith) in
    let is : days_to (negsuc n +ℤ pos (suc n)) ≡ days_to (pos 0) = ap days_to same in
    let first : days_to (pos 0) ≡ pos 0 = days_to-pos 0 ∙ ap pos days_after-zero in
    omega (arith, signed_arith)

-- what the code multiplies
pub record PlacedMonth (months : ℕ) (place by : ℤ) : Type 0 where
  pub fits : FitsSigned w64 (to_z w64 (of_z w64 place) *ℤ to_z w64 (of_z w64 by))
  pub is : to_z w64 (of_z w64 (to_z w64 (of_z w64 place) *ℤ to_z w64 (of_z w64 by))) ≡ place *ℤ pos months
  pub near : IsNearMonth (place *ℤ pos months)

bounded : (k : ℤ) (months : ℕ) → months ≤ 14400 → start_of k ≤ℤ max_time → min_time <ℤ start_of (k +ℤ pos months) → FitsSigned w64 k × IsNearMonth k
bounded k months few high low =
    let late : k ≤ℤ max_time = not_late k high in
    let early : far_below ≤ℤ (k +ℤ pos months) = not_early (k +ℤ pos months) low in
    let further : start_of (k +ℤ pos months) ≤ℤ start_of (k +ℤ pos 14401) = start_of-not_above (k +ℤ pos months) (k +ℤ pos 14401) (omega (arith, ints)) in
    (omega (arith, ints), record { low = chained min_time (start_of (k +ℤ pos months)) (start_of (k +ℤ pos 14401)) low further; high = high })
  where
    chained : (a b c : ℤ) → a <ℤ b → b ≤ℤ c → a <ℤ c
    chained a b c h g = omega (arith, ints)

pub placed_month : (months : ℕ) (place by : ℤ) → 1 ≤ months → months ≤ 14400 → FitsSigned w64 place → HoldsATime (months_start months) place → by ≡ pos months → PlacedMonth months place by
placed_month months place by some few fits time by_is =
    let next : months_start months (place +ℤ pos 1) ≡ start_of ((place *ℤ pos months) +ℤ pos months) = ap start_of (next_multiple place months) in
    let ends : min_time <ℤ start_of ((place *ℤ pos months) +ℤ pos months) = subst (λ z. min_time <ℤ z) next time.ends in
    let found = bounded (place *ℤ pos months) months few time.starts ends in
    let back : to_z w64 (of_z w64 place) ≡ place = to_z-of_z fits in
    let below : to_z w64 (of_z w64 by) ≡ pos months = omega (arith, ints) in
    let product : to_z w64 (of_z w64 place) *ℤ to_z w64 (of_z w64 by) ≡ place *ℤ pos months = ap (λ z. z *ℤ to_z w64 (of_z w64 by)) back ∙ ap (λ z. place *ℤ z) below in
    record {
      fits = subst (FitsSigned w64) (sym product) found.0;
      is = ap (λ z. to_z w64 (of_z w64 z)) product ∙ to_z-of_z found.0;
      near = found.1;
    }

-- what the code multiplies for days and weeks
pub record PlacedSeconds (seconds : ℕ) (place by : ℤ) : Type 0 where
  pub fits : FitsSigned w64 (to_z w64 (of_z w64 place) *ℤ to_z w64 (of_z w64 by))
  pub sum_fits : FitsSigned w64 (pos 946857600 +ℤ to_z w64 (of_z w64 (to_z w64 (of_z w64 place) *ℤ to_z w64 (of_z w64 by))))
  pub is : to_z w64 (of_z w64 (pos 946857600 +ℤ to_z w64 (of_z w64 (to_z w64 (of_z w64 place) *ℤ to_z w64 (of_z w64 by))))) ≡ seconds_start seconds place

seconds_facts : (seconds : ℕ) (k code : ℤ) → seconds < 2 ^ 32 → code ≡ k → (monday +ℤ k) ≤ℤ max_time → min_time <ℤ (monday +ℤ (k +ℤ pos seconds)) → FitsSigned w64 code × FitsSigned w64 (pos 946857600 +ℤ to_z w64 (of_z w64 code)) × (to_z w64 (of_z w64 (pos 946857600 +ℤ to_z w64 (of_z w64 code))) ≡ monday +ℤ k)
seconds_facts seconds k code few e high low = (omega (arith, ints), omega (arith, ints), omega (arith, ints))

pub placed_seconds : (seconds : ℕ) (place by : ℤ) → seconds < 2 ^ 32 → FitsSigned w64 place → HoldsATime (seconds_start seconds) place → by ≡ pos seconds → PlacedSeconds seconds place by
placed_seconds seconds place by few fits time by_is =
    let next : seconds_start seconds (place +ℤ pos 1) ≡ monday +ℤ ((place *ℤ pos seconds) +ℤ pos seconds) = ap (λ z. monday +ℤ z) (next_multiple place seconds) in
    let ends : min_time <ℤ (monday +ℤ ((place *ℤ pos seconds) +ℤ pos seconds)) = subst (λ z. min_time <ℤ z) next time.ends in
    let back : to_z w64 (of_z w64 place) ≡ place = to_z-of_z fits in
    let below : to_z w64 (of_z w64 by) ≡ pos seconds = omega (arith, ints) in
    let product : to_z w64 (of_z w64 place) *ℤ to_z w64 (of_z w64 by) ≡ place *ℤ pos seconds = ap (λ z. z *ℤ to_z w64 (of_z w64 by)) back ∙ ap (λ z. place *ℤ z) below in
    let facts = seconds_facts seconds (place *ℤ pos seconds) (to_z w64 (of_z w64 place) *ℤ to_z w64 (of_z w64 by)) few product time.starts ends in
    record { fits = facts.0; sum_fits = facts.1; is = facts.2 }

-- ---- places of times are in the range of times

time_between : (p : ℤ) → min_time ≤ℤ p → p ≤ℤ max_time → IsTrue (is_time p)
time_between p low high = grind (arith, ints)

grows : (a s : ℕ) → 1 ≤ s → a ≤ a * s
grows zero s h = omega arith
grows (suc a) s h = omega (arith, grows a s h)

doubles : (a s : ℕ) → 2 ≤ s → a + a ≤ a * s
doubles zero s h = omega arith
doubles (suc a) s h = omega (arith, doubles a s h)

multiple_above : (p : ℤ) (s : ℕ) → 1 ≤ s → pos 0 ≤ℤ p → p ≤ℤ (p *ℤ pos s)
multiple_above (pos a) s h some = let more : a ≤ a * s = grows a s h in omega (arith, ints, more)
multiple_above (negsuc a) s h some = absurd (omega (arith, ints))

multiple_below : (q : ℤ) (s : ℕ) → 1 ≤ s → q <ℤ pos 0 → (q *ℤ pos s) ≤ℤ q
multiple_below (pos a) s h some = absurd (omega (arith, ints))
multiple_below (negsuc a) s h some = let more : suc a ≤ suc a * s = grows (suc a) s h in omega (arith, ints, more)

double_below : (q : ℤ) (s : ℕ) → 2 ≤ s → q <ℤ pos 0 → (q *ℤ pos s) ≤ℤ (q +ℤ q)
double_below (pos a) s h some = absurd (omega (arith, ints))
double_below (negsuc a) s h some = let more : suc a + suc a ≤ suc a * s = doubles (suc a) s h in omega (arith, ints, more)

-- a place whose multiple isn't above the times isn't above them, and one whose next multiple isn't far below
-- the times isn't below them
in_range : (p : ℤ) → (pos 0 ≤ℤ p → p ≤ℤ max_time) → ((p +ℤ pos 1) <ℤ pos 0 → far_below ≤ℤ (p +ℤ pos 1)) → IsTrue (is_time p)
in_range p high low =
    by_lt_z p (pos 0)
    (λ below. by_lt_z (p +ℤ pos 1) (pos 0)
    (λ far. let bound : far_below ≤ℤ (p +ℤ pos 1) = low far in time_between p (omega (arith, ints)) (omega (arith, ints)))
    (λ near. time_between p (omega (arith, ints)) (omega (arith, ints))))
    (λ above. let bound : p ≤ℤ max_time = high above in time_between p (omega (arith, ints)) (omega (arith, ints)))

seconds_in_range : (seconds : ℕ) (t p : ℤ) → 2 ≤ seconds → IsTrue (is_time t) → Holds (seconds_start seconds) t p → IsTrue (is_time p)
seconds_in_range seconds t p some time h =
    let range = time_bounds t time in
    in_range p
    (λ above. high (p *ℤ pos seconds) h.at_or_below range.1 (multiple_above p seconds (omega arith) above))
    (λ below. low (p +ℤ pos 1) ((p +ℤ pos 1) *ℤ pos seconds) range.0 h.end_above (double_below (p +ℤ pos 1) seconds some below))
  where
    high : (a : ℤ) → (monday +ℤ a) ≤ℤ t → t ≤ℤ max_time → p ≤ℤ a → p ≤ℤ max_time
    high a start time bound = omega (arith, ints)

    low : (q a : ℤ) → min_time ≤ℤ t → t <ℤ (monday +ℤ a) → a ≤ℤ (q +ℤ q) → far_below ≤ℤ q
    low q a time end bound = omega (arith, ints)

months_in_range : (months : ℕ) (t p : ℤ) → 1 ≤ months → IsTrue (is_time t) → Holds (months_start months) t p → IsTrue (is_time p)
months_in_range months t p some time h =
    let range = time_bounds t time in
    in_range p
    (λ above. chained p (p *ℤ pos months) max_time (multiple_above p months some above) (not_late (p *ℤ pos months) (chained (months_start months p) t max_time h.at_or_below range.1)))
    (λ below. chained (far_below) ((p +ℤ pos 1) *ℤ pos months) (p +ℤ pos 1) (not_early ((p +ℤ pos 1) *ℤ pos months) (from min_time t (months_start months (p +ℤ pos 1)) range.0 h.end_above)) (multiple_below (p +ℤ pos 1) months some below))
  where
    chained : (a b c : ℤ) → a ≤ℤ b → b ≤ℤ c → a ≤ℤ c
    chained a b c h g = omega (arith, ints)

    from : (a b c : ℤ) → a ≤ℤ b → b <ℤ c → a <ℤ c
    from a b c h g = omega (arith, ints)

pub place_in_range : (unit : CalUnit) (n : ℕ) (t p : ℤ) → 1 ≤ n → IsTrue (is_time t) → Holds (start_at unit n) t p → IsTrue (is_time p)
place_in_range Day n t p some time h = seconds_in_range (n * 86400) t p (omega arith) time h
place_in_range Week n t p some time h = seconds_in_range (n * 604800) t p (omega arith) time h
place_in_range Month n t p some time h = months_in_range n t p some time h
place_in_range Year n t p some time h = months_in_range (n * 12) t p (omega arith) time h

-- ---- a place for each number

abbrev HasDay : ℕ → ℕ → Type 0
HasDay day m = (days_to (pos m) ≤ℤ pos day) × (pos day <ℤ days_to (pos m +ℤ pos 1))

last_has_day : (n day : ℕ) → days_after n ≤ day → day < days_after (suc n) → HasDay day n
last_has_day n day low high =
    let start : days_to (pos n) ≡ pos (days_after n) = days_to-pos n in
    let next : pos n +ℤ pos 1 ≡ pos (suc n) = omega (arith, ints) in
    let end : days_to (pos n +ℤ pos 1) ≡ pos (days_after (suc n)) = ap days_to next ∙ days_to-pos (suc n) in
    (omega (arith, ints), omega (arith, ints))

chosen_has_day : (n day m : ℕ) → day < days_after (suc n) → (day < days_after n → HasDay day m) → (t : Bool) → nat_le (days_after n) day ≡ t → HasDay day (cond t n m)
chosen_has_day n day m h below true e = last_has_day n day (grind (arith, nat_tests)) h
chosen_has_day n day m h below false e = below (grind (arith, nat_tests))

last_month-has_day : (n day : ℕ) → day < days_after n → HasDay day (last_month n day)
unfolding last_month
last_month-has_day zero day h = absurd (omega (arith, days_after-zero))
last_month-has_day (suc n) day h = chosen_has_day n day (last_month n day) h (last_month-has_day n day) (nat_le (days_after n) day) refl

month_in_cut : (t cycle rest : ℤ) → Cut t cycle rest → IsMonthOf t (pos (last_month 4800 (unsigned_abs rest / 86400)) +ℤ (cycle *ℤ pos 4800))
month_in_cut t cycle rest cut =
    let low : pos 0 ≤ℤ rest = cut.low in
    let high : rest <ℤ pos 12622780800 = cut.high in
    let day = unsigned_abs rest / 86400 in
    let is : pos (unsigned_abs rest) ≡ rest = omega (arith, ints) in
    let few : day < days_after 4800 = omega (arith, ints, days_after-cycle) in
    let found = last_month-has_day 4800 day few in
    month_moved t cycle rest (pos (last_month 4800 day)) cut
    (subst (λ s. IsMonthOf (pos 946684800 +ℤ s) (pos (last_month 4800 day))) is (month_of_its_day (unsigned_abs rest) day (pos (last_month 4800 day)) refl found.0 found.1))

pub month_at-is : (t : ℤ) → IsMonthOf t (month_at t)
unfolding month_at
month_at-is t =
    month_in_cut t (int_div_euclid (t -ℤ pos 946684800) (pos 12622780800)) (int_rem_euclid (t -ℤ pos 946684800) (pos 12622780800))
    (cut_of t (int_div_euclid (t -ℤ pos 946684800) (pos 12622780800)) (int_rem_euclid (t -ℤ pos 946684800) (pos 12622780800)) refl refl)

pub each_has_a_month : EachHasAMonth
each_has_a_month t = (month_at t, month_at-is t)

seconds_at : (seconds : ℕ) (t : ℤ) → 0 < seconds → Holds (seconds_start seconds) t (int_div_euclid (t -ℤ monday) (pos seconds))
seconds_at seconds t some =
    let p = int_div_euclid (t -ℤ monday) (pos seconds) in
    let bounds = quotient_bounds (t -ℤ monday) p seconds some refl in
    let moved = from_monday t (p *ℤ pos seconds) ((p +ℤ pos 1) *ℤ pos seconds) bounds.0 bounds.1 in
    record { at_or_below = moved.0; end_above = moved.1 }

pub place_at-holds : (unit : CalUnit) (n : ℕ) (t : ℤ) → 0 < n → Holds (start_at unit n) t (place_at unit n t)
place_at-holds Day n t some = seconds_at (n * 86400) t (omega arith)
place_at-holds Week n t some = seconds_at (n * 604800) t (omega arith)
place_at-holds Month n t some = months_between n t (month_at t) (int_div_euclid (month_at t) (pos n)) some (month_at-is t) refl
place_at-holds Year n t some = months_between (n * 12) t (month_at t) (int_div_euclid (month_at t) (pos (n * 12))) (omega arith) (month_at-is t) refl

pub names_are_of_buckets : NamesAreOfBuckets
names_are_of_buckets unit n t some = record { place = place_at unit n t; held = place_at-holds unit n t some; named = refl }

-- the place that the code found is that of the definition
pub place_is : (unit : CalUnit) (n : ℕ) (t p : ℤ) → 0 < n → Holds (start_at unit n) t p → p ≡ place_at unit n t
place_is unit n t p some h =
    let rises = start_at-rises unit n some in
    let low : p ≤ℤ place_at unit n t = one_holds (start_at unit n) t p (place_at unit n t) rises h (place_at-holds unit n t some) in
    let high : place_at unit n t ≤ℤ p = one_holds (start_at unit n) t (place_at unit n t) p rises (place_at-holds unit n t some) h in
    same p (place_at unit n t) low high
  where
    same : (a b : ℤ) → a ≤ℤ b → b ≤ℤ a → a ≡ b
    same a b h g = omega (arith, ints)

-- the bucket of a time holds a time
pub holds_a_time : (start : ℤ → ℤ) (t p : ℤ) → IsTrue (is_time t) → Holds start t p → HoldsATime start p
holds_a_time start t p time h =
    let range = time_bounds t time in
    record { starts = up_to (start p) t max_time h.at_or_below range.1; ends = from min_time t (start (p +ℤ pos 1)) range.0 h.end_above }
  where
    up_to : (a b c : ℤ) → a ≤ℤ b → b ≤ℤ c → a ≤ℤ c
    up_to a b c h g = omega (arith, ints)

    from : (a b c : ℤ) → a ≤ℤ b → b <ℤ c → a <ℤ c
    from a b c h g = omega (arith, ints)
