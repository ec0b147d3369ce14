-- The month of a time and the start of a month, as the code finds them in the years 2000 to 2399.
use Rattle.std.proofs.Common.{◌≡◌, ◌≤◌, sym, ap, subst, ◌∙◌, arith, ℤ, pos, ◌+ℤ◌, ◌-ℤ◌, ◌*ℤ◌, ◌<ℤ◌, ◌≤ℤ◌, FitsSigned, to_z, of_z, to_z-of_z, w64, IsTrue}
use Rattle.std.proofs.lemmas.Int.{ints}
use Rattle.std.specs.Int.{int_div_euclid, int_rem_euclid}
use Rattle.jiff_core.proofs.SignedLemmas.{signed_arith}
use Rattle.ts_bucket.specs.Bucket.{is_time, min_time, max_time}
use Rattle.cal_bucket.specs.Calendar.{days_to, start_of, length_of, IsMonthOf, IsNearMonth}
use Rattle.cal_bucket.specs.Cycles.{IsInCycle}
use Rattle.cal_bucket.proofs.CalendarLaws.{days_to-next, days_to-periods, length_of-bounds}

-- the parts of the test that t is a time
pub time_bounds : (t : ℤ) → IsTrue (is_time t) → (min_time ≤ℤ t) × (t ≤ℤ max_time)
time_bounds t h = (grind (arith, ints), grind (arith, ints))

-- a time's whole spans of 400 years since 2000, and the seconds of the last one that have passed
pub record Cut (t cycle rest : ℤ) : Type 0 where
  pub is : t ≡ (pos 946684800 +ℤ (cycle *ℤ pos 12622780800)) +ℤ rest
  pub low : pos 0 ≤ℤ rest
  pub high : rest <ℤ pos 12622780800

pub cut_of : (t cycle rest : ℤ) → cycle ≡ int_div_euclid (t -ℤ pos 946684800) (pos 12622780800) → rest ≡ int_rem_euclid (t -ℤ pos 946684800) (pos 12622780800) → Cut t cycle rest
cut_of t cycle rest p q = record {
  is = omega (arith, signed_arith);
  low = omega (arith, signed_arith);
  high = omega (arith, signed_arith);
}

-- a month that is moved by whole spans of 400 years starts this many seconds later
pub start_moved : (k cycle : ℤ) → start_of (k +ℤ (cycle *ℤ pos 4800)) ≡ start_of k +ℤ (cycle *ℤ pos 12622780800)
start_moved k cycle =
    let is : days_to (k +ℤ (cycle *ℤ pos 4800)) ≡ days_to k +ℤ (cycle *ℤ pos 146097) = days_to-periods k cycle in
    omega (arith, signed_arith)

-- so a month that holds the rest of a time, moved by the whole spans, holds the time
pub month_moved : (t cycle rest m : ℤ) → Cut t cycle rest → IsMonthOf (pos 946684800 +ℤ rest) m → IsMonthOf t (m +ℤ (cycle *ℤ pos 4800))
month_moved t cycle rest m cut month =
    let is : t ≡ (pos 946684800 +ℤ (cycle *ℤ pos 12622780800)) +ℤ rest = cut.is in
    let low : start_of m ≤ℤ (pos 946684800 +ℤ rest) = month.at_or_below in
    let high : (pos 946684800 +ℤ rest) <ℤ start_of (m +ℤ pos 1) = month.end_above in
    let here : start_of (m +ℤ (cycle *ℤ pos 4800)) ≡ start_of m +ℤ (cycle *ℤ pos 12622780800) = start_moved m cycle in
    let swapped : (m +ℤ (cycle *ℤ pos 4800)) +ℤ pos 1 ≡ (m +ℤ pos 1) +ℤ (cycle *ℤ pos 4800) = omega (arith, signed_arith) in
    let next : start_of ((m +ℤ (cycle *ℤ pos 4800)) +ℤ pos 1) ≡ start_of (m +ℤ pos 1) +ℤ (cycle *ℤ pos 12622780800) = ap start_of swapped ∙ start_moved (m +ℤ pos 1) cycle in
    record {
      at_or_below = at_start t (start_of m) (start_of (m +ℤ (cycle *ℤ pos 4800))) cycle rest is here low;
      end_above = at_end t (start_of (m +ℤ pos 1)) (start_of ((m +ℤ (cycle *ℤ pos 4800)) +ℤ pos 1)) cycle rest is next high;
    }
  where
    at_start : (t a b cycle rest : ℤ) → t ≡ (pos 946684800 +ℤ (cycle *ℤ pos 12622780800)) +ℤ rest → b ≡ a +ℤ (cycle *ℤ pos 12622780800) → a ≤ℤ (pos 946684800 +ℤ rest) → b ≤ℤ t
    at_start t a b cycle rest is here low = omega (arith, signed_arith)

    at_end : (t a b cycle rest : ℤ) → t ≡ (pos 946684800 +ℤ (cycle *ℤ pos 12622780800)) +ℤ rest → b ≡ a +ℤ (cycle *ℤ pos 12622780800) → (pos 946684800 +ℤ rest) <ℤ a → t <ℤ b
    at_end t a b cycle rest is next high = omega (arith, signed_arith)

-- the start of a month near the times is far inside the range of 64 bits
pub start_bounds : (k : ℤ) → IsNearMonth k → (min_time ≤ℤ (start_of k +ℤ pos 37871020800)) × (start_of k ≤ℤ max_time)
start_bounds k h =
    let moved : k +ℤ pos 14401 ≡ (k +ℤ pos 1) +ℤ (pos 3 *ℤ pos 4800) = omega (arith, signed_arith) in
    let later : days_to (k +ℤ pos 14401) ≡ days_to (k +ℤ pos 1) +ℤ (pos 3 *ℤ pos 146097) = ap days_to moved ∙ days_to-periods (k +ℤ pos 1) (pos 3) in
    let next : days_to (k +ℤ pos 1) ≡ days_to k +ℤ pos (length_of k) = days_to-next k in
    let length : length_of k ≤ 31 = (length_of-bounds k).1 in
    let low : min_time <ℤ start_of (k +ℤ pos 14401) = h.low in
    (omega (arith, signed_arith), h.high)

-- ---- what the code computes, without its casts

pub code_cut : (t cycle rest : ℤ) → IsTrue (is_time t)
    → cycle ≡ int_div_euclid (to_z w64 (of_z w64 (to_z w64 (of_z w64 t) -ℤ pos 946684800))) (pos 12622780800)
    → rest ≡ int_rem_euclid (to_z w64 (of_z w64 (to_z w64 (of_z w64 t) -ℤ pos 946684800))) (pos 12622780800)
    → Cut t cycle rest
code_cut t cycle rest h p q =
    let bounds = time_bounds t h in
    let low : min_time ≤ℤ t = bounds.0 in
    let high : t ≤ℤ max_time = bounds.1 in
    let is : to_z w64 (of_z w64 (to_z w64 (of_z w64 t) -ℤ pos 946684800)) ≡ t -ℤ pos 946684800 = omega (arith, ints) in
    cut_of t cycle rest (p ∙ ap (λ z. int_div_euclid z (pos 12622780800)) is) (q ∙ ap (λ z. int_rem_euclid z (pos 12622780800)) is)

-- the code's number of the month has 64 bits, and is the right one
pub record CodeMonth (cycle m : ℤ) : Type 0 where
  pub fits : FitsSigned w64 (to_z w64 (of_z w64 (to_z w64 (of_z w64 cycle) *ℤ pos 4800)) +ℤ to_z w64 (of_z w64 m))
  pub is : to_z w64 (of_z w64 (to_z w64 (of_z w64 (to_z w64 (of_z w64 cycle) *ℤ pos 4800)) +ℤ to_z w64 (of_z w64 m))) ≡ m +ℤ (cycle *ℤ pos 4800)

pub code_month : (t cycle rest m : ℤ) → IsTrue (is_time t) → Cut t cycle rest → IsInCycle m → CodeMonth cycle m
code_month t cycle rest m h cut inside =
    let bounds = time_bounds t h in
    let low : min_time ≤ℤ t = bounds.0 in
    let high : t ≤ℤ max_time = bounds.1 in
    let is : t ≡ (pos 946684800 +ℤ (cycle *ℤ pos 12622780800)) +ℤ rest = cut.is in
    let rest_low : pos 0 ≤ℤ rest = cut.low in
    let rest_high : rest <ℤ pos 12622780800 = cut.high in
    let m_low : pos 0 ≤ℤ m = inside.0 in
    let m_high : m <ℤ pos 4800 = inside.1 in
    record { fits = omega (arith, ints); is = omega (arith, ints) }

-- and that month holds the time, if it holds the rest of the time
pub code_holds : (t cycle rest m : ℤ) → Cut t cycle rest → IsMonthOf (pos 946684800 +ℤ to_z w64 (of_z w64 rest)) m → IsMonthOf t (m +ℤ (cycle *ℤ pos 4800))
code_holds t cycle rest m cut month =
    let low : pos 0 ≤ℤ rest = cut.low in
    let high : rest <ℤ pos 12622780800 = cut.high in
    let back : to_z w64 (of_z w64 rest) ≡ rest = omega (arith, ints) in
    month_moved t cycle rest m cut (subst (λ s. IsMonthOf (pos 946684800 +ℤ s) m) back month)

-- a month's whole spans of 400 years since 2000
pub month_cut : (k cycle place : ℤ) → cycle ≡ int_div_euclid k (pos 4800) → place ≡ int_rem_euclid k (pos 4800) → (k ≡ place +ℤ (cycle *ℤ pos 4800)) × (pos 0 ≤ℤ place) × (place <ℤ pos 4800)
month_cut k cycle place p q = (omega (arith, signed_arith), omega (arith, signed_arith), omega (arith, signed_arith))

-- the code's start of the month
pub record CodeStart (start cycle second : ℤ) : Type 0 where
  pub product_fits : FitsSigned w64 (to_z w64 (of_z w64 cycle) *ℤ pos 12622780800)
  pub sum_fits : FitsSigned w64 (to_z w64 (of_z w64 (pos 946684800 +ℤ to_z w64 (of_z w64 (to_z w64 (of_z w64 cycle) *ℤ pos 12622780800)))) +ℤ to_z w64 (of_z w64 second))
  pub is : to_z w64 (of_z w64 (to_z w64 (of_z w64 (pos 946684800 +ℤ to_z w64 (of_z w64 (to_z w64 (of_z w64 cycle) *ℤ pos 12622780800)))) +ℤ to_z w64 (of_z w64 second))) ≡ start

plain_start : (start cycle second : ℤ) → min_time ≤ℤ (start +ℤ pos 37871020800) → start ≤ℤ max_time → start ≡ (pos 946684800 +ℤ second) +ℤ (cycle *ℤ pos 12622780800) → pos 0 ≤ℤ second → second <ℤ pos 12622780800 → CodeStart start cycle second
plain_start start cycle second low high is second_low second_high = record { product_fits = omega (arith, ints); sum_fits = omega (arith, ints); is = omega (arith, ints) }

pub code_start : (k cycle place second : ℤ) → FitsSigned w64 k → IsNearMonth k
    → cycle ≡ int_div_euclid (to_z w64 (of_z w64 k)) (pos 4800) → place ≡ int_rem_euclid (to_z w64 (of_z w64 k)) (pos 4800)
    → start_of (to_z w64 (of_z w64 place)) ≡ pos 946684800 +ℤ second → pos 0 ≤ℤ second → second <ℤ pos 12622780800 → CodeStart (start_of k) cycle second
code_start k cycle place second fits h p q second_is second_low second_high =
    let back : to_z w64 (of_z w64 k) ≡ k = to_z-of_z fits in
    let cut = month_cut k cycle place (p ∙ ap (λ z. int_div_euclid z (pos 4800)) back) (q ∙ ap (λ z. int_rem_euclid z (pos 4800)) back) in
    let place_low : pos 0 ≤ℤ place = cut.1 in
    let place_high : place <ℤ pos 4800 = cut.2 in
    let place_back : to_z w64 (of_z w64 place) ≡ place = omega (arith, ints) in
    let bounds = start_bounds k h in
    let place_start : start_of place ≡ pos 946684800 +ℤ second = sym (ap start_of place_back) ∙ second_is in
    let start : start_of k ≡ (pos 946684800 +ℤ second) +ℤ (cycle *ℤ pos 12622780800)
    = ap start_of cut.0 ∙ start_moved place cycle ∙ ap (λ z. z +ℤ (cycle *ℤ pos 12622780800)) place_start in
    plain_start (start_of k) cycle second bounds.0 bounds.1 start second_low second_high
