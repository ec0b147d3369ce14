-- Laws of months and of buckets of months.
use Rattle.std.proofs.Common.{◌≡◌, ℕ, zero, suc, ◌+◌, ◌-◌, ◌*◌, ◌<◌, ◌≤◌, true, refl, sym, ap, subst, ◌∙◌, arith, ℤ, pos, negsuc, ◌+ℤ◌, ◌*ℤ◌, ◌<ℤ◌, ◌≤ℤ◌}
use Rattle.std.proofs.lemmas.Bool.Decides.{Decides-int_eq}
use Rattle.std.proofs.lemmas.Int.{by_lt_z, ints}
use Rattle.std.specs.Int.{int_div_euclid, int_rem_euclid}
use Rattle.jiff_core.proofs.SignedLemmas.{signed_arith, int_div_euclid-parts, int_rem_euclid-parts}
use Rattle.cal_bucket.specs.Calendar.{divides, days_to, start_of, IsMonthOf}
use Rattle.cal_bucket.specs.declared.plans.CalUnit.{CalUnit}
use Rattle.cal_bucket.specs.declared.plans.CalUnit.TheVariants.{Day, Week, Month, Year}
use Rattle.cal_bucket.specs.Buckets.{monday, seconds_start, months_start, start_at, Holds}
use Rattle.cal_bucket.specs.Laws.{EachHasOneMonth, EachHasOneBucket, FourHundredYears, MonthBucketsAreGreatest}
use Rattle.cal_bucket.proofs.CalendarLaws.{days_to-rises, days_to-not_above, days_to-period}
use borrow.Author.Differences.{up, down, product_is}

-- later months start later
pub start_of-rises : (j k : ℤ) → j <ℤ k → start_of j <ℤ start_of k
start_of-rises j k h = let less : days_to j <ℤ days_to k = days_to-rises j k h in omega (arith, signed_arith)

pub start_of-not_above : (j k : ℤ) → j ≤ℤ k → start_of j ≤ℤ start_of k
start_of-not_above j k h = let at_most : days_to j ≤ℤ days_to k = days_to-not_above j k h in omega (arith, signed_arith)

pub four_hundred_years : FourHundredYears
four_hundred_years k = let is : days_to (k +ℤ pos 4800) ≡ days_to k +ℤ pos 146097 = days_to-period k in omega (arith, signed_arith)

-- ---- each number lies in one month

-- a month that holds t isn't below another one
not_below : (t j k : ℤ) → IsMonthOf t j → IsMonthOf t k → j ≤ℤ k
not_below t j k h g =
    by_lt_z k j
    (λ lt. let later : start_of (k +ℤ pos 1) ≤ℤ start_of j = start_of-not_above (k +ℤ pos 1) j (omega (arith, signed_arith)) in
    let start : start_of j ≤ℤ t = h.at_or_below in
    let end : t <ℤ start_of (k +ℤ pos 1) = g.end_above in
    absurd (omega (arith, signed_arith)))
    (λ le. le)

pub each_has_one_month : EachHasOneMonth
each_has_one_month t j k h g =
    let low : j ≤ℤ k = not_below t j k h g in
    let high : k ≤ℤ j = not_below t k j g h in
    omega (arith, signed_arith)

-- ---- multiples

pub next_multiple : (p : ℤ) (n : ℕ) → (p +ℤ pos 1) *ℤ pos n ≡ (p *ℤ pos n) +ℤ pos n
next_multiple (pos a) n = omega (arith, ints)
next_multiple (negsuc zero) n = omega (arith, ints)
next_multiple (negsuc (suc a)) n =
    let back : negsuc (suc a) +ℤ pos 1 ≡ negsuc a = omega (arith, ints) in
    ap (λ z. z *ℤ pos n) back ∙ omega (arith, ints)

later_multiple : (p : ℤ) (n j : ℕ) → 0 < n → ((p *ℤ pos n) +ℤ pos j) ≤ℤ ((p +ℤ pos j) *ℤ pos n)
later_multiple p n zero h = let same : p +ℤ pos 0 ≡ p = omega (arith, ints) in subst (λ z. ((p *ℤ pos n) +ℤ pos 0) ≤ℤ (z *ℤ pos n)) (sym same) (omega (arith, ints))
later_multiple p n (suc j) h =
    let next : (p +ℤ pos j) +ℤ pos 1 ≡ p +ℤ pos (suc j) = omega (arith, ints) in
    let before : ((p *ℤ pos n) +ℤ pos j) ≤ℤ ((p +ℤ pos j) *ℤ pos n) = later_multiple p n j h in
    let step : (p +ℤ pos (suc j)) *ℤ pos n ≡ ((p +ℤ pos j) *ℤ pos n) +ℤ pos n = sym (ap (λ z. z *ℤ pos n) next) ∙ next_multiple (p +ℤ pos j) n in
    raised (p *ℤ pos n) ((p +ℤ pos j) *ℤ pos n) ((p +ℤ pos (suc j)) *ℤ pos n) n j h before step
  where
    raised : (a b c : ℤ) (n j : ℕ) → 0 < n → (a +ℤ pos j) ≤ℤ b → c ≡ b +ℤ pos n → (a +ℤ pos (suc j)) ≤ℤ c
    raised a b c n j h before step = omega (arith, ints)

pub multiples_rise : (p q : ℤ) (n : ℕ) → 0 < n → p <ℤ q → (p *ℤ pos n) <ℤ (q *ℤ pos n)
multiples_rise p q n h lt =
    let j = up q + down p - (down q + up p) in
    let is : p +ℤ pos j ≡ q = omega (arith, signed_arith) in
    let some : 0 < j = omega (arith, signed_arith) in
    above (p *ℤ pos n) (q *ℤ pos n) j some (subst (λ z. ((p *ℤ pos n) +ℤ pos j) ≤ℤ (z *ℤ pos n)) is (later_multiple p n j h))
  where
    above : (a b : ℤ) (j : ℕ) → 0 < j → (a +ℤ pos j) ≤ℤ b → a <ℤ b
    above a b j some h = omega (arith, ints)

-- a quotient that rounds down
pub quotient_bounds : (a p : ℤ) (k : ℕ) → 0 < k → p ≡ int_div_euclid a (pos k) → ((p *ℤ pos k) ≤ℤ a) × (a <ℤ ((p +ℤ pos 1) *ℤ pos k))
quotient_bounds a p k some e = subst (λ q. ((q *ℤ pos k) ≤ℤ a) × (a <ℤ ((q +ℤ pos 1) *ℤ pos k))) (sym e) (bounds (int_div_euclid a (pos k)) (int_div_euclid-parts a k some))
  where
    bounds : (q : ℤ) → (up q * k + down a ≤ down q * k + up a) × (down q * k + up a < up q * k + down a + k) → ((q *ℤ pos k) ≤ℤ a) × (a <ℤ ((q +ℤ pos 1) *ℤ pos k))
    bounds q h =
        let next : (q +ℤ pos 1) *ℤ pos k ≡ (q *ℤ pos k) +ℤ pos k = next_multiple q k in
        let product = product_is q (pos k) in
        (omega (arith, ints, h, product), omega (arith, ints, h, product))

-- ---- buckets

-- later places start later
abbrev pub Rises : (ℤ → ℤ) → Type 0
Rises start = (p q : ℤ) → p <ℤ q → start p <ℤ start q

pub seconds_start-rises : (seconds : ℕ) → 0 < seconds → Rises (seconds_start seconds)
seconds_start-rises seconds h p q lt = moved (p *ℤ pos seconds) (q *ℤ pos seconds) (multiples_rise p q seconds h lt)
  where
    moved : (a b : ℤ) → a <ℤ b → (monday +ℤ a) <ℤ (monday +ℤ b)
    moved a b h = omega (arith, ints)

pub months_start-rises : (months : ℕ) → 0 < months → Rises (months_start months)
months_start-rises months h p q lt = start_of-rises (p *ℤ pos months) (q *ℤ pos months) (multiples_rise p q months h lt)

pub start_at-rises : (unit : CalUnit) (n : ℕ) → 0 < n → Rises (start_at unit n)
start_at-rises Day n h = seconds_start-rises (n * 86400) (omega arith)
start_at-rises Week n h = seconds_start-rises (n * 604800) (omega arith)
start_at-rises Month n h = months_start-rises n h
start_at-rises Year n h = months_start-rises (n * 12) (omega arith)

-- one of rising buckets holds a number
pub one_holds : (start : ℤ → ℤ) (t p q : ℤ) → Rises start → Holds start t p → Holds start t q → p ≤ℤ q
one_holds start t p q rises h g =
    by_lt_z q p
    (λ lt. by_lt_z (q +ℤ pos 1) p
    (λ above. let later : start (q +ℤ pos 1) <ℤ start p = rises (q +ℤ pos 1) p above in
    let low : start p ≤ℤ t = h.at_or_below in let high : t <ℤ start (q +ℤ pos 1) = g.end_above in absurd (omega (arith, ints)))
    (λ near. let next : q +ℤ pos 1 ≡ p = omega (arith, signed_arith) in
    let low : start p ≤ℤ t = h.at_or_below in let high : t <ℤ start p = subst (λ z. t <ℤ start z) next g.end_above in absurd (omega (arith, ints))))
    (λ le. le)

pub each_has_one_bucket : EachHasOneBucket
each_has_one_bucket unit n t b c some h g =
    let rises = start_at-rises unit n some in
    let low : h.place ≤ℤ g.place = one_holds (start_at unit n) t h.place g.place rises h.held g.held in
    let high : g.place ≤ℤ h.place = one_holds (start_at unit n) t g.place h.place rises g.held h.held in
    let same : h.place ≡ g.place = omega (arith, signed_arith) in
    h.named ∙ ap (start_at unit n) same ∙ sym g.named

-- ---- buckets of months

divides-rem : (n : ℕ) (z : ℤ) → divides n z ≡ true → int_rem_euclid z (pos n) ≡ pos 0
divides-rem n z h = (Decides-int_eq (int_rem_euclid z (pos n)) (pos 0)).0 h

-- a month that n divides is a multiple of n
multiple_of : (n : ℕ) (k : ℤ) → 0 < n → divides n k ≡ true → k ≡ int_div_euclid k (pos n) *ℤ pos n
multiple_of n k some h = let none : int_rem_euclid k (pos n) ≡ pos 0 = divides-rem n k h in let parts = int_rem_euclid-parts k n some in omega (arith, signed_arith)

at_most_itself : (z : ℤ) → z ≤ℤ z
at_most_itself z = omega (arith, ints)

pub months_start-not_above : (n : ℕ) (p q : ℤ) → 0 < n → p ≤ℤ q → months_start n p ≤ℤ months_start n q
months_start-not_above n p q some le =
    by_lt_z p q
    (λ lt. let less : months_start n p <ℤ months_start n q = months_start-rises n some p q lt in omega (arith, ints))
    (λ ge. let same : p ≡ q = omega (arith, signed_arith) in subst (λ z. months_start n p ≤ℤ months_start n z) same (at_most_itself (months_start n p)))

-- a number in a bucket is below the start of any later one
beyond : (n : ℕ) (t p q : ℤ) → 0 < n → p <ℤ q → t <ℤ months_start n (p +ℤ pos 1) → months_start n q ≤ℤ t → ⊥
beyond n t p q some lt end low =
    let reach : months_start n (p +ℤ pos 1) ≤ℤ months_start n q = months_start-not_above n (p +ℤ pos 1) q some (omega (arith, signed_arith)) in
    omega (arith, ints)

multiples_stand : (p q : ℤ) (n : ℕ) → 0 < n → p ≤ℤ q → (p *ℤ pos n) ≤ℤ (q *ℤ pos n)
multiples_stand p q n some le =
    by_lt_z p q
    (λ lt. let less : (p *ℤ pos n) <ℤ (q *ℤ pos n) = multiples_rise p q n some lt in omega (arith, ints))
    (λ ge. let same : p ≡ q = omega (arith, signed_arith) in subst (λ z. (p *ℤ pos n) ≤ℤ (z *ℤ pos n)) same (at_most_itself (p *ℤ pos n)))

-- a quotient of a multiple
quotient_is : (n : ℕ) (p q : ℤ) → 0 < n → (q *ℤ pos n) ≤ℤ (p *ℤ pos n) → (p *ℤ pos n) <ℤ ((q +ℤ pos 1) *ℤ pos n) → q ≡ p
quotient_is n p q some low high =
    by_lt_z p q
    (λ lt. let less : (p *ℤ pos n) <ℤ (q *ℤ pos n) = multiples_rise p q n some lt in absurd (omega (arith, ints)))
    (λ ge. by_lt_z q p
    (λ lt. let reach : ((q +ℤ pos 1) *ℤ pos n) ≤ℤ (p *ℤ pos n) = multiples_stand (q +ℤ pos 1) p n some (omega (arith, signed_arith)) in absurd (omega (arith, ints)))
    (λ le. omega (arith, signed_arith)))

-- the remainder
nothing_left : (n : ℕ) (p r : ℤ) → up r + up p * n + down (p *ℤ pos n) ≡ down p * n + up (p *ℤ pos n) → down r ≡ 0 → r ≡ pos 0
nothing_left n p r parts none_below = let product = product_is p (pos n) in omega (arith, ints, parts, product, none_below)

-- n divides its multiples
multiple_divided : (n : ℕ) (p : ℤ) → 0 < n → divides n (p *ℤ pos n) ≡ true
multiple_divided n p some =
    let bounds = quotient_bounds (p *ℤ pos n) (int_div_euclid (p *ℤ pos n) (pos n)) n some refl in
    let same = quotient_is n p (int_div_euclid (p *ℤ pos n) (pos n)) some bounds.0 bounds.1 in
    (Decides-int_eq (int_rem_euclid (p *ℤ pos n) (pos n)) (pos 0)).1
    (none (int_div_euclid (p *ℤ pos n) (pos n)) (int_rem_euclid (p *ℤ pos n) (pos n)) same (int_rem_euclid-parts (p *ℤ pos n) n some))
  where
    none : (q r : ℤ) → q ≡ p → (up r + up q * n + down (p *ℤ pos n) ≡ down q * n + up (p *ℤ pos n)) × (down r ≡ 0) × (up r < n) → r ≡ pos 0
    none q r same parts = nothing_left n p r (subst (λ z. up r + up z * n + down (p *ℤ pos n) ≡ down z * n + up (p *ℤ pos n)) same parts.0) parts.1

pub month_buckets_are_greatest : MonthBucketsAreGreatest
month_buckets_are_greatest n t b some bucket = record {
  month = bucket.place *ℤ pos n;
  divided = multiple_divided n bucket.place some;
  start = bucket.named;
  not_above = subst (λ x. x ≤ℤ t) (sym bucket.named) bucket.held.at_or_below;
  greatest = λ k divided low.
      let p = bucket.place in
      let q = int_div_euclid k (pos n) in
      let is : start_of k ≡ months_start n q = ap start_of (multiple_of n k some divided) in
      let named : months_start n p ≡ b = sym bucket.named in
      by_lt_z p q
      (λ lt. absurd (beyond n t p q some lt bucket.held.end_above (subst (λ x. x ≤ℤ t) is low)))
      (λ le. subst (λ x. x ≤ℤ b) (sym is) (subst (λ x. months_start n q ≤ℤ x) named (months_start-not_above n q p some le)));
}
