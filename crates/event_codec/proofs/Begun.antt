-- The bytes after the longest front that begins a number.
use Rattle.std.proofs.Common.{◌≡◌, ℕ, zero, suc, ◌-◌, ◌<◌, ◌≤◌, Bool, true, false, cond, ◌&&◌, nat_lt, int_le, List, [], ◌∷◌, length, get_or, drop, ℤ, ◌≤ℤ◌, ◌<ℤ◌, Result, Ok, Err, refl, sym, ap, subst, ◌∙◌, arith}
use Rattle.std.proofs.lemmas.Bool.{and_from, lt-ltb}
use Rattle.std.proofs.lemmas.Int.{ints}
use Rattle.std.proofs.Math.Bool.{and-false}
use Rattle.event_codec.specs.Reading.{StopsAt, go_on, read_map, least_above, most_below, is_low_byte, put_low, number}
use lib.Signed.{lt_z}
use Rattle.event_codec.specs.Reading.{IsNear}
use Rattle.event_codec.proofs.Formats.{done}
use Rattle.event_codec.proofs.Shifts.{read_again, near_kept}

abbrev step : ℕ → ℤ → ℤ → ℕ → List ℕ → Bool → Result (ℤ × List ℕ) (List ℕ)
step k lo hi b rest test = read_map put_low (λ bytes. go_on (cond test (done b rest) (Err (b ∷ rest))) (λ c left. go_on (number k (least_above lo c) (most_below hi c) left) (λ q end. Ok ((c, q), end)))) []

stops : (k : ℕ) (lo hi : ℤ) (b : ℕ) (rest : List ℕ) (test : Bool) → is_low_byte lo hi b ≡ test → test ≡ false → StopsAt (number (suc k) lo hi (b ∷ rest)) (b ∷ rest)
unfolding number
stops k lo hi b rest test is false_is =
    subst (λ (t : Bool). StopsAt (step k lo hi b rest t) (b ∷ rest)) (sym false_is ∙ sym is) refl

goes : (k : ℕ) (lo hi : ℤ) (b : ℕ) (rest left : List ℕ) → is_low_byte lo hi b ≡ true → StopsAt (number k (least_above lo b) (most_below hi b) rest) left → StopsAt (number (suc k) lo hi (b ∷ rest)) left
unfolding number
goes k lo hi b rest left is h = subst (λ (t : Bool). StopsAt (step k lo hi b rest t) left) (sym is) (by_end (number k (least_above lo b) (most_below hi b) rest) h)
  where
    by_end : (r : Result (ℤ × List ℕ) (List ℕ)) → StopsAt r left → StopsAt (go_on (go_on r (λ q end. Ok ((b, q), end))) (λ x end. Ok (put_low x, end))) left
    by_end (Ok x) h = tt
    by_end (Err end) h = h

-- nothing is left to read
pub stops_at_end : (k : ℕ) (lo hi : ℤ) (bytes : List ℕ) → length bytes ≡ 0 → StopsAt (number k lo hi bytes) bytes
unfolding number
stops_at_end zero lo hi bytes h = tt
stops_at_end (suc k) lo hi [] h = refl
stops_at_end (suc k) lo hi (b ∷ bytes) h = absurd (omega (arith, h))

-- all bytes are read
pub stops_at_none : (lo hi : ℤ) (bytes left : List ℕ) → StopsAt (number 0 lo hi bytes) left
unfolding number
stops_at_none lo hi bytes left = tt

-- the first byte begins no number of the range
pub stops_here : (k : ℕ) (lo hi : ℤ) (bytes : List ℕ) → 1 ≤ length bytes → most_below hi (get_or bytes 0 0) <ℤ least_above lo (get_or bytes 0 0) → StopsAt (number k lo hi bytes) bytes
stops_here zero lo hi bytes h l = stops_at_none lo hi bytes bytes
stops_here (suc k) lo hi [] h l = absurd (omega (arith, h))
stops_here (suc k) lo hi (b ∷ bytes) h l =
    let apart : int_le (least_above lo b) (most_below hi b) ≡ false = grind (arith, ints) in
    stops k lo hi b bytes (is_low_byte lo hi b) refl (ap (λ (t : Bool). nat_lt b 256 && t) apart ∙ and-false (nat_lt b 256))

-- the first byte begins a number of the range
pub stops_later : (k : ℕ) (lo hi : ℤ) (bytes left : List ℕ) → 1 ≤ length bytes → 1 ≤ k → get_or bytes 0 0 < 256 → least_above lo (get_or bytes 0 0) ≤ℤ most_below hi (get_or bytes 0 0) → StopsAt (number (k - 1) (least_above lo (get_or bytes 0 0)) (most_below hi (get_or bytes 0 0)) (drop 1 bytes)) left → StopsAt (number k lo hi bytes) left
stops_later zero lo hi bytes left h p small l s = absurd (omega (arith, p))
stops_later (suc k) lo hi [] left h p small l s = absurd (omega (arith, h))
stops_later (suc k) lo hi (b ∷ bytes) left h p small l s =
    let some : int_le (least_above lo b) (most_below hi b) ≡ true = grind (arith, ints) in
    let same : suc k - 1 ≡ k = omega arith in
    goes k lo hi b bytes left (and_from _ _ (lt-ltb b 256 small) some) (subst (λ (n : ℕ). StopsAt (number n (least_above lo b) (most_below hi b) bytes) left) same s)

-- ---- the same, for numbers as the code reads them

pub lt-true : (a b : ℤ) → lt_z a b ≡ true → a <ℤ b
lt-true a b h = grind (arith, ints)

pub lt-false : (a b : ℤ) → lt_z a b ≡ false → b ≤ℤ a
lt-false a b h = grind (arith, ints)

module _ (k : ℕ) (lo hi : ℤ) (bytes : List ℕ) (r s : ℤ) (lo_near : IsNear lo) (hi_near : IsNear hi) (r_near : IsNear r) (s_near : IsNear s) (some : 1 ≤ length bytes) (r_is : r ≡ least_above (read_again lo) (get_or bytes 0 0)) (s_is : s ≡ most_below (read_again hi) (get_or bytes 0 0)) where
  least_is : r ≡ least_above lo (get_or bytes 0 0)
  least_is = r_is ∙ ap (λ (z : ℤ). least_above z (get_or bytes 0 0)) (near_kept lo lo_near)

  most_is : s ≡ most_below hi (get_or bytes 0 0)
  most_is = s_is ∙ ap (λ (z : ℤ). most_below z (get_or bytes 0 0)) (near_kept hi hi_near)

  test_is : lt_z (read_again s) (read_again r) ≡ lt_z s r
  test_is = ap (λ (z : ℤ). lt_z z (read_again r)) (near_kept s s_near) ∙ ap (lt_z s) (near_kept r r_near)

  pub begun_here : lt_z (read_again s) (read_again r) ≡ true → StopsAt (number k lo hi bytes) bytes
  begun_here h =
      let less = lt-true s r (sym test_is ∙ h) in
      stops_here k lo hi bytes some (subst (λ (z : ℤ). most_below hi (get_or bytes 0 0) <ℤ z) least_is (subst (λ (z : ℤ). z <ℤ r) most_is less))

  pub begun_later : (left rest : List ℕ) → 1 ≤ k → get_or bytes 0 0 < 256 → lt_z (read_again s) (read_again r) ≡ false → rest ≡ drop 1 bytes → StopsAt (number (k - 1) (read_again r) (read_again s) rest) left → StopsAt (number k lo hi bytes) left
  begun_later left rest p small h rest_is stop =
      let at_most = lt-false s r (sym test_is ∙ h) in
      let low = near_kept r r_near ∙ least_is in
      let high = near_kept s s_near ∙ most_is in
      let one = subst (λ (z : ℤ). StopsAt (number (k - 1) z (read_again s) rest) left) low stop in
      let two = subst (λ (z : ℤ). StopsAt (number (k - 1) (least_above lo (get_or bytes 0 0)) z rest) left) high one in
      let three = subst (λ (w : List ℕ). StopsAt (number (k - 1) (least_above lo (get_or bytes 0 0)) (most_below hi (get_or bytes 0 0)) w) left) rest_is two in
      stops_later k lo hi bytes left some p small (subst (λ (z : ℤ). least_above lo (get_or bytes 0 0) ≤ℤ z) most_is (subst (λ (z : ℤ). z ≤ℤ s) least_is at_most)) three
