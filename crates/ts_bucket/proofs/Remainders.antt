-- Remainders of whole numbers, rounded down: their bounds, and the multiples of a step.
use Rattle.std.proofs.Common.{◌≡◌, ℕ, suc, ◌+◌, ◌-◌, ◌*◌, ◌/◌, ◌%◌, ◌<◌, ◌≤◌, ℤ, pos, negsuc, ◌+ℤ◌, ◌-ℤ◌, ◌≤ℤ◌, ◌<ℤ◌, unsigned_abs, sym, refl, ap, ◌∙◌, arith}
use Rattle.std.specs.Int.{int_rem_euclid}
use Rattle.std.proofs.lemmas.Int.{ints, int_rem_euclid_is}
use Rattle.std.proofs.Math.Nat.{mod-lt, div-add-mod, mul-le-mul_left, mul-mod_right, lt_of_mul-lt-mul_left, mul-suc, add-mod_right}

-- a number above 0 is its absolute value
pub positive_is : (d : ℤ) → pos 0 <ℤ d → (n : ℕ) × (0 < n) × (d ≡ pos n)
positive_is (pos n) h = (n, omega (arith, ints), refl)
positive_is (negsuc n) h = absurd (omega (arith, ints))

-- a number, raised by enough steps of n, is not negative
raised : (z : ℤ) (n k : ℕ) → 0 < n → unsigned_abs z ≤ k → (m : ℕ) × (z +ℤ pos (k * n) ≡ pos m)
raised (pos a) n k h e = (a + k * n, refl)
raised (negsuc a) n k h e =
    let many : k * 1 ≤ k * n = mul-le-mul_left k h in
    (k * n - suc a, omega (arith, ints))

-- two numbers, raised by the same multiple of the step, with their remainders as naturals
record Raised (a b d : ℤ) : Type 0 where
  pub size : ℕ
  pub positive : 0 < size
  pub step_is : d ≡ pos size
  pub by : ℕ
  pub first : ℕ
  pub second : ℕ
  pub first_is : a +ℤ pos by ≡ pos first
  pub second_is : b +ℤ pos by ≡ pos second
  pub first_remainder : int_rem_euclid a d ≡ pos (first % size)
  pub second_remainder : int_rem_euclid b d ≡ pos (second % size)

both_raised : (a b d : ℤ) → pos 0 <ℤ d → Raised a b d
both_raised a b d h =
    let n = positive_is d h in
    let k = unsigned_abs a + unsigned_abs b in
    let x = raised a n.0 k n.1 (omega arith) in
    let y = raised b n.0 k n.1 (omega arith) in
    record {
      size = n.0;
      positive = n.1;
      step_is = n.2;
      by = k * n.0;
      first = x.0;
      second = y.0;
      first_is = x.1;
      second_is = y.1;
      first_remainder = int_rem_euclid_is a d n.0 k x.0 n.1 n.2 x.1;
      second_remainder = int_rem_euclid_is b d n.0 k y.0 n.1 n.2 y.1;
    }

-- the remainder by a step above 0 is not negative, and below the step
pub remainder_bounds : (z d : ℤ) → pos 0 <ℤ d → (pos 0 ≤ℤ int_rem_euclid z d) × (int_rem_euclid z d <ℤ d)
remainder_bounds z d h =
    let r = both_raised z z d h in
    let is : int_rem_euclid z d ≡ pos (r.first % r.size) = r.first_remainder in
    let step_is : d ≡ pos r.size = r.step_is in
    let below : r.first % r.size < r.size = mod-lt r.first r.positive in
    (omega (arith, ints), omega (arith, ints))

-- what is left without the remainder is a multiple of the step
pub remainder-without : (z d : ℤ) → pos 0 <ℤ d → int_rem_euclid (z -ℤ int_rem_euclid z d) d ≡ pos 0
remainder-without z d h =
    let r = both_raised z (z -ℤ int_rem_euclid z d) d h in
    let is : int_rem_euclid z d ≡ pos (r.first % r.size) = r.first_remainder in
    let whole : r.size * (r.first / r.size) + r.first % r.size ≡ r.first = div-add-mod r.first r.size in
    let first_is : z +ℤ pos r.by ≡ pos r.first = r.first_is in
    let second_is : (z -ℤ int_rem_euclid z d) +ℤ pos r.by ≡ pos r.second = r.second_is in
    let multiple : r.second ≡ r.size * (r.first / r.size) = omega (arith, ints) in
    r.second_remainder ∙ ap pos (ap (λ m. m % r.size) multiple ∙ mul-mod_right r.size (r.first / r.size))

-- two multiples of n, one below the other, are at least n apart
multiples_apart : (a b n : ℕ) → 0 < n → a % n ≡ 0 → b % n ≡ 0 → a < b → a + n ≤ b
multiples_apart a b n h p q l =
    let a_is : n * (a / n) + a % n ≡ a = div-add-mod a n in
    let b_is : n * (b / n) + b % n ≡ b = div-add-mod b n in
    let below : n * (a / n) < n * (b / n) = omega arith in
    let fewer : a / n < b / n = lt_of_mul-lt-mul_left n below in
    let enough : n * suc (a / n) ≤ n * (b / n) = mul-le-mul_left n (let e : suc (a / n) ≤ b / n = omega arith in e) in
    let one_more : n * suc (a / n) ≡ n * (a / n) + n = mul-suc n (a / n) in
    omega arith

-- two multiples of the step, one below the other, are at least the step apart
pub whole_apart : (a b d : ℤ) → pos 0 <ℤ d → int_rem_euclid a d ≡ pos 0 → int_rem_euclid b d ≡ pos 0 → a <ℤ b → (a +ℤ d) ≤ℤ b
whole_apart a b d h p q l =
    let r = both_raised a b d h in
    let step_is : d ≡ pos r.size = r.step_is in
    let first_is : a +ℤ pos r.by ≡ pos r.first = r.first_is in
    let second_is : b +ℤ pos r.by ≡ pos r.second = r.second_is in
    let first_whole : r.first % r.size ≡ 0 = ap unsigned_abs (sym r.first_remainder ∙ p) in
    let second_whole : r.second % r.size ≡ 0 = ap unsigned_abs (sym r.second_remainder ∙ q) in
    let below : r.first < r.second = omega (arith, ints) in
    let apart : r.first + r.size ≤ r.second = multiples_apart r.first r.second r.size r.positive first_whole second_whole below in
    omega (arith, ints)

-- one step more changes no remainder
pub remainder-step : (z d : ℤ) → pos 0 <ℤ d → int_rem_euclid (z +ℤ d) d ≡ int_rem_euclid z d
remainder-step z d h =
    let r = both_raised z (z +ℤ d) d h in
    let step_is : d ≡ pos r.size = r.step_is in
    let first_is : z +ℤ pos r.by ≡ pos r.first = r.first_is in
    let second_is : (z +ℤ d) +ℤ pos r.by ≡ pos r.second = r.second_is in
    let more : r.second ≡ r.first + r.size = omega (arith, ints) in
    r.second_remainder ∙ ap pos (ap (λ m. m % r.size) more ∙ add-mod_right r.first r.size) ∙ sym r.first_remainder
