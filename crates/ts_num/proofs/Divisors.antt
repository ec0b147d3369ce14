-- Common divisors of two natural numbers.
use Rattle.std.proofs.Common.{◌≡◌, ℕ, zero, suc, ◌-◌, ◌*◌, ◌/◌, ◌%◌, ◌<◌, ◌≤◌, true, false, cond, sym, refl, ap, ◌∙◌, subst, arith, eq-eqb}
use Rattle.std.proofs.Math.Nat.{mul_comm, mul_assoc, mod-eq-sub-mul-div, mul-div-mul_left, mul-sub, zero-mul, mul-zero, mul-one, mul-div_cancel', mul-dvd-mul_left, dvd_of_mul-dvd-mul_left, dvd-mul_right, eq-one_of_dvd-one, pos_of_dvd_of_pos, eq_of_mul-eq-mul_left}
use Rattle.std.proofs.lemmas.Bool.{and_from, and_parts}
use Rattle.std.proofs.lemmas.Bool.Decides.{nat_tests}
use Rattle.std.proofs.lemmas.Nat.Gcd.{IsGcd-from_zero, IsGcd-from_mod, le_from_IsGcd, dvd_of_mod-eq-zero, mod-eq-zero_of_dvd, dvd_antisymm}
use Rattle.std.specs.Int.{IsGcd, ◌∣◌}
use Rattle.std.specs.Prelude.{◌==◌}
use Rattle.ts_num.specs.Fractions.{divides_both, greatest_common}

-- two numbers have a greatest common divisor, and it scales with them
pub record Measured (a b : ℕ) : Type 0 where
  pub divisor : ℕ
  pub is_gcd : IsGcd a b divisor
  pub scaled : (c : ℕ) → IsGcd (c * a) (c * b) (c * divisor)

-- a remainder scales with its two numbers
scaled-mod : (c a b : ℕ) → (c * a) % (c * b) ≡ c * (a % b)
scaled-mod zero a b = rw (zero-mul a, zero-mul b, zero-mul (a % b)) refl
scaled-mod (suc c) a b =
    mod-eq-sub-mul-div (suc c * a) (suc c * b) ∙ ap (λ q. suc c * a - suc c * b * q) (mul-div-mul_left a b (omega arith)) ∙ ap (λ m. suc c * a - m) (mul_assoc (suc c) b (a / b)) ∙ sym (mul-sub (suc c) a (b * (a / b))) ∙ ap (λ m. suc c * m) (sym (mod-eq-sub-mul-div a b))

measured_at_zero : (a : ℕ) → Measured a zero
measured_at_zero a = record {
  divisor = a;
  is_gcd = IsGcd-from_zero a zero refl;
  scaled = λ c. IsGcd-from_zero (c * a) (c * zero) (mul-zero c);
}

measured_step : (a b : ℕ) → Measured b (a % b) → Measured a b
measured_step a b rest = record {
  divisor = rest.divisor;
  is_gcd = IsGcd-from_mod a b rest.divisor rest.is_gcd;
  scaled = λ c. IsGcd-from_mod (c * a) (c * b) (c * rest.divisor) (rw (scaled-mod c a b) (rest.scaled c));
}

measured_within : (k a b : ℕ) → b ≤ k → Measured a b
measured_within k a zero le = measured_at_zero a
measured_within zero a (suc b) le = absurd (omega arith)
measured_within (suc k) a (suc b) le = measured_step a (suc b) (measured_within k (suc b) (a % suc b) (omega arith))

pub measured : (a b : ℕ) → Measured a b
measured a b = measured_within b a b (omega arith)

eqb-eq : (m n : ℕ) → (m == n) ≡ true → m ≡ n
eqb-eq m n e = grind (arith, nat_tests)

-- the test of a common divisor says what it means
divides_both-true : (k a b : ℕ) → divides_both k a b ≡ true → (k ∣ a) × (k ∣ b)
divides_both-true k a b e =
    let parts = and_parts (a % k == 0) (b % k == 0) e in
    (dvd_of_mod-eq-zero k (eqb-eq (a % k) 0 parts.0), dvd_of_mod-eq-zero k (eqb-eq (b % k) 0 parts.1))

divides_both-from : (k a b : ℕ) → k ∣ a → k ∣ b → divides_both k a b ≡ true
divides_both-from k a b p q =
    and_from _ _ (eq-eqb _ _ (mod-eq-zero_of_dvd k p)) (eq-eqb _ _ (mod-eq-zero_of_dvd k q))

-- the greatest common divisor is the greatest number that divides both
pub greatest_common_is : (k a b g : ℕ) → IsGcd a b g → 0 < g → g ≤ k → greatest_common k a b ≡ g
unfolding greatest_common
greatest_common_is zero a b g h some le = absurd (omega arith)
greatest_common_is (suc k) a b g h some le =
    elim (divides_both (suc k) a b) as (λ t. divides_both (suc k) a b ≡ t → cond t (suc k) (greatest_common k a b) ≡ g) [
      | true ↦ λ e.
          let parts = divides_both-true (suc k) a b e in
          let least : suc k ≤ g = le_from_IsGcd a b g (suc k) h some parts.0 parts.1 in
          omega arith
      | false ↦ λ e. greatest_common_is k a b g h some (below k a b g h le e)
    ] refl
  where
    below : (k a b g : ℕ) → IsGcd a b g → g ≤ suc k → divides_both (suc k) a b ≡ false → g ≤ k
    below k a b g h le e =
        let other : g ≡ suc k → ⊥ = λ same. cc (subst (λ n. divides_both n a b ≡ true) same (divides_both-from g a b h.0 h.1), e) in
        omega arith

-- a positive number has a positive divisor in common with any other
pub gcd_positive : (a b g : ℕ) → 0 < b → IsGcd a b g → 0 < g
gcd_positive a b g some h = pos_of_dvd_of_pos h.1 some

-- what is left of two numbers divided by their greatest common divisor has no common divisor but 1
pub no_common_left : (a b g k : ℕ) → 0 < g → IsGcd a b g → k ∣ a / g → k ∣ b / g → k ≡ 1
no_common_left a b g k some h p q =
    let at_a : g * k ∣ a = rw (mul-div_cancel' g h.0) at (mul-dvd-mul_left k g p) in
    let at_b : g * k ∣ b = rw (mul-div_cancel' g h.1) at (mul-dvd-mul_left k g q) in
    let whole : g * k ∣ g * 1 = rw (mul-one g) (h.2 (g * k) at_a at_b) in
    eq-one_of_dvd-one (dvd_of_mul-dvd-mul_left k some whole)

-- two numbers without a common divisor: a divisor of a product with the one divides the other
only_one : (a b : ℕ) → ((k : ℕ) → k ∣ a → k ∣ b → k ≡ 1) → IsGcd a b 1
only_one a b h =
    let m = measured a b in
    let one : m.divisor ≡ 1 = h m.divisor m.is_gcd.0 m.is_gcd.1 in
    subst (λ g. IsGcd a b g) one m.is_gcd

divides_other : (a b c : ℕ) → ((k : ℕ) → k ∣ a → k ∣ b → k ≡ 1) → b ∣ c * a → b ∣ c
divides_other a b c h p =
    let m = measured a b in
    let one : m.divisor ≡ 1 = h m.divisor m.is_gcd.0 m.is_gcd.1 in
    let scaled : IsGcd (c * a) (c * b) (c * 1) = rw one at (m.scaled c) in
    rw (mul-one c) at (scaled.2 b p (rw (mul_comm c b) (dvd-mul_right b c)))

-- two ratios in lowest terms that are equal have equal parts
pub same_ratio : (a b c d : ℕ) → 0 < b → a * d ≡ c * b → ((k : ℕ) → k ∣ a → k ∣ b → k ≡ 1) → ((k : ℕ) → k ∣ c → k ∣ d → k ≡ 1) → (b ≡ d) × (a ≡ c)
same_ratio a b c d some e h i =
    let to_d : b ∣ d = divides_other a b d h (rw (mul_comm d a, e, mul_comm c b) (dvd-mul_right b c)) in
    let to_b : d ∣ b = divides_other c d b i (rw (mul_comm b c, ← e, mul_comm a d) (dvd-mul_right d a)) in
    let same : b ≡ d = dvd_antisymm to_d to_b in
    (same, eq_of_mul-eq-mul_left b some a c (rw (mul_comm b a, mul_comm b c) (subst (λ n. a * n ≡ c * b) (sym same) e)))
