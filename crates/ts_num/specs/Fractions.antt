-- The fraction in lowest terms of a whole number over a positive count.
use Rattle.std.specs.Prelude.{◌≡◌, ℕ, zero, suc, ◌/◌, ◌%◌, ◌<◌, ◌==◌, ◌&&◌, Bool, cond, ℤ, pos, ◌*ℤ◌, unsigned_abs}
use Rattle.std.specs.Int.{◌∣◌}
use Rattle.std.specs.Int.RustNames.{int_div}
use Rattle.ts_num.specs.declared.fractions.Frac.{Frac}

-- f has the value n / d, a positive denominator, and no common divisor of its two parts but 1
pub record IsLowest (n : ℤ) (d : ℕ) (f : Frac) : Type 0 where
  pub positive : 0 < f.den
  pub same_value : f.num *ℤ pos d ≡ n *ℤ pos f.den
  pub no_common_divisor : (k : ℕ) → k ∣ unsigned_abs f.num → k ∣ f.den → k ≡ 1

-- k divides both a and b
abbrev pub divides_both : ℕ → ℕ → ℕ → Bool
divides_both k a b = (a % k == 0) && (b % k == 0)

-- the greatest number up to k that divides both a and b, or 0 if there is none
unfoldable pub greatest_common : ℕ → ℕ → ℕ → ℕ
greatest_common zero a b = zero
greatest_common (suc k) a b = cond (divides_both (suc k) a b) (suc k) (greatest_common k a b)

-- n / d in lowest terms: both parts divided by their greatest common divisor
abbrev pub lowest_terms : ℤ → ℕ → Frac
lowest_terms n d =
    let common = greatest_common d (unsigned_abs n) d in
    record { num = int_div n (pos common); den = d / common }

-- over a positive count, `lowest_terms` is the one fraction in lowest terms with that value
abbrev pub LowestTermsLaw : Type 0
LowestTermsLaw =
    (n : ℤ) (d : ℕ) → 0 < d → IsLowest n d (lowest_terms n d) × ((f : Frac) → IsLowest n d f → f ≡ lowest_terms n d)
