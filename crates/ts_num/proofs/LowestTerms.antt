-- The fraction in lowest terms is the one that `lowest_terms` computes.
use Rattle.std.proofs.Common.{◌≡◌, ℕ, zero, suc, ◌*◌, ◌/◌, ◌<◌, ℤ, pos, negsuc, sym, refl, ap, ◌∙◌, subst, arith}
use Rattle.std.proofs.Math.Nat.{mul_assoc, mul-div_cancel', div-mul_cancel, eq_of_mul-eq-mul_right, mul-pos, zero-mul, mul_right_comm, le_of_dvd}
use Rattle.std.specs.Prelude.{◌*ℤ◌, neg_ℤ, unsigned_abs}
use Rattle.std.specs.Int.{IsGcd, ◌∣◌}
use Rattle.std.specs.Int.RustNames.{int_div}
use Rattle.std.proofs.lemmas.Int.{unsigned_abs-mul}
use Rattle.ts_num.specs.declared.fractions.Frac.{Frac}
use Rattle.ts_num.specs.Fractions.{IsLowest, greatest_common, lowest_terms, LowestTermsLaw}
use Rattle.ts_num.proofs.Divisors.{measured, greatest_common_is, gcd_positive, no_common_left, same_ratio}

-- the fraction of both parts divided by g
abbrev pub divided : ℤ → ℕ → ℕ → Frac
divided n d g = record { num = int_div n (pos g); den = d / g }

-- ---- on whole numbers

abs_negated : (k : ℕ) → unsigned_abs (neg_ℤ (pos k)) ≡ k
abs_negated zero = refl
abs_negated (suc k) = refl

abs_divided : (n : ℤ) (g : ℕ) → unsigned_abs (int_div n (pos g)) ≡ unsigned_abs n / g
abs_divided (pos a) g = refl
abs_divided (negsuc a) g = abs_negated (suc a / g)

negated-mul : (k m : ℕ) → neg_ℤ (pos k) *ℤ pos m ≡ neg_ℤ (pos (k * m))
negated-mul zero m = rw (zero-mul m) refl
negated-mul (suc k) m = refl

-- (a / g) * d is a * (d / g), if g divides both
cross : (a d g : ℕ) → g ∣ a → g ∣ d → a / g * d ≡ a * (d / g)
cross a d g p q =
    ap (λ m. a / g * m) (sym (mul-div_cancel' g q)) ∙ sym (mul_assoc (a / g) g (d / g)) ∙ ap (λ m. m * (d / g)) (div-mul_cancel g p)

divided_same : (n : ℤ) (d g : ℕ) → g ∣ unsigned_abs n → g ∣ d → int_div n (pos g) *ℤ pos d ≡ n *ℤ pos (d / g)
divided_same (pos a) d g p q = ap pos (cross a d g p q)
divided_same (negsuc a) d g p q = negated-mul (suc a / g) d ∙ ap (λ m. neg_ℤ (pos m)) (cross (suc a) d g p q)

pos_same : (a b : ℕ) → pos a ≡ pos b → a ≡ b
pos_same a b e = cc

-- no number from 0 on is a negative one
apart : (a b d : ℕ) → 0 < d → pos (a * d) ≡ neg_ℤ (pos (suc b * d)) → ⊥
apart a b d some e =
    let above : 0 < suc b * d = mul-pos (omega arith) some in
    negative (suc b * d) (a * d) above e
  where
    negative : (m k : ℕ) → 0 < m → pos k ≡ neg_ℤ (pos m) → ⊥
    negative zero k above e = omega arith
    negative (suc m) k above e = cc

-- a positive factor can be taken away
cancelled : (a b : ℤ) (d : ℕ) → 0 < d → a *ℤ pos d ≡ b *ℤ pos d → a ≡ b
cancelled (pos a) (pos b) d some e = ap pos (eq_of_mul-eq-mul_right d some a b (pos_same _ _ e))
cancelled (pos a) (negsuc b) d some e = absurd (apart a b d some e)
cancelled (negsuc a) (pos b) d some e = absurd (apart b a d some (sym e))
cancelled (negsuc a) (negsuc b) d some e =
    let same : suc a ≡ suc b = eq_of_mul-eq-mul_right d some (suc a) (suc b) (sym (abs_negated (suc a * d)) ∙ ap unsigned_abs e ∙ abs_negated (suc b * d)) in
    cc

-- ---- the law

pub divided_is_lowest : (n : ℤ) (d g : ℕ) → 0 < d → IsGcd (unsigned_abs n) d g → IsLowest n d (divided n d g)
divided_is_lowest n d g some h =
    let some_g = gcd_positive (unsigned_abs n) d g some h in
    record {
      positive = positive_part d g some h.1;
      same_value = divided_same n d g h.0 h.1;
      no_common_divisor = λ k p q. no_common_left (unsigned_abs n) d g k some_g h (subst (λ m. k ∣ m) (abs_divided n g) p) q;
    }
  where
    positive_part : (d g : ℕ) → 0 < d → g ∣ d → 0 < d / g
    positive_part d g some p =
        let whole : d / g * g ≡ d = div-mul_cancel g p in
        elim (d / g) as (λ m. m * g ≡ d → 0 < m) [ zero ↦ λ e. absurd (omega arith) | suc m ↦ λ e. omega arith ] whole

abs_value : (n : ℤ) (d : ℕ) (f : Frac) → IsLowest n d f → unsigned_abs f.num * d ≡ unsigned_abs n * f.den
abs_value n d f h = sym (unsigned_abs-mul f.num (pos d)) ∙ ap unsigned_abs h.same_value ∙ unsigned_abs-mul n (pos f.den)

-- two ratios that equal a third are equal
crossed : (a b c e d n : ℕ) → 0 < d → a * d ≡ n * b → c * d ≡ n * e → a * e ≡ c * b
crossed a b c e d n some p q =
    eq_of_mul-eq-mul_right d some (a * e) (c * b)
    (mul_right_comm a e d ∙ ap (λ m. m * e) p ∙ mul_right_comm n b e ∙ ap (λ m. m * b) (sym q) ∙ mul_right_comm c d b)

same_parts : (f g : Frac) → f.num ≡ g.num → f.den ≡ g.den → f ≡ g
same_parts f g p q =
    let made : ℤ → ℕ → Frac = λ n d. record { num = n; den = d } in
    ap (λ n. made n f.den) p ∙ ap (λ d. made g.num d) q

pub same_lowest : (n : ℤ) (d : ℕ) (f g : Frac) → 0 < d → IsLowest n d f → IsLowest n d g → f ≡ g
same_lowest n d f g some h i =
    let ratio : unsigned_abs f.num * g.den ≡ unsigned_abs g.num * f.den = crossed (unsigned_abs f.num) f.den (unsigned_abs g.num) g.den d (unsigned_abs n) some (abs_value n d f h) (abs_value n d g i) in
    let parts = same_ratio (unsigned_abs f.num) f.den (unsigned_abs g.num) g.den h.positive ratio h.no_common_divisor i.no_common_divisor in
    let den : f.den ≡ g.den = parts.0 in
    let num : f.num ≡ g.num = cancelled f.num g.num d some (h.same_value ∙ ap (λ m. n *ℤ pos m) den ∙ sym i.same_value) in
    same_parts f g num den

pub divided_is_lowest_terms : (n : ℤ) (d g : ℕ) → 0 < d → IsGcd (unsigned_abs n) d g → divided n d g ≡ lowest_terms n d
divided_is_lowest_terms n d g some h =
    let same : greatest_common d (unsigned_abs n) d ≡ g = greatest_common_is d (unsigned_abs n) d g h (gcd_positive _ _ g some h) (le_of_dvd some h.1) in
    rw same refl

pub lowest_terms_law : LowestTermsLaw
lowest_terms_law n d some =
    let m = measured (unsigned_abs n) d in
    let lowest : IsLowest n d (lowest_terms n d) = subst (λ f. IsLowest n d f) (divided_is_lowest_terms n d m.divisor some m.is_gcd) (divided_is_lowest n d m.divisor some m.is_gcd) in
    (lowest, λ f h. same_lowest n d f (lowest_terms n d) some h lowest)
