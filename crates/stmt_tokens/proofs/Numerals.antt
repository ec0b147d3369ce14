-- The digits that a number's token takes are a numeral, and few of them write what is read digit by digit.
use Rattle.std.proofs.Common.{◌≡◌, ◌≢◌, ℕ, suc, zero, ◌+◌, ◌*◌, ◌^◌, ◌<◌, ◌≤◌, true, false, eqb, leb, List, [], ◌∷◌, length, take, drop, length-take-le, refl, sym, ap, subst, ◌∙◌, arith, inl, inr, get_or}
use Rattle.std.specs.Prelude.{pos, neg_ℤ, nat_lt, Some}
use Rattle.std.proofs.lemmas.Bool.{ne_eqb, cases_Bool, cond_both, le-leb, ltb-true, ltb-false}
use Rattle.std.proofs.lemmas.Bool.Decides.{nat_tests}
use Rattle.std.proofs.lemmas.List.Folds.{length-prefix_len}
use Rattle.std.proofs.lemmas.List.Sums.{prefix_len-drop_yes, prefix_len-drop_no, prefix_len-drop_all}
use Rattle.std.proofs.lemmas.Str.Parse.{digit_at, digits_value_short, numerals_by_value, tells_digits}
use Rattle.std.proofs.lemmas.Int.Digits.{digits_more, digits_value_more}
use Rattle.std.specs.Char.{is_ascii_digit, digit_value}
use Rattle.std.specs.List.{prefix_len}
use Rattle.std.specs.Str.Parse.{AllDigits, IsNumeral, without_leading_sign, digits_value, signed_digits_value}
use Rattle.std.proofs.Math.Numerals.{one-add}
use Rattle.stmt_tokens.specs.Tokens.{sign_len}
use Rattle.stmt_syntax.specs.Limits.{is_i64}
use Rattle.stmt_tokens.specs.Scan.{i64_of, signed_number}

digit_is : (b : ℕ) → is_ascii_digit b ≡ true → digit_value b < 10
digit_is b e = grind (arith, nat_tests)

digits_in_front : (bs : List ℕ) → AllDigits 10 (take (prefix_len is_ascii_digit bs) bs)
digits_in_front [] = tt
digits_in_front (b ∷ bs) =
    cond_both (is_ascii_digit b) (1 + prefix_len is_ascii_digit bs) 0 (λ n. AllDigits 10 (take n (b ∷ bs)))
    (λ e. rw (one-add (prefix_len is_ascii_digit bs)) (digit_is b e, digits_in_front bs))
    (λ e. tt)

numeral_in_front : (bs : List ℕ) → prefix_len is_ascii_digit bs ≢ 0 → IsNumeral 10 (take (prefix_len is_ascii_digit bs) bs)
numeral_in_front bs some = (omega (arith, length-prefix_len is_ascii_digit bs, some), digits_in_front bs)

without_minus : (b : ℕ) (ds : List ℕ) → eqb b 45 ≡ true → without_leading_sign (b ∷ ds) ≡ ds
without_minus b ds e = rw e refl

without_sign : (ds : List ℕ) → IsNumeral 10 ds → without_leading_sign ds ≡ ds
without_sign [] h = absurd (omega arith)
without_sign (d ∷ ds) h =
    let r = digit_at (d ∷ ds) 0 h.1 (omega arith) in
    let not_minus : eqb d 45 ≡ false = ne_eqb d 45 (λ e. omega (arith, r)) in
    let not_plus : eqb d 43 ≡ false = ne_eqb d 43 (λ e. omega (arith, r)) in
    rw (not_minus, not_plus) refl

numeral_value : (ds : List ℕ) → IsNumeral 10 ds → signed_digits_value 10 ds ≡ pos (digits_value 10 ds)
numeral_value [] h = absurd (omega arith)
numeral_value (d ∷ ds) h =
    let r = digit_at (d ∷ ds) 0 h.1 (omega arith) in
    let not_minus : eqb d 45 ≡ false = ne_eqb d 45 (λ e. omega (arith, r)) in
    let not_plus : eqb d 43 ≡ false = ne_eqb d 43 (λ e. omega (arith, r)) in
    rw (not_minus, not_plus) refl

signed_with_minus : (b : ℕ) (bs : List ℕ) (s n : ℕ) → eqb b 45 ≡ true → s ≡ 1 → n ≡ prefix_len is_ascii_digit (drop s (b ∷ bs)) → n ≢ 0 → IsNumeral 10 (without_leading_sign (take (s + n) (b ∷ bs)))
signed_with_minus b bs s n e s-is n-is some =
    let k : s + n ≡ suc n = omega arith in
    let m : n ≡ prefix_len is_ascii_digit bs = n-is ∙ rw s-is refl in
    let h : IsNumeral 10 (take n bs) = subst (λ (i : ℕ). IsNumeral 10 (take i bs)) (sym m) (numeral_in_front bs (λ z. some (m ∙ z))) in
    rw (k, without_minus b (take n bs) e) h

signed_without : (bs : List ℕ) (s n : ℕ) → s ≡ 0 → n ≡ prefix_len is_ascii_digit (drop s bs) → n ≢ 0 → IsNumeral 10 (without_leading_sign (take (s + n) bs))
signed_without bs s n s-is n-is some =
    let k : s + n ≡ n = omega arith in
    let m : n ≡ prefix_len is_ascii_digit bs = n-is ∙ rw s-is refl in
    let h : IsNumeral 10 (take n bs) = subst (λ (i : ℕ). IsNumeral 10 (take i bs)) (sym m) (numeral_in_front bs (λ z. some (m ∙ z))) in
    rw (k, without_sign (take n bs) h) h

-- a number's token is a numeral after its sign
pub number_is_numeral : (bs : List ℕ) (s n : ℕ) → s ≡ sign_len bs → n ≡ prefix_len is_ascii_digit (drop s bs) → n ≢ 0 → IsNumeral 10 (without_leading_sign (take (s + n) bs))
number_is_numeral [] s n s-is n-is some = signed_without [] s n s-is n-is some
number_is_numeral (b ∷ bs) s n s-is n-is some =
    elim (cases_Bool (eqb b 45)) [
      | inl minus ↦ signed_with_minus b bs s n minus (s-is ∙ rw minus refl) n-is some
      | inr other ↦ signed_without (b ∷ bs) s n (s-is ∙ rw other refl) n-is some
    ]

-- ---- digits that are in front, read in order

-- at least this many digits are in front, at most 18, and this is the number that they write
pub record IsFront (bs : List ℕ) (n v : ℕ) : Type 0 where
  pub within : n ≤ length bs
  pub few : n ≤ 18
  pub len : prefix_len is_ascii_digit bs ≡ n + prefix_len is_ascii_digit (drop n bs)
  pub digits : AllDigits 10 (take n bs)
  pub value : v ≡ digits_value 10 (take n bs)

pub front_none : (bs : List ℕ) → IsFront bs 0 0
front_none bs = record { within = omega arith; few = omega arith; len = omega arith; digits = tt; value = refl }

-- few digits write a number with room for one more
front_below : (bs : List ℕ) (n k v : ℕ) → IsFront bs n v → n ≤ k → v < 10 ^ k
front_below bs n k v f few =
    subst (λ (w : ℕ). w < 10 ^ k) (sym f.value)
    (digits_value_short (numerals_by_value (AllDigits 10) tells_digits) (take n bs) k f.digits (omega (arith, length-take-le n bs f.within, few)))

pub front_room : (bs : List ℕ) (n v : ℕ) → IsFront bs n v → n < 18 → v < 10 ^ 17
front_room bs n v f few = front_below bs n 17 v f (omega (arith, few))

pub front_small : (bs : List ℕ) (n v : ℕ) → IsFront bs n v → v < 10 ^ 18
front_small bs n v f = front_below bs n 18 v f f.few

pub front_more : (bs : List ℕ) (n v : ℕ) → IsFront bs n v → n < length bs → n < 18 → is_ascii_digit (get_or bs n 0) ≡ true → IsFront bs (n + 1) (v * 10 + digit_value (get_or bs n 0))
front_more bs n v f below few e =
    let d : ℕ = get_or bs n 0 in
    record {
      within = omega (arith, below);
      few = omega (arith, few);
      len = f.len ∙ ap (λ k. n + k) (prefix_len-drop_yes is_ascii_digit bs n 0 below e) ∙ omega arith;
      digits = digits_more 10 bs n below f.digits (digit_is d e);
      value = ap (λ w. w * 10 + digit_value d) f.value ∙ sym (digits_value_more 10 bs n below);
    }

pub front_ends : (bs : List ℕ) (n v : ℕ) → IsFront bs n v → (n < length bs → is_ascii_digit (get_or bs n 0) ≡ false) → n ≡ prefix_len is_ascii_digit bs
front_ends bs n v f stops =
    elim (cases_Bool (nat_lt n (length bs))) [
      | inl below ↦ omega (arith, f.len, prefix_len-drop_no is_ascii_digit bs n 0 (ltb-true n (length bs) below) (stops (ltb-true n (length bs) below)))
      | inr past ↦ omega (arith, f.len, prefix_len-drop_all is_ascii_digit bs n (ltb-false n (length bs) past))
    ]

-- ---- the value of few digits after a sign

-- a number of 18 digits, and the one below zero
fits_i64 : (v : ℕ) → v < 10 ^ 18 → (is_i64 (pos v) ≡ true) × (is_i64 (neg_ℤ (pos v)) ≡ true)
fits_i64 zero small = (refl, refl)
fits_i64 (suc k) small =
    let above : leb (suc k) 9223372036854775807 ≡ true = le-leb (suc k) 9223372036854775807 (omega (arith, small)) in
    let below : leb k 9223372036854775807 ≡ true = le-leb k 9223372036854775807 (omega (arith, small)) in
    (rw above refl, rw below refl)

-- few digits after their sign write the number of that sign and of their value
pub short_number : (bs : List ℕ) (s n v : ℕ) → s ≡ sign_len bs → n ≡ prefix_len is_ascii_digit (drop s bs) → n ≢ 0 → v ≡ digits_value 10 (take n (drop s bs)) → v < 10 ^ 18 → i64_of (signed_digits_value 10 (take (s + n) bs)) ≡ Some (signed_number s v)
short_number [] s n v s-is n-is some v-is small = absurd (some (n-is ∙ rw s-is refl))
short_number (b ∷ bs) s n v s-is n-is some v-is small =
    elim (cases_Bool (eqb b 45)) [
      | inl minus ↦
          let one : s ≡ 1 = s-is ∙ rw minus refl in
          let k : s + n ≡ suc n = omega (arith, one) in
          let m : v ≡ digits_value 10 (take n bs) = v-is ∙ rw one refl in
          let value : signed_digits_value 10 (take (s + n) (b ∷ bs)) ≡ neg_ℤ (pos v) =
          rw (k, minus) (ap (λ (w : ℕ). neg_ℤ (pos w)) (sym m)) in
          ap i64_of value ∙ rw (one, (fits_i64 v small).1) refl
      | inr other ↦
          let none : s ≡ 0 = s-is ∙ rw other refl in
          let k : s + n ≡ n = omega (arith, none) in
          let numeral : IsNumeral 10 (take n (b ∷ bs)) = subst (λ (i : ℕ). IsNumeral 10 (take i (b ∷ bs))) (sym (n-is ∙ rw none refl)) (numeral_in_front (b ∷ bs) (λ z. some (n-is ∙ rw none z))) in
          let m : v ≡ digits_value 10 (take n (b ∷ bs)) = v-is ∙ rw none refl in
          let value : signed_digits_value 10 (take (s + n) (b ∷ bs)) ≡ pos v =
          ap (λ i. signed_digits_value 10 (take i (b ∷ bs))) k ∙ numeral_value (take n (b ∷ bs)) numeral ∙ ap pos (sym m) in
          ap i64_of value ∙ rw (none, (fits_i64 v small).0) refl
    ]
