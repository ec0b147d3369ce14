-- A number of few digits, if no blank is before it.
use Rattle.std.proofs.Common.{◌≡◌, ◌≢◌, ℕ, ◌+◌, ◌^◌, ◌<◌, ◌≤◌, true, false, eqb, ◌||◌, List, [], ◌∷◌, length, take, drop, Some, refl, sym, ap, subst, ◌∙◌, arith, inl, inr}
use Rattle.std.proofs.lemmas.Bool.{cases_Bool, ne_eqb}
use Rattle.std.proofs.lemmas.Bool.Decides.{nat_tests}
use Rattle.std.specs.Char.{is_ascii_digit}
use Rattle.std.specs.List.{prefix_len}
use Rattle.std.specs.Str.Parse.{digits_value}
use Rattle.stmt_tokens.specs.Scan as scan
use Rattle.stmt_tokens.specs.Scan.{seen_lexeme, signed_number}
use Rattle.stmt_tokens.specs.Bytes.{is_space}
use Rattle.stmt_tokens.specs.Tokens.{blank_len, lexeme_at, sign_len}
use Rattle.stmt_tokens.proofs.Lexemes.{Finds, finds_lexeme, no_blank, number_first}
use Rattle.stmt_tokens.proofs.Numerals.{short_number}

-- how many digits are in front, after a minus if there is one
abbrev digits_at : List ℕ → ℕ
digits_at bs = prefix_len is_ascii_digit (drop (sign_len bs) bs)

starts : (b : ℕ) (bs : List ℕ) → digits_at (b ∷ bs) ≢ 0 → (is_ascii_digit b || eqb b 45) ≡ true
starts b bs some =
    elim (cases_Bool (eqb b 45)) [
      | inl minus ↦ grind (arith, nat_tests, minus)
      | inr other ↦
          elim (cases_Bool (is_ascii_digit b)) [
            | inl digit ↦ rw digit refl
            | inr letter ↦ absurd (some (rw (other, letter) refl))
          ]
    ]

no_space : (b : ℕ) → (is_ascii_digit b || eqb b 45) ≡ true → (is_space b || eqb b 13) ≡ false
no_space b e = grind (arith, nat_tests)

no_blanks : (bs : List ℕ) → digits_at bs ≢ 0 → 0 ≡ blank_len bs
no_blanks [] some = absurd (some refl)
no_blanks (b ∷ bs) some = no_blank b bs (no_space b (starts b bs some))

stands : (bs : List ℕ) → digits_at bs ≢ 0 → 0 < length bs
stands [] some = absurd (some refl)
stands (b ∷ bs) some = omega arith

number_seen : (bs : List ℕ) (v : ℕ) → digits_at bs ≢ 0 → v ≡ digits_value 10 (take (digits_at bs) (drop (sign_len bs) bs)) → v < 10 ^ 18
    → Some (record { token = scan.number (Some (signed_number (sign_len bs) v)); len = sign_len bs + digits_at bs }) ≡ seen_lexeme (lexeme_at bs)
number_seen [] v some v-is small = absurd (some refl)
number_seen (b ∷ bs) v some v-is small =
    let s = sign_len (b ∷ bs) in
    let n = digits_at (b ∷ bs) in
    let value = short_number (b ∷ bs) s n v refl refl some v-is small in
    rw (number_first b bs (starts b bs some), ne_eqb n 0 some) (ap (λ z. Some (record { token = scan.number z; len = s + n })) (sym value))

-- few digits after their sign are what comes next
pub finds_number : (text rest unsigned : List ℕ) (skip s n v : ℕ) → skip ≤ length text → rest ≡ drop skip text → s ≡ sign_len rest → unsigned ≡ drop s rest
    → n ≡ prefix_len is_ascii_digit unsigned → n ≢ 0 → v ≡ digits_value 10 (take n unsigned) → v < 10 ^ 18
    → Finds text skip (scan.token (scan.number (Some (signed_number s v))) skip (skip + (s + n)))
finds_number text rest unsigned skip s n v le rest-is s-is unsigned-is n-is some v-is small =
    let digits : unsigned ≡ drop (sign_len rest) rest = unsigned-is ∙ ap (λ k. drop k rest) s-is in
    let len : n ≡ digits_at rest = n-is ∙ ap (prefix_len is_ascii_digit) digits in
    let number : digits_at rest ≢ 0 = λ z. some (len ∙ z) in
    let value : v ≡ digits_value 10 (take (digits_at rest) (drop (sign_len rest) rest)) = v-is ∙ (λ i. digits_value 10 (take (len i) (digits i))) in
    let found : Finds text skip (scan.token (scan.number (Some (signed_number s v))) (skip + 0) (skip + 0 + (s + n))) =
    finds_lexeme text rest rest skip 0 (Some (record { token = scan.number (Some (signed_number s v)); len = s + n })) le rest-is (no_blanks rest number) (rest-is ∙ ap (λ k. drop k text) (omega arith)) (stands rest number)
    ((λ i. Some (record { token = scan.number (Some (signed_number (s-is i) v)); len = s-is i + len i })) ∙ number_seen rest v number value small) in
    let same : skip + 0 ≡ skip = omega arith in
    subst (λ k. Finds text skip (scan.token (scan.number (Some (signed_number s v))) k (k + (s + n)))) same found
