-- The text of a number is that of its first digits, and then its last ones.
use Rattle.std.proofs.Common.{◌≡◌, refl, sym, ◌∙◌, ap, true, false, true≢false, ℕ, ℤ, pos, negsuc, int_le, unsigned_abs, ◌+◌, ◌/◌, ◌%◌, ◌^◌, ◌<◌, ◌≤◌, List, [], ◌∷◌, ◌++◌, append_assoc, arith}
use Rattle.std.specs.Fmt.{decimal, signed_decimal}
use Rattle.std.proofs.lemmas.Fmt.{decimal_digit}
use Rattle.itoa.proofs.Decimal as itoa
use Rattle.ts_num.specs.Digits.{two_digits, four_digits, eight_digits}

pub decimal_one : (n : ℕ) → n < 10 → decimal n ≡ (48 + n) ∷ []
decimal_one n small = decimal_digit n small

pub decimal_two : (n : ℕ) → 10 ≤ n → n < 100 → decimal n ≡ two_digits n
decimal_two n low high = itoa.decimal_two n low high

pub decimal_three : (n : ℕ) → 100 ≤ n → n < 1000 → decimal n ≡ (48 + n / 100) ∷ two_digits (n % 100)
decimal_three n low high =
    itoa.decimal_pair n low (omega arith)
    ∙ ap (λ ds. ds ++ two_digits (n % 100)) (decimal_one (n / 100) (omega arith))

pub decimal_last : (n : ℕ) → 1000 ≤ n → n < 10000 → decimal n ≡ four_digits n
decimal_last n low high =
    itoa.decimal_pair n (omega arith) (omega arith)
    ∙ ap (λ ds. ds ++ two_digits (n % 100)) (decimal_two (n / 100) (omega arith) (omega arith))

-- of a number that has one, two or four digits
pub ruleset short_decimals = (decimal_one, decimal_two, decimal_last)

pub decimal_four : (n : ℕ) → 10000 ≤ n → n < 2 ^ 64 → decimal n ≡ decimal (n / 10000) ++ four_digits (n % 10000)
decimal_four n low high = itoa.decimal_four n low high

pub decimal_eight : (n : ℕ) → 100000000 ≤ n → n < 2 ^ 64 → decimal n ≡ decimal (n / 100000000) ++ eight_digits (n % 100000000)
decimal_eight n low high =
    let more : n / 10000 / 10000 ≡ n / 100000000 = omega arith in
    let first : n / 10000 % 10000 ≡ n % 100000000 / 10000 = omega arith in
    let last : n % 10000 ≡ n % 100000000 % 10000 = omega arith in
    decimal_four n (omega arith) high
    ∙ ap (λ ds. ds ++ four_digits (n % 10000)) (decimal_four (n / 10000) (omega arith) (omega arith))
    ∙ append_assoc (decimal (n / 10000 / 10000)) (four_digits (n / 10000 % 10000)) (four_digits (n % 10000))
    ∙ ap (λ q. decimal q ++ (four_digits (n / 10000 % 10000) ++ four_digits (n % 10000))) more
    ∙ ap (λ q. decimal (n / 100000000) ++ (four_digits q ++ four_digits (n % 10000))) first
    ∙ ap (λ q. decimal (n / 100000000) ++ (four_digits (n % 100000000 / 10000) ++ four_digits q)) last

-- a number that isn't negative has no sign
pub without_sign : (z : ℤ) → int_le (pos 0) z ≡ true → signed_decimal z ≡ decimal (unsigned_abs z)
without_sign (pos n) le = refl
without_sign (negsuc n) le = absurd (true≢false (sym le))

-- and a negative one has
pub with_sign : (z : ℤ) → int_le (pos 0) z ≡ false → signed_decimal z ≡ 45 ∷ decimal (unsigned_abs z)
with_sign z below = sym (itoa.minus_first z below)

pub ruleset signs = (without_sign, with_sign)

-- appending to what was appended
pub put_behind : (old middle new first last whole : List ℕ) → middle ≡ old ++ first → new ≡ middle ++ last → whole ≡ first ++ last → new ≡ old ++ whole
put_behind old middle new first last whole once twice parts =
    twice ∙ ap (λ text. text ++ last) once ∙ append_assoc old first last ∙ ap (λ text. old ++ text) (sym parts)
