-- The number that a text begins with.
use Rattle.std.proofs.Common.{◌≡◌, ℕ, ◌+◌, ◌-◌, ◌*◌, ◌^◌, ◌≤◌, ◌<◌, true, false, List, [], ◌∷◌, ◌++◌, refl, sym, ap, ◌∙◌, arith, rules}
use Rattle.std.specs.Prelude.{decimal}
use Rattle.std.specs.Char.{is_ascii_digit}
use Rattle.std.specs.List.{AllByRecursion}
use Rattle.std.specs.Str.Parse.{AllDigits}
use Rattle.std.proofs.lemmas.Bool.{cond-true, cond-false}
use Rattle.std.proofs.lemmas.Bool.Decides.{nat_tests}
use Rattle.std.proofs.lemmas.Fmt.{digits_value-decimal}
use Rattle.std.proofs.lemmas.List.{append-nil}
use Rattle.std.proofs.lemmas.Str.Parse.{IsNumeralModel, numerals_by_fold, tells_digits}
use Rattle.audit_looks.specs.Lines.{number_from, number_in, with_digit}
use Rattle.audit_looks.proofs.ByteLaws.{IsDigit, decimal_digits}

-- the same without a limit
abbrev read_from : ℕ → List ℕ → ℕ
read_from n [] = n
read_from n (d ∷ ds) = read_from (n * 10 + (d - 48)) ds

own : IsNumeralModel (AllDigits 10) (read_from 0)
own = numerals_by_fold (AllDigits 10) tells_digits read_from (search rules)

rises : (n : ℕ) (ds : List ℕ) → n ≤ read_from n ds
rises n [] = omega arith
rises n (d ∷ ds) = let more = rises (n * 10 + (d - 48)) ds in omega (arith, more)

is_digit : (b : ℕ) → IsDigit b → is_ascii_digit b ≡ true
is_digit b d = let low = d.0 in let high = d.1 in grind (arith, nat_tests)

-- digits are read in order, if their number has 64 bits
reads_digits : (n : ℕ) (ds text : List ℕ) → AllByRecursion IsDigit ds → read_from n ds < 2 ^ 64 → number_from n (ds ++ text) ≡ number_from (read_from n ds) text
reads_digits n [] text a small = refl
reads_digits n (d ∷ ds) text a small =
    let more : ℕ = n * 10 + (d - 48) in
    let up : more ≤ read_from more ds = rises more ds in
    let is : with_digit n d ≡ more = omega (arith, up, small) in
    cond-true (is_ascii_digit d) (number_from (with_digit n d) (ds ++ text)) n (is_digit d a.0) ∙ ap (λ k. number_from k (ds ++ text)) is ∙ reads_digits more ds text a.1 small

stops : (n c : ℕ) (text : List ℕ) → is_ascii_digit c ≡ false → number_from n (c ∷ text) ≡ n
stops n c text e = cond-false (is_ascii_digit c) (number_from (with_digit n c) text) n e

decimal_reads : (n : ℕ) (text : List ℕ) → n < 2 ^ 64 → number_in (decimal n ++ text) ≡ number_from n text
decimal_reads n text small =
    let value : read_from 0 (decimal n) ≡ n = digits_value-decimal own n small in
    reads_digits 0 (decimal n) text (decimal_digits n) (omega (arith, value, small)) ∙ ap (λ k. number_from k text) value

-- a number is read before a byte other than a digit
pub number_then : (n c : ℕ) (text : List ℕ) → n < 2 ^ 64 → is_ascii_digit c ≡ false → number_in (decimal n ++ c ∷ text) ≡ n
number_then n c text small e = decimal_reads n (c ∷ text) small ∙ stops n c text e

-- or before the end
pub number_last : (n : ℕ) → n < 2 ^ 64 → number_in (decimal n) ≡ n
number_last n small = ap number_in (sym (append-nil (decimal n))) ∙ decimal_reads n [] small
