-- A number whose bytes are in front is read. Otherwise its reading fails.
use Rattle.std.proofs.Common.{◌≡◌, ℕ, ◌-◌, ◌<◌, ◌≤◌, ◌^◌, List, ◌++◌, length, length-append, ℤ, pos, ◌≤ℤ◌, ◌<ℤ◌, unsigned_abs, true, false, Result, Ok, Err, refl, sym, ap, subst, ◌∙◌, arith}
use Rattle.std.proofs.lemmas.Int.{ints, to_z_pos, to_z-of_z}
use Rattle.ts_bucket.specs.WholeSpans.{least, greatest}
use lib.Signed.{lt_z}
use mir.Syntax.{w64, w128}
use mir.Val.{SFits, of_z, to_z}
use Rattle.event_codec.specs.Spelling.{four, eight, signed_bytes}
use Rattle.event_codec.specs.Reading.{Reads, StopsAt, go_on, read_map, number, four_upto, any_four, any_eight, between, any_word}
use Rattle.event_codec.proofs.Formats.{IsFormat, same_value}
use Rattle.event_codec.proofs.NumberLaws.{four_format, any_four_format, any_eight_format, between_format, any_word_format}
use Rattle.event_codec.proofs.Begun.{lt-true, lt-false}

-- a reading that returns nothing fails
failing : {A : Type 0} (r : Result (A × List ℕ) (List ℕ)) (left : List ℕ) → StopsAt r left → ((a : A) (rest : List ℕ) → r ≡ Ok (a, rest) → ⊥) → r ≡ Err left
failing (Ok x) left stop never = absurd (never x.0 x.1 refl)
failing {A} (Err end) left stop never = let same : left ≡ end = stop in ap (λ (l : List ℕ). failed l) (sym same)
  where
    failed : List ℕ → Result (A × List ℕ) (List ℕ)
    failed l = Err l

map_stops : {A B : Type 0} (f : A → B) (p : Reads A) (bytes left : List ℕ) → StopsAt (p bytes) left → StopsAt (read_map f p bytes) left
map_stops {A} f p bytes left stop = by_end (p bytes) stop
  where
    by_end : (r : Result (A × List ℕ) (List ℕ)) → StopsAt r left → StopsAt (go_on r (λ a end. Ok (f a, end))) left
    by_end (Ok x) h = tt
    by_end (Err end) h = h

pub four_length : (n : ℕ) → length (four n) ≡ 4
unfolding four
four_length n = refl

pub eight_length : (n : ℕ) → length (eight n) ≡ 8
unfolding eight
eight_length n = refl

pub signed_length : (z : ℤ) → length (signed_bytes z) ≡ 8
unfolding signed_bytes
signed_length z = refl

-- ---- four bytes

pub four_stops : (most : ℕ) (bytes left : List ℕ) → most < 2 ^ 32 → StopsAt (number 4 (pos 0) (to_z w128 most) bytes) left → StopsAt (four_upto most bytes) left
four_stops most bytes left small stop = map_stops unsigned_abs (number 4 (pos 0) (pos most)) bytes left (subst (λ (z : ℤ). StopsAt (number 4 (pos 0) z bytes) left) (to_z_pos w128 most (omega arith)) stop)

pub four_is_read : (most n : ℕ) (bytes rest : List ℕ) → most < 2 ^ 32 → n ≤ most → bytes ≡ four n ++ rest → four_upto most bytes ≡ Ok (n, rest)
four_is_read most n bytes rest small h is = ap (four_upto most) is ∙ (four_format most small).again n rest h

pub four_above : (most n : ℕ) (bytes rest left : List ℕ) → most < 2 ^ 32 → n < 2 ^ 32 → most < n → bytes ≡ four n ++ rest → StopsAt (four_upto most bytes) left → four_upto most bytes ≡ Err left
four_above most n bytes rest left small fits more is stop = failing (four_upto most bytes) left stop (λ a end e.
    let read = (four_format most small).takes bytes a end e in
    let both : any_four bytes ≡ Ok (a, end) = ap any_four read.parts ∙ any_four_format.again a end (omega (arith, read.ok)) in
    let other : any_four bytes ≡ Ok (n, rest) = ap any_four is ∙ any_four_format.again n rest fits in
    let same = same_value a n end rest (sym both ∙ other) in
    omega (arith, same, read.ok, more))

pub four_short : (most : ℕ) (bytes left : List ℕ) → most < 2 ^ 32 → length bytes < 4 → StopsAt (four_upto most bytes) left → four_upto most bytes ≡ Err left
four_short most bytes left small short stop = failing (four_upto most bytes) left stop (λ a end e.
    let read = (four_format most small).takes bytes a end e in
    omega (arith, short, ap length read.parts, length-append (four a) end, four_length a))

-- ---- eight bytes

pub eight_stops : (bytes left : List ℕ) → StopsAt (number 8 (pos 0) (pos (2 ^ 64 - 1)) bytes) left → StopsAt (any_eight bytes) left
eight_stops bytes left stop = map_stops unsigned_abs (number 8 (pos 0) (pos (2 ^ 64 - 1))) bytes left stop

pub eight_is_read : (n : ℕ) (bytes rest : List ℕ) → n < 2 ^ 64 → bytes ≡ eight n ++ rest → any_eight bytes ≡ Ok (n, rest)
eight_is_read n bytes rest fits is = ap any_eight is ∙ any_eight_format.again n rest fits

pub eight_short : (bytes left : List ℕ) → length bytes < 8 → StopsAt (any_eight bytes) left → any_eight bytes ≡ Err left
eight_short bytes left short stop = failing (any_eight bytes) left stop (λ a end e.
    let read = any_eight_format.takes bytes a end e in
    omega (arith, short, ap length read.parts, length-append (eight a) end, eight_length a))

-- ---- signed numbers

module _ (lo hi : ℤ) (low : least ≤ℤ lo) (high : hi ≤ℤ greatest) (some : lo ≤ℤ hi) where
  format : IsFormat signed_bytes (λ z. (lo ≤ℤ z) × (z ≤ℤ hi)) (between lo hi)
  format = between_format lo hi some low high

  pub signed_is_read : (z : ℤ) (bytes rest : List ℕ) → lo ≤ℤ z → z ≤ℤ hi → bytes ≡ signed_bytes z ++ rest → between lo hi bytes ≡ Ok (z, rest)
  signed_is_read z bytes rest l h is = ap (between lo hi) is ∙ format.again z rest (l, h)

  pub signed_outside : (z : ℤ) (bytes rest left : List ℕ) → least ≤ℤ z → z ≤ℤ greatest → ((lo ≤ℤ z) → (z ≤ℤ hi) → ⊥) → bytes ≡ signed_bytes z ++ rest → StopsAt (between lo hi bytes) left → between lo hi bytes ≡ Err left
  signed_outside z bytes rest left l h outside is stop = failing (between lo hi bytes) left stop (λ a end e.
      let read = format.takes bytes a end e in
      let both : any_word bytes ≡ Ok (a, end) = ap any_word read.parts ∙ any_word_format.again a end (omega (arith, ints, low, read.ok.0), omega (arith, ints, high, read.ok.1)) in
      let other : any_word bytes ≡ Ok (z, rest) = ap any_word is ∙ any_word_format.again z rest (l, h) in
      let same = same_value a z end rest (sym both ∙ other) in
      outside (subst (λ (y : ℤ). lo ≤ℤ y) same read.ok.0) (subst (λ (y : ℤ). y ≤ℤ hi) same read.ok.1))

  pub signed_short : (bytes left : List ℕ) → length bytes < 8 → StopsAt (between lo hi bytes) left → between lo hi bytes ≡ Err left
  signed_short bytes left short stop = failing (between lo hi bytes) left stop (λ a end e.
      let read = format.takes bytes a end e in
      omega (arith, short, ap length read.parts, length-append (signed_bytes a) end, signed_length a))

-- ---- signed numbers as the code reads them

abbrev pub read_word : ℤ → ℤ
read_word z = to_z w64 (of_z w64 z)

tests_are : (a b : ℤ) → SFits w64 a → SFits w64 b → lt_z (read_word a) (read_word b) ≡ lt_z a b
tests_are a b f g = ap (λ (z : ℤ). lt_z z (read_word b)) (to_z-of_z w64 a f) ∙ ap (lt_z a) (to_z-of_z w64 b g)

pub is_less : (a b : ℤ) → SFits w64 a → SFits w64 b → lt_z (read_word a) (read_word b) ≡ true → a <ℤ b
is_less a b f g h = lt-true a b (sym (tests_are a b f g) ∙ h)

pub not_less : (a b : ℤ) → SFits w64 a → SFits w64 b → lt_z (read_word a) (read_word b) ≡ false → b ≤ℤ a
not_less a b f g h = lt-false a b (sym (tests_are a b f g) ∙ h)

pub seen_again : (read : Result (ℤ × List ℕ) (List ℕ)) (z : ℤ) (rest : List ℕ) → SFits w64 z → read ≡ Ok (z, rest) → read ≡ Ok (read_word z, rest)
seen_again read z rest f e = subst (λ (y : ℤ). read ≡ Ok (y, rest)) (sym (to_z-of_z w64 z f)) e
