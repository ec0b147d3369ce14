-- A text is escaped byte by byte.
use Rattle.std.proofs.Common.{◌≡◌, ℕ, suc, ◌+◌, ◌-◌, ◌/◌, ◌%◌, ◌<◌, ◌≤◌, Bool, true, false, cond, ◌==◌, nat_lt, nat_le, List, [], ◌∷◌, ◌++◌, length, take, drop, refl, sym, ap, ◌∙◌, subst, take-append-drop, append-nil, Option, arith}
use Rattle.std.specs.Char.{digit_char}
use Rattle.std.specs.List.{prefix_len}
use Rattle.std.proofs.lemmas.Bool.Decides.{nat_tests}
use Rattle.std.proofs.lemmas.List.Concat.{flat_map-append}
use Rattle.json.specs.Print.{escape, escape_byte, escape_letter}
use Rattle.std.proofs.lemmas.List.{take_rest}
use Rattle.ts_io.specs.Whole.{AppendsPart}
use Rattle.ts_schema.proofs.Cases.{and_first, and_second}
use Rattle.transcript.specs.Sending.{Gathers, is_plain}
use Rattle.transcript.proofs.Sequel.{SentSome, first_failed, some_failed, some_sent}

-- a text is its front and its rest
pub escape_apart : (n : ℕ) (text : List ℕ) → escape text ≡ escape (take n text) ++ escape (drop n text)
escape_apart n text = ap escape (sym (take-append-drop n text)) ∙ flat_map-append escape_byte (take n text) (drop n text)

-- ---- tests

below : (m n : ℕ) → m < n → nat_lt m n ≡ true
below m n h = grind (arith, nat_tests)

not_below : (m n : ℕ) → n ≤ m → nat_lt m n ≡ false
not_below m n h = grind (arith, nat_tests)

none_below : (n : ℕ) → (n == 0) ≡ true → nat_lt 0 n ≡ false
none_below n h = grind (arith, nat_tests)

at_least : (m n : ℕ) → nat_le m n ≡ true → nat_lt n m ≡ false
at_least m n h = grind (arith, nat_tests)

-- ---- a byte

-- its text, by whether it has a short escape, and whether it is a control character
chosen : ℕ → Bool → Bool → List ℕ
chosen byte short control = cond short (92 ∷ escape_letter byte ∷ []) (cond control (92 ∷ 117 ∷ 48 ∷ 48 ∷ digit_char (byte / 16) ∷ digit_char (byte % 16) ∷ []) (byte ∷ []))

by_choice : (byte : ℕ) (short control : Bool) → nat_lt 0 (escape_letter byte) ≡ short → nat_lt byte 32 ≡ control → escape_byte byte ≡ chosen byte short control
unfolding escape_byte chosen
by_choice byte short control a b = λ i. chosen byte (a i) (b i)

-- a byte that needs no escape
pub plain_byte : (byte : ℕ) → is_plain byte ≡ true → byte ∷ [] ≡ escape_byte byte
unfolding chosen
plain_byte byte plain =
    sym (by_choice byte false false (none_below (escape_letter byte) (and_first (escape_letter byte == 0) (nat_le 32 byte) plain)) (at_least 32 byte (and_second (escape_letter byte == 0) (nat_le 32 byte) plain)))

-- a byte with a short escape
pub short_byte : (byte letter : ℕ) → letter ≡ escape_letter byte → 0 < letter → 92 ∷ letter ∷ [] ≡ escape_byte byte
unfolding chosen
short_byte byte letter is some =
    ap (λ l. 92 ∷ l ∷ []) is ∙ sym (by_choice byte true (nat_lt byte 32) (below 0 (escape_letter byte) (subst (λ l. 0 < l) is some)) refl)

-- a control character without a short escape
pub control_byte : (byte letter high low : ℕ) → letter ≡ escape_letter byte → letter ≤ 0 → byte < 32 → high ≡ digit_char (byte / 16) → low ≡ digit_char (byte % 16)
    → 92 ∷ 117 ∷ 48 ∷ 48 ∷ high ∷ low ∷ [] ≡ escape_byte byte
unfolding chosen
control_byte byte letter high low is none control high_is low_is =
    (λ i. 92 ∷ 117 ∷ 48 ∷ 48 ∷ high_is i ∷ low_is i ∷ [])
    ∙ sym (by_choice byte false true (not_below 0 (escape_letter byte) (subst (λ l. l ≤ 0) is none)) (below byte 32 control))

-- any other byte
pub other_byte : (byte letter : ℕ) → letter ≡ escape_letter byte → letter ≤ 0 → 32 ≤ byte → byte ∷ [] ≡ escape_byte byte
unfolding chosen
other_byte byte letter is none above =
    sym (by_choice byte false false (not_below 0 (escape_letter byte) (subst (λ l. l ≤ 0) is none)) (not_below byte 32 above))

-- the bytes at the beginning of a text that need no escape
pub plain_front : (text : List ℕ) → escape (take (prefix_len is_plain text) text) ≡ take (prefix_len is_plain text) text
plain_front [] = refl
plain_front (byte ∷ bytes) = by (is_plain byte) refl (plain_front bytes)
  where
    n : ℕ
    n = prefix_len is_plain bytes

    more : 1 + n ≡ suc n
    more = omega arith

    by : (t : Bool) → is_plain byte ≡ t → escape (take n bytes) ≡ take n bytes → escape (take (cond t (1 + n) 0) (byte ∷ bytes)) ≡ take (cond t (1 + n) 0) (byte ∷ bytes)
    by false e rest = refl
    by true e rest =
        subst (λ k. escape (take k (byte ∷ bytes)) ≡ take k (byte ∷ bytes)) (sym more)
        (ap (λ s. s ++ escape (take n bytes)) (sym (plain_byte byte e)) ∙ ap (λ s. byte ∷ s) rest)

-- ---- a text sent in parts

plain_taken : (text : List ℕ) (n : ℕ) → n ≡ prefix_len is_plain text → escape (take n text) ≡ take n text
plain_taken text n is = subst (λ k. escape (take k text) ≡ take k text) (sym is) (plain_front text)

-- bytes at the beginning that need no escape
pub plain_sent : (old new : Option (List ℕ)) (page after text : List ℕ) (n : ℕ) → n ≡ prefix_len is_plain text → Gathers old new page after (take n text) → Gathers old new page after (escape (take n text))
plain_sent old new page after text n is g = subst (Gathers old new page after) (sym (plain_taken text n is)) g

-- a part of these bytes is a part of the text
pub plain_failed : (old new : Option (List ℕ)) (page text : List ℕ) (n : ℕ) → n ≡ prefix_len is_plain text → AppendsPart old new (page ++ take n text) → AppendsPart old new (page ++ escape text)
plain_failed old new page text n is part =
    let apart : take n text ++ escape (drop n text) ≡ escape text = ap (λ s. s ++ escape (drop n text)) (sym (plain_taken text n is)) ∙ sym (escape_apart n text) in
    subst (λ s. AppendsPart old new (page ++ s)) apart (first_failed old new page (take n text) (escape (drop n text)) part)

module _ (old mid new : Option (List ℕ)) (before page : List ℕ) (text left : List ℕ) (h : SentSome old mid before page text (escape left)) where
  -- the front of the rest was sent; the new rest is as the code cuts it
  pub front_sent : (after : List ℕ) (n : ℕ) → Gathers mid new page after (escape (take n left)) → SentSome old new before after text (escape (take (length left - n) (drop n left)))
  front_sent after n more =
      subst (λ rest. SentSome old new before after text (escape rest)) (sym (take_rest left n))
      (some_sent old mid new before page after text (escape (take n left)) (escape (drop n left)) (subst (SentSome old mid before page text) (escape_apart n left) h) more)

  -- or a part of it was written
  pub left_failed : AppendsPart mid new (page ++ escape left) → AppendsPart old new (before ++ text)
  left_failed part = some_failed old mid new before page [] text (escape left) [] (subst (SentSome old mid before page text) (sym (append-nil (escape left))) h) part
