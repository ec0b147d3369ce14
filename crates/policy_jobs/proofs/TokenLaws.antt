-- The tokens of a text in order, by the bytes that are left.
use Rattle.std.proofs.Common.{◌≡◌, ◌∙◌, refl, sym, ap, subst, ℕ, suc, ◌+◌, ◌<◌, ◌≤◌, ◌^◌, ℤ, pos, negsuc, neg_ℤ, Bool, true, false, cond, eqb, leb, ◌&&◌, List, [], ◌∷◌, ◌++◌, length, take, drop, get_or, Option, Some, None, arith}
use lib.Signed.{mag}
use Rattle.std.specs.Prelude.{decimal}
use Rattle.std.specs.Char.{is_ascii_digit, to_ascii_lowercase}
use Rattle.std.specs.Fmt.{signed_decimal}
use Rattle.std.specs.List.{list_all, prefix_len}
use Rattle.std.specs.Str.Parse.{AllDigits, IsNumeral, digits_value, signed_digits_value}
use Rattle.std.proofs.Math.Numerals.{one-add}
use Rattle.std.proofs.Math.Seq.{drop-append_seam, take-append_seam}
use Rattle.std.proofs.lemmas.Bool.{and_from, and_parts, le-leb, ne_eqb, true≢false}
use Rattle.std.proofs.lemmas.Bool.Decides.{nat_tests}
use Rattle.std.proofs.lemmas.Fmt.{decimal_is_IsNumeral}
use Rattle.std.proofs.lemmas.List.{drop-drop, length-drop}
use Rattle.std.proofs.lemmas.Str.Parse.{digit_from_value}
use Rattle.ts_schema.specs.Names.{is_head, is_name, is_tail}
use Rattle.stmt_tokens.specs.Bytes.{is_space, begins_word, continues_word, lower}
use Rattle.stmt_tokens.specs.Streams.{ends, ◌then◌, stream}
use Rattle.stmt_tokens.specs.Tokens.{Lexeme, Token, token, number, quoted, mark, begins_with, blank_len, is_return, lexeme_at, next_here, number_at, of_lexeme, sign_len}
use Rattle.stmt_syntax.specs.Limits.{is_i64}
use Rattle.stmt_tokens.specs.declared.tokens.Mark.TheVariants.{Open, Close, Comma}
use Rattle.stmt_tokens.proofs.Flow.{stream_is_flow, flow}
use Rattle.stmt_tokens.proofs.Lexemes.{Fits, blank_len-le-length, lexeme_fits}
use Rattle.stmt_tokens.proofs.Named.{lower_name}

-- ---- the first token

-- the token of a lexeme, and the bytes after it
abbrev pub behind : List ℕ → Option Lexeme → Option (Token × List ℕ)
behind bytes None = None
behind bytes (Some l) = Some (l.token, drop l.len bytes)

-- the first token of bytes, and the bytes after it
abbrev pub first_token : List ℕ → Option (Token × List ℕ)
first_token bytes = let here = drop (blank_len bytes) bytes in behind here (lexeme_at here)

-- a byte of a text, and the bytes that are left there
pub record IsAt (text : List ℕ) (skip : ℕ) (bytes : List ℕ) : Type 0 where
  pub within : skip ≤ length text
  pub left : drop skip text ≡ bytes

-- a token comes next at a byte, and these bytes are left after it
pub record Comes (text : List ℕ) (skip : ℕ) (t : Token) (rest : List ℕ) : Type 0 where
  pub at : ℕ
  pub end : ℕ
  pub is : stream text skip ≡ (record { at = at; token = t }) then stream text end
  pub left : IsAt text end rest

abbrev token_in : Token → Option (Token × List ℕ) → Token
token_in other None = other
token_in other (Some x) = x.0

abbrev rest_in : Option (Token × List ℕ) → List ℕ
rest_in None = []
rest_in (Some x) = x.1

-- the same if no blank precedes it
record ComesHere (begin : ℕ) (bytes : List ℕ) (t : Token) (rest : List ℕ) : Type 0 where
  len : ℕ
  is : next_here begin bytes ≡ token t begin (begin + len)
  rest_is : drop len bytes ≡ rest
  within : len ≤ length bytes

lexeme_here : (begin b : ℕ) (bytes : List ℕ) (o : Option Lexeme) (t : Token) (rest : List ℕ) → lexeme_at (b ∷ bytes) ≡ o → behind (b ∷ bytes) o ≡ Some (t, rest) → ComesHere begin (b ∷ bytes) t rest
lexeme_here begin b bytes None t rest o-is e = absurd cc
lexeme_here begin b bytes (Some l) t rest o-is e = record {
  len = l.len;
  is = ap (of_lexeme begin) o-is ∙ ap (λ k. token k begin (begin + l.len)) (ap (token_in t) e);
  rest_is = ap rest_in e;
  within = (subst (λ (k : Option Lexeme). Fits (length (b ∷ bytes)) k) o-is (lexeme_fits (b ∷ bytes))).1;
}

comes_here : (begin : ℕ) (bytes : List ℕ) (t : Token) (rest : List ℕ) → behind bytes (lexeme_at bytes) ≡ Some (t, rest) → ComesHere begin bytes t rest
comes_here begin [] t rest e = absurd cc
comes_here begin (b ∷ bytes) t rest e = lexeme_here begin b bytes (lexeme_at (b ∷ bytes)) t rest refl e

comes_at : (text : List ℕ) (skip : ℕ) (t : Token) (rest : List ℕ) → skip ≤ length text → first_token (drop skip text) ≡ Some (t, rest) → Comes text skip t rest
comes_at text skip t rest within e =
    let n : ℕ = blank_len (drop skip text) in
    let begin : ℕ = skip + n in
    let same : drop n (drop skip text) ≡ drop begin text = drop-drop n skip text in
    let here : ComesHere begin (drop begin text) t rest = comes_here begin (drop begin text) t rest (sym (ap (λ b. behind b (lexeme_at b)) same) ∙ e) in
    record {
      at = begin + 1;
      end = begin + here.len;
      is = stream_is_flow text skip within ∙ ap (λ f. flow skip f (stream text)) here.is;
      left = record {
        within = omega (arith, here.within, length-drop begin text, length-drop skip text, blank_len-le-length (drop skip text));
        left = sym (drop-drop here.len begin text) ∙ here.rest_is;
      };
    }

-- the first token of the bytes that are left comes next
pub comes : (text bytes rest : List ℕ) (skip : ℕ) (t : Token) → IsAt text skip bytes → first_token bytes ≡ Some (t, rest) → Comes text skip t rest
comes text bytes rest skip t at e = comes_at text skip t rest at.within (ap first_token at.left ∙ e)

-- if no bytes are left, the tokens end
pub ends_at : (text : List ℕ) (skip : ℕ) → IsAt text skip [] → stream text skip ≡ ends (skip + 1)
ends_at text skip at =
    let n : ℕ = blank_len (drop skip text) in
    let nothing : drop (skip + n) text ≡ [] = sym (drop-drop n skip text) ∙ ap (λ b. drop (blank_len b) b) at.left in
    stream_is_flow text skip at.within ∙ ap (λ b. flow skip (next_here (skip + n) b) (stream text)) nothing

-- ---- blanks and marks

return_not : (b : ℕ) (bytes : List ℕ) → eqb b 13 ≡ false → is_return (b ∷ bytes) ≡ false
return_not b [] e = e
return_not b (c ∷ bytes) e = refl

pub not_blank : (b : ℕ) (bytes : List ℕ) → is_space b ≡ false → eqb b 13 ≡ false → blank_len (b ∷ bytes) ≡ 0
not_blank b bytes no_space no_return =
    let none : prefix_len is_space (b ∷ bytes) ≡ 0 = rw no_space refl in
    ap (λ n. cond (is_return (drop n (b ∷ bytes))) (n + 1) n) none ∙ ap (λ t. cond t 1 0) (return_not b bytes no_return)

-- no blank precedes
pub first_here : (b : ℕ) (bytes : List ℕ) → is_space b ≡ false → eqb b 13 ≡ false → first_token (b ∷ bytes) ≡ behind (b ∷ bytes) (lexeme_at (b ∷ bytes))
first_here b bytes no_space no_return = ap (λ n. let here = drop n (b ∷ bytes) in behind here (lexeme_at here)) (not_blank b bytes no_space no_return)

one_blank_more : (r : Bool) (n : ℕ) → cond r (suc n + 1) (suc n) ≡ suc (cond r (n + 1) n)
one_blank_more true n = omega arith
one_blank_more false n = refl

-- a space at the beginning changes nothing
pub behind_space : (bytes : List ℕ) → first_token (32 ∷ bytes) ≡ first_token bytes
behind_space bytes =
    let n : ℕ = prefix_len is_space bytes in
    let blanks : blank_len (32 ∷ bytes) ≡ suc (blank_len bytes) =
    ap (λ k. cond (is_return (drop k (32 ∷ bytes))) (k + 1) k) (one-add n) ∙ one_blank_more (is_return (drop n bytes)) n
    in
    ap (λ k. let here = drop k (32 ∷ bytes) in behind here (lexeme_at here)) blanks

pub opening : (rest : List ℕ) → first_token (40 ∷ rest) ≡ Some (mark Open, rest)
opening [] = refl
opening (b ∷ rest) = refl

pub closing : (rest : List ℕ) → first_token (41 ∷ rest) ≡ Some (mark Close, rest)
closing [] = refl
closing (b ∷ rest) = refl

pub comma : (rest : List ℕ) → first_token (44 ∷ rest) ≡ Some (mark Comma, rest)
comma [] = refl
comma (b ∷ rest) = refl

-- ---- numbers

-- properties of a digit
pub record IsDigit (d : ℕ) : Type 0 where
  pub low : 48 ≤ d
  pub high : d ≤ 57

pub digit_in_front : (d : ℕ) (ds : List ℕ) → AllDigits 10 (d ∷ ds) → IsDigit d
digit_in_front d ds all = let range = digit_from_value d all.0 in record { low = range.0; high = range.1 }

is_digit : (d : ℕ) → IsDigit d → is_ascii_digit d ≡ true
is_digit d h = grind (arith, nat_tests, h.low, h.high)

no_space : (d : ℕ) → IsDigit d → is_space d ≡ false
no_space d h = grind (arith, nat_tests, h.low, h.high)

no_word : (d : ℕ) → IsDigit d → begins_word d ≡ false
no_word d h = grind (arith, nat_tests, h.low, h.high)

digits_in_front : (ds rest : List ℕ) → AllDigits 10 ds → prefix_len is_ascii_digit rest ≡ 0 → prefix_len is_ascii_digit (ds ++ rest) ≡ length ds
digits_in_front [] rest all none = none
digits_in_front (d ∷ ds) rest all none =
    ap (λ t. cond t (1 + prefix_len is_ascii_digit (ds ++ rest)) 0) (is_digit d (digit_in_front d ds all))
    ∙ one-add (prefix_len is_ascii_digit (ds ++ rest))
    ∙ ap suc (digits_in_front ds rest all.1 none)

-- a number by the lengths of its sign and of its digits
abbrev number_by : ℕ → ℕ → List ℕ → Option Lexeme
number_by sign digits bytes = cond (eqb digits 0) None (Some (record { token = number (signed_digits_value 10 (take (sign + digits) bytes)); len = sign + digits }))

-- a sign or none, and then digits
number_here : (sign : ℕ) (text ds rest : List ℕ) → sign_len (text ++ rest) ≡ sign → drop sign (text ++ rest) ≡ ds ++ rest
    → length text ≡ sign + length ds → IsNumeral 10 ds → prefix_len is_ascii_digit rest ≡ 0
    → behind (text ++ rest) (number_at (text ++ rest)) ≡ Some (number (signed_digits_value 10 text), rest)
number_here sign text ds rest sign-is digits-are len numeral none =
    let bytes : List ℕ = text ++ rest in
    let digits : prefix_len is_ascii_digit (drop sign bytes) ≡ length ds = ap (prefix_len is_ascii_digit) digits-are ∙ digits_in_front ds rest numeral.1 none in
    let some : eqb (length ds) 0 ≡ false = ne_eqb (length ds) 0 (λ e. omega (arith, numeral.0)) in
    ap (λ s. behind bytes (number_by s (prefix_len is_ascii_digit (drop s bytes)) bytes)) sign-is
    ∙ ap (λ n. behind bytes (number_by sign n bytes)) digits
    ∙ ap (λ t. behind bytes (cond t None (Some (record { token = number (signed_digits_value 10 (take (sign + length ds) bytes)); len = sign + length ds })))) some
    ∙ ap (λ n. Some (number (signed_digits_value 10 (take n bytes)), drop n bytes)) (sym len)
    ∙ ap (λ t. Some (number (signed_digits_value 10 t), drop (length text) bytes)) (take-append_seam text rest)
    ∙ ap (λ r. Some (number (signed_digits_value 10 text), r)) (drop-append_seam text rest)

-- digits only
digits_here : (ds rest : List ℕ) → IsNumeral 10 ds → prefix_len is_ascii_digit rest ≡ 0 → first_token (ds ++ rest) ≡ Some (number (pos (digits_value 10 ds)), rest)
digits_here [] rest numeral none = absurd (omega (arith, numeral.0))
digits_here (d ∷ ds) rest numeral none =
    let digit : IsDigit d = digit_in_front d ds numeral.1 in
    let no_return : eqb d 13 ≡ false = ne_eqb d 13 (λ e. omega (arith, digit.low)) in
    let no_minus : eqb d 45 ≡ false = ne_eqb d 45 (λ e. omega (arith, digit.low)) in
    let no_plus : eqb d 43 ≡ false = ne_eqb d 43 (λ e. omega (arith, digit.low)) in
    let value : signed_digits_value 10 (d ∷ ds) ≡ pos (digits_value 10 (d ∷ ds)) = rw (no_minus, no_plus) refl in
    let lexeme : lexeme_at (d ∷ (ds ++ rest)) ≡ number_at (d ∷ (ds ++ rest)) = rw (no_word d digit, is_digit d digit) refl in
    first_here d (ds ++ rest) (no_space d digit) no_return
    ∙ ap (behind (d ∷ (ds ++ rest))) lexeme
    ∙ number_here 0 (d ∷ ds) (d ∷ ds) rest (ap (λ t. cond t 1 0) no_minus) refl (omega arith) numeral none
    ∙ ap (λ z. Some (number z, rest)) value

-- a minus and digits
minus_here : (ds rest : List ℕ) → IsNumeral 10 ds → prefix_len is_ascii_digit rest ≡ 0 → first_token (45 ∷ (ds ++ rest)) ≡ Some (number (signed_digits_value 10 (45 ∷ ds)), rest)
minus_here ds rest numeral none =
    first_here 45 (ds ++ rest) refl refl
    ∙ number_here 1 (45 ∷ ds) ds rest refl refl (sym (one-add (length ds))) numeral none

-- the text of a number, with no digit after it
pub number_token : (z : ℤ) (rest : List ℕ) → mag z < 2 ^ 63 → prefix_len is_ascii_digit rest ≡ 0 → first_token (signed_decimal z ++ rest) ≡ Some (number z, rest)
number_token (pos n) rest small none =
    let k = decimal_is_IsNumeral n (omega arith) in
    digits_here (decimal n) rest k.0 none ∙ ap (λ m. Some (number (pos m), rest)) k.1
number_token (negsuc n) rest small none =
    let k = decimal_is_IsNumeral (suc n) (omega arith) in
    minus_here (decimal (suc n)) rest k.0 none ∙ ap (λ m. Some (number (neg_ℤ (pos m)), rest)) k.1

-- the same for a number without a sign after a space
pub decimal_token : (n : ℕ) (rest : List ℕ) → n < 2 ^ 63 → prefix_len is_ascii_digit rest ≡ 0 → first_token (32 ∷ (decimal n ++ rest)) ≡ Some (number (pos n), rest)
decimal_token n rest small none = behind_space (decimal n ++ rest) ∙ number_token (pos n) rest small none

-- a number of 64 bits
pub is_word : (z : ℤ) → mag z < 2 ^ 63 → is_i64 z ≡ true
is_word (pos n) small = le-leb n 9223372036854775807 (omega arith)
is_word (negsuc n) small = and_from _ _ (le-leb n 9223372036854775807 (omega arith)) refl

-- ---- names in quotes

abbrev second : List ℕ → ℕ
second bytes = get_or bytes 1 0

-- a byte of a name is in lower case
tail_lower : (b : ℕ) → is_tail b ≡ true → to_ascii_lowercase b ≡ b
tail_lower b e = ap second (lower_name (97 ∷ b ∷ []) (rw e refl))

-- and continues a word
tail_byte : (b : ℕ) → is_tail b ≡ true → continues_word b ≡ true
tail_byte b e = rw (tail_lower b e) e

tails_in_front : (bs rest : List ℕ) → list_all is_tail bs ≡ true → prefix_len continues_word rest ≡ 0 → prefix_len continues_word (bs ++ rest) ≡ length bs
tails_in_front [] rest all none = none
tails_in_front (b ∷ bs) rest all none =
    let k = and_parts (is_tail b) (list_all is_tail bs) all in
    ap (λ t. cond t (1 + prefix_len continues_word (bs ++ rest)) 0) (tail_byte b k.0)
    ∙ one-add (prefix_len continues_word (bs ++ rest))
    ∙ ap suc (tails_in_front bs rest k.1 none)

-- a name in quotes, by how many bytes continue a word
abbrev quoted_by : Bool → ℕ → List ℕ → Option Lexeme
quoted_by begins n bytes =
    cond (begins && leb n 63 && begins_with 39 (drop n bytes)) (Some (record { token = quoted (lower (take n bytes)); len = n + 2 })) None

past_quotes : (name rest : List ℕ) → drop (length name + 2) (39 ∷ (name ++ 39 ∷ rest)) ≡ rest
past_quotes name rest =
    let more : length name + 2 ≡ suc (length name + 1) = omega arith in
    ap (λ n. drop n (39 ∷ (name ++ 39 ∷ rest))) more
    ∙ sym (drop-drop 1 (length name) (name ++ 39 ∷ rest))
    ∙ ap (drop 1) (drop-append_seam name (39 ∷ rest))

-- a name in quotes, and any text after it
pub quoted_token : (name rest : List ℕ) → is_name name ≡ true → first_token (39 ∷ (name ++ 39 ∷ rest)) ≡ Some (quoted name, rest)
quoted_token [] rest e = absurd (true≢false (sym e))
quoted_token (b ∷ bs) rest e =
    let name : List ℕ = b ∷ bs in
    let left : List ℕ = 39 ∷ rest in
    let k = and_parts (leb (length name) 63 && is_head b) (list_all is_tail bs) e in
    let h = and_parts (leb (length name) 63) (is_head b) k.0 in
    let head : is_tail b ≡ true = rw h.1 refl in
    let tails : list_all is_tail name ≡ true = and_from (is_tail b) (list_all is_tail bs) head k.1 in
    let begins : begins_word b ≡ true = ap is_head (tail_lower b head) ∙ h.1 in
    let len : prefix_len continues_word (name ++ left) ≡ length name = tails_in_front name left tails refl in
    first_here 39 (name ++ left) refl refl
    ∙ ap (λ n. behind (39 ∷ (name ++ left)) (quoted_by (begins_word b) n (name ++ left))) len
    ∙ ap (λ t. behind (39 ∷ (name ++ left)) (quoted_by t (length name) (name ++ left))) begins
    ∙ ap (λ t. behind (39 ∷ (name ++ left)) (cond (t && begins_with 39 (drop (length name) (name ++ left))) (Some (record { token = quoted (lower (take (length name) (name ++ left))); len = length name + 2 })) None)) h.0
    ∙ ap (λ l. behind (39 ∷ (name ++ left)) (cond (begins_with 39 l) (Some (record { token = quoted (lower (take (length name) (name ++ left))); len = length name + 2 })) None)) (drop-append_seam name left)
    ∙ ap (λ w. Some (quoted (lower w), drop (length name + 2) (39 ∷ (name ++ left)))) (take-append_seam name left)
    ∙ ap (λ w. Some (quoted w, drop (length name + 2) (39 ∷ (name ++ left)))) (lower_name name e)
    ∙ ap (λ r. Some (quoted name, r)) (past_quotes name rest)
