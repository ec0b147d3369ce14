-- Bytes that texts of numbers don't have, and the text after the first such byte.
use Rattle.std.proofs.Common.{◌≡◌, ℕ, zero, suc, ◌+◌, ◌≤◌, ◌<◌, Bool, true, false, cond, List, [], ◌∷◌, ◌++◌, length, take, drop, Some, None, ◌⊎◌, inl, inr, refl, sym, ap, ◌∙◌, arith}
use Rattle.std.specs.Prelude.{◌/◌, ◌%◌, ◌==◌, ◌||◌, ℤ, pos, negsuc, not, nat_lt, decimal}
use Rattle.std.specs.Fmt.{digits, digits_onto, digit_glyph, signed_decimal}
use Rattle.std.specs.List.{AllByRecursion, list_any, onto_first, position, position_or_len, slice_split}
use Rattle.std.proofs.lemmas.Bool.{ltb-true, ltb-false, ne_eqb, or_from, or_parts}
use Rattle.std.proofs.lemmas.Bool.Decides.{nat_tests}
use Rattle.std.proofs.lemmas.List.{drop_all, take_all}
use Rattle.std.proofs.lemmas.List.Splits.{slice_split-cons_no, slice_split-cons_yes}
use Rattle.audit_looks.specs.Lines.{ahead, behind}

-- ---- missing bytes

-- no byte of a text passes
abbrev pub Lacks : (ℕ → Bool) → List ℕ → Type 0
Lacks p text = list_any p text ≡ false

pub any_over : (p : ℕ → Bool) (a b : List ℕ) → Lacks p a → list_any p (a ++ b) ≡ list_any p b
any_over p [] b l = refl
any_over p (x ∷ a) b l =
    let parts = or_parts (p x) (list_any p a) l in
    ap (λ t. t || list_any p (a ++ b)) parts.0 ∙ any_over p a b parts.1

pub lacks_append : (p : ℕ → Bool) (a b : List ℕ) → Lacks p a → Lacks p b → Lacks p (a ++ b)
lacks_append p a b l m = any_over p a b l ∙ m

pub lacks_drop : (p : ℕ → Bool) (n : ℕ) (text : List ℕ) → Lacks p text → Lacks p (drop n text)
lacks_drop p zero text l = l
lacks_drop p (suc n) [] l = refl
lacks_drop p (suc n) (x ∷ text) l = lacks_drop p n text (or_parts (p x) (list_any p text) l).1

-- no byte passes a test that is true of fewer bytes
pub lacks_too : (p q : ℕ → Bool) → ((b : ℕ) → p b ≡ false → q b ≡ false) → (text : List ℕ) → Lacks p text → Lacks q text
lacks_too p q fails [] l = refl
lacks_too p q fails (x ∷ text) l =
    let parts = or_parts (p x) (list_any p text) l in
    or_from (q x) (list_any q text) (fails x parts.0) (lacks_too p q fails text parts.1)

-- what is true of each element of two lists in order is true of those of each list
pub all_parts : (P : ℕ → Type 0) (xs ys : List ℕ) → AllByRecursion P (xs ++ ys) → AllByRecursion P xs × AllByRecursion P ys
all_parts P [] ys a = (tt, a)
all_parts P (x ∷ xs) ys a = let parts = all_parts P xs ys a.1 in ((a.0, parts.0), parts.1)

-- ---- digits

abbrev pub IsDigit : ℕ → Type 0
IsDigit b = (48 ≤ b) × (b ≤ 57)

glyph_digit : (n : ℕ) → IsDigit (digit_glyph false (n % 10))
glyph_digit n = elim (nat_lt (n % 10) 10) as (λ t. nat_lt (n % 10) 10 ≡ t → IsDigit (cond t (48 + n % 10) (87 + n % 10))) [
  | true ↦ λ e. (omega arith, omega arith)
  | false ↦ λ e. absurd (grind (arith, nat_tests))
] refl

digits_onto_digits : (k n : ℕ) (acc : List ℕ) → AllByRecursion IsDigit acc → AllByRecursion IsDigit (digits_onto k 10 false n acc)
digits_onto_digits zero n acc a = a
digits_onto_digits (suc k) n acc a =
    let glyph : ℕ = digit_glyph false (n % 10) in
    let more : AllByRecursion IsDigit (glyph ∷ acc) = (glyph_digit n, a) in
    elim (n / 10 == 0) as (λ t. AllByRecursion IsDigit (cond t (glyph ∷ acc) (digits_onto k 10 false (n / 10) (glyph ∷ acc)))) [
      | true ↦ more
      | false ↦ digits_onto_digits k (n / 10) (glyph ∷ acc) more
    ]

pub decimal_digits : (n : ℕ) → AllByRecursion IsDigit (decimal n)
unfolding digits
decimal_digits n = digits_onto_digits 64 n [] tt

pub digits_lack : (p : ℕ → Bool) (ds : List ℕ) → ((b : ℕ) → IsDigit b → p b ≡ false) → AllByRecursion IsDigit ds → Lacks p ds
digits_lack p [] lacks a = refl
digits_lack p (d ∷ ds) lacks a = or_from (p d) (list_any p ds) (lacks d a.0) (digits_lack p ds lacks a.1)

-- a byte other than a digit
abbrev pub IsMark : ℕ → Type 0
IsMark byte = (b : ℕ) → IsDigit b → (b == byte) ≡ false

pub low_mark : (byte : ℕ) → byte < 48 → IsMark byte
low_mark byte le = λ b d. ne_eqb b byte (λ e. absurd (omega (arith, d.0, le, e)))

pub high_mark : (byte : ℕ) → 57 < byte → IsMark byte
high_mark byte le = λ b d. ne_eqb b byte (λ e. absurd (omega (arith, d.1, le, e)))

pub decimal_lacks : (byte n : ℕ) → IsMark byte → Lacks (λ b. b == byte) (decimal n)
decimal_lacks byte n mark = digits_lack (λ b. b == byte) (decimal n) mark (decimal_digits n)

pub signed_fails : (p : ℕ → Bool) (z : ℤ) → ((b : ℕ) → IsDigit b → p b ≡ false) → p 45 ≡ false → Lacks p (signed_decimal z)
signed_fails p (pos n) lacks minus = digits_lack p (decimal n) lacks (decimal_digits n)
signed_fails p (negsuc n) lacks minus = or_from (p 45) (list_any p (decimal (suc n))) minus (digits_lack p (decimal (suc n)) lacks (decimal_digits (suc n)))

pub signed_lacks : (byte : ℕ) (z : ℤ) → IsMark byte → (45 == byte) ≡ false → Lacks (λ b. b == byte) (signed_decimal z)
signed_lacks byte z mark minus = signed_fails (λ b. b == byte) z mark minus

-- ---- after a byte

pub behind_over : (byte : ℕ) (a b : List ℕ) → Lacks (λ x. x == byte) a → behind byte (a ++ b) ≡ behind byte b
behind_over byte [] b l = refl
behind_over byte (x ∷ a) b l =
    let parts = or_parts (x == byte) (list_any (λ y. y == byte) a) l in
    ap (λ t. cond t (a ++ b) (behind byte (a ++ b))) parts.0 ∙ behind_over byte a b parts.1

-- ---- lines

onto_line : (p : ℕ → Bool) (x : ℕ) (line : List ℕ) (rest : List (List ℕ)) (text : List ℕ) → p x ≡ false → slice_split p text ≡ line ∷ rest → slice_split p (x ∷ text) ≡ (x ∷ line) ∷ rest
onto_line p x line rest text passes is = slice_split-cons_no p x text passes ∙ ap (onto_first x) is

-- the first line of a text
pub first_line : (p : ℕ → Bool) (line : List ℕ) (end : ℕ) (text : List ℕ) → Lacks p line → p end ≡ true → slice_split p (line ++ end ∷ text) ≡ line ∷ slice_split p text
first_line p [] end text l ends = slice_split-cons_yes p end text ends
first_line p (x ∷ line) end text l ends =
    let parts = or_parts (p x) (list_any p line) l in
    onto_line p x line (slice_split p text) (line ++ end ∷ text) parts.0 (first_line p line end text parts.1 ends)

-- the first part of a text that is split at a byte, and then the parts of the rest
split_parts : (byte : ℕ) (text : List ℕ) → (slice_split (λ b. b == byte) text ≡ ahead byte text ∷ slice_split (λ b. b == byte) (behind byte text)) ⊎ ((slice_split (λ b. b == byte) text ≡ ahead byte text ∷ []) × (behind byte text ≡ []))
split_parts byte [] = inr (refl, refl)
split_parts byte (b ∷ text) = by (b == byte) refl (split_parts byte text)
  where
    p : ℕ → Bool
    p x = x == byte

    by : (ends : Bool) → p b ≡ ends → (slice_split p text ≡ ahead byte text ∷ slice_split p (behind byte text)) ⊎ ((slice_split p text ≡ ahead byte text ∷ []) × (behind byte text ≡ [])) → (cond ends ([] ∷ slice_split p text) (onto_first b (slice_split p text)) ≡ cond ends [] (b ∷ ahead byte text) ∷ slice_split p (cond ends text (behind byte text))) ⊎ ((cond ends ([] ∷ slice_split p text) (onto_first b (slice_split p text)) ≡ cond ends [] (b ∷ ahead byte text) ∷ []) × (cond ends text (behind byte text) ≡ []))
    by true e rest = inl refl
    by false e (inl is) = inl (ap (onto_first b) is)
    by false e (inr is) = inr (ap (onto_first b) is.0, is.1)

-- a text is split at a byte into the text before the first one and the parts after it. If the text doesn't have the
-- byte, nothing comes after
pub split_first : {X : Type 0} (byte : ℕ) (text : List ℕ) (of : List (List ℕ) → X) (line : List ℕ → X → X) → ((l : List ℕ) (ls : List (List ℕ)) → of (l ∷ ls) ≡ line l (of ls)) → of [] ≡ of ([] ∷ []) → of (slice_split (λ b. b == byte) text) ≡ line (ahead byte text) (of (slice_split (λ b. b == byte) (behind byte text)))
split_first byte text of line goes empty = by (split_parts byte text)
  where
    p : ℕ → Bool
    p x = x == byte

    by : (slice_split p text ≡ ahead byte text ∷ slice_split p (behind byte text)) ⊎ ((slice_split p text ≡ ahead byte text ∷ []) × (behind byte text ≡ [])) → of (slice_split p text) ≡ line (ahead byte text) (of (slice_split p (behind byte text)))
    by (inl is) = ap of is ∙ goes (ahead byte text) (slice_split p (behind byte text))
    by (inr is) = ap of is.0 ∙ goes (ahead byte text) [] ∙ ap (line (ahead byte text)) (empty ∙ ap (λ t. of (slice_split p t)) (sym is.1))

-- the text after a byte is shorter
pub behind_shorter : (byte : ℕ) (text : List ℕ) → 0 < length text → length (behind byte text) < length text
behind_shorter byte [] some = absurd (omega (arith, some))
behind_shorter byte (b ∷ text) some = by (b == byte)
  where
    no_longer : (rest : List ℕ) → length (behind byte rest) ≤ length rest
    no_longer [] = omega arith
    no_longer (x ∷ rest) =
        let less = no_longer rest in
        elim (x == byte) as (λ t. length (cond t rest (behind byte rest)) ≤ suc (length rest)) [ true ↦ omega arith | false ↦ omega (arith, less) ]

    by : (ends : Bool) → length (cond ends text (behind byte text)) < suc (length text)
    by true = omega arith
    by false = let less = no_longer text in omega (arith, less)

-- ---- places

ahead_is : (byte : ℕ) (text : List ℕ) → ahead byte text ≡ take (position_or_len (λ b. b == byte) text) text
ahead_is byte [] = refl
ahead_is byte (b ∷ text) =
    let n = position_or_len (λ x. x == byte) text in
    let up : 1 + n ≡ suc n = omega arith in
    elim (b == byte) as (λ t. cond t [] (b ∷ ahead byte text) ≡ take (cond (not t) (1 + n) 0) (b ∷ text)) [
      | true ↦ refl
      | false ↦ ap (λ l. b ∷ l) (ahead_is byte text) ∙ ap (λ k. take k (b ∷ text)) (sym up)
    ]

behind_is : (byte : ℕ) (text : List ℕ) → behind byte text ≡ drop (position_or_len (λ b. b == byte) text + 1) text
behind_is byte [] = refl
behind_is byte (b ∷ text) =
    let n = position_or_len (λ x. x == byte) text in
    let up : 1 + n + 1 ≡ suc (n + 1) = omega arith in
    elim (b == byte) as (λ t. cond t text (behind byte text) ≡ drop (cond (not t) (1 + n) 0 + 1) (b ∷ text)) [
      | true ↦ refl
      | false ↦ behind_is byte text ∙ ap (λ k. drop k (b ∷ text)) (sym up)
    ]

-- the index at which the first such byte is found
pub record IsPlace (byte : ℕ) (text : List ℕ) (at : ℕ) : Type 0 where
  pub within : at < length text
  pub ahead : take at text ≡ ahead byte text
  pub behind : drop (at + 1) text ≡ behind byte text

pub place_is : (byte : ℕ) (text : List ℕ) (at : ℕ) → Some at ≡ position (λ b. b == byte) text → IsPlace byte text at
place_is byte text at e = by (nat_lt n (length text)) refl e
  where
    n : ℕ
    n = position_or_len (λ b. b == byte) text

    by : (found : Bool) → nat_lt n (length text) ≡ found → Some at ≡ cond found (Some n) None → IsPlace byte text at
    by true l s =
        let same : at ≡ n = cc in
        record {
          within = omega (arith, same, ltb-true n (length text) l);
          ahead = ap (λ k. take k text) same ∙ sym (ahead_is byte text);
          behind = ap (λ k. drop (k + 1) text) same ∙ sym (behind_is byte text);
        }
    by false l s = absurd cc

-- no such byte is found
pub record HasNone (byte : ℕ) (text : List ℕ) : Type 0 where
  pub ahead : text ≡ ahead byte text
  pub behind : [] ≡ behind byte text

pub none_is : (byte : ℕ) (text : List ℕ) → None ≡ position (λ b. b == byte) text → HasNone byte text
none_is byte text e = by (nat_lt n (length text)) refl e
  where
    n : ℕ
    n = position_or_len (λ b. b == byte) text

    by : (found : Bool) → nat_lt n (length text) ≡ found → None ≡ cond found (Some n) None → HasNone byte text
    by true l s = absurd cc
    by false l s =
        let past : length text ≤ n = ltb-false n (length text) l in
        record {
          ahead = sym (ahead_is byte text ∙ take_all n text past);
          behind = sym (behind_is byte text ∙ drop_all (n + 1) text (omega (arith, past)));
        }
