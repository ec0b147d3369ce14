-- A word and a quoted name are names in lower case.
use Rattle.std.proofs.Common.{◌≡◌, ℕ, suc, ◌+◌, ◌≤◌, Bool, true, false, cond, eqb, leb, ◌&&◌, List, [], ◌∷◌, length, take, drop, Option, Some, None, refl, sym, ap, subst, ◌∙◌, arith}
use Rattle.std.specs.Prelude.{IsTrue}
use Rattle.std.proofs.lemmas.Bool.{cond_both, and_parts, leb-true, le-leb}
use Rattle.std.proofs.lemmas.Bool.Decides.{nat_tests}
use Rattle.std.proofs.lemmas.List.{length-map}
use Rattle.std.proofs.lemmas.List.Folds.{length-prefix_len}
use Rattle.std.specs.Char.{to_ascii_lowercase, is_ascii_digit}
use Rattle.std.specs.List.{prefix_len, list_all}
use Rattle.std.proofs.Math.Numerals.{one-add}
use Rattle.ts_schema.specs.Names.{is_head, is_tail, is_name}
use Rattle.stmt_tokens.specs.Bytes.{begins_word, continues_word, lower}
use Rattle.stmt_tokens.specs.Tokens.{Lexeme, sign_len, number_at, begins_with, quoted_at, long_mark, short_mark, mark_of_len, or_else, mark_at, lexeme_at, of_lexeme, next_here, next, blank_len}
use Rattle.stmt_tokens.specs.Scan as scan
use Rattle.stmt_tokens.specs.Scan.{SeenNext, seen_token, seen_next, IsNamedToken}

-- a token whose name, if it has one, is a name
abbrev pub IsNamedLexeme : Option Lexeme → Type 0
IsNamedLexeme None = Unit {0}
IsNamedLexeme (Some l) = IsNamedToken (seen_token l.token)

named_if : (b : Bool) (x y : Option Lexeme) → (b ≡ true → IsNamedLexeme x) → (b ≡ false → IsNamedLexeme y) → IsNamedLexeme (cond b x y)
named_if b x y = cond_both b x y IsNamedLexeme

tails : (bs : List ℕ) → list_all is_tail (lower (take (prefix_len continues_word bs) bs)) ≡ true
tails [] = refl
tails (b ∷ bs) =
    cond_both (continues_word b) (1 + prefix_len continues_word bs) 0 (λ n. list_all is_tail (lower (take n (b ∷ bs))) ≡ true)
    (λ e. rw (one-add (prefix_len continues_word bs), e) (tails bs))
    (λ e. refl)

pub word_len : (bs : List ℕ) → length (lower (take (prefix_len continues_word bs) bs)) ≡ prefix_len continues_word bs
word_len bs = length-map (take (prefix_len continues_word bs) bs) to_ascii_lowercase ∙ length-prefix_len continues_word bs

head_and_tails : (b : ℕ) (bs : List ℕ) (n : ℕ) → begins_word b ≡ true → n ≡ 1 + prefix_len continues_word bs → n ≤ 63 → is_name (lower (take n (b ∷ bs))) ≡ true
head_and_tails b bs n e n-is le =
    let k : n ≡ suc (prefix_len continues_word bs) = omega arith in
    let short : leb (suc (length (lower (take (prefix_len continues_word bs) bs)))) 63 ≡ true = rw (word_len bs) (le-leb _ _ (omega arith)) in
    rw k (rw (short, e) (tails bs))

word_is_name : (b : ℕ) (bs : List ℕ) → begins_word b ≡ true → leb (prefix_len continues_word (b ∷ bs)) 63 ≡ true → IsTrue (is_name (lower (take (prefix_len continues_word (b ∷ bs)) (b ∷ bs))))
word_is_name b bs e short =
    let c : continues_word b ≡ true = rw e refl in
    let n-is : prefix_len continues_word (b ∷ bs) ≡ 1 + prefix_len continues_word bs = rw c refl in
    head_and_tails b bs (prefix_len continues_word (b ∷ bs)) e n-is (leb-true _ _ short)

named_word : (b : ℕ) (bs : List ℕ) → begins_word b ≡ true → leb (prefix_len continues_word (b ∷ bs)) 63 ≡ true → IsNamedToken (scan.word (lower (take (prefix_len continues_word (b ∷ bs)) (b ∷ bs))))
named_word b bs e short = (word_is_name b bs e short, omega (arith, word_len (b ∷ bs), leb-true _ _ short))

named_mark_of : (n : ℕ) (m : Option _) → IsNamedLexeme (mark_of_len n m)
named_mark_of n None = tt
named_mark_of n (Some m) = tt

named_or : (x y : Option Lexeme) → IsNamedLexeme x → IsNamedLexeme y → IsNamedLexeme (or_else x y)
named_or None y f g = g
named_or (Some l) y f g = f

named_marks : (bs : List ℕ) → IsNamedLexeme (mark_at bs)
named_marks [] = tt
named_marks (a ∷ []) = named_mark_of 1 (short_mark a)
named_marks (a ∷ b ∷ bs) = named_or (mark_of_len 2 (long_mark a b)) (mark_of_len 1 (short_mark a)) (named_mark_of 2 (long_mark a b)) (named_mark_of 1 (short_mark a))

named_number : (bs : List ℕ) → IsNamedLexeme (number_at bs)
named_number bs = named_if (eqb (prefix_len is_ascii_digit (drop (sign_len bs) bs)) 0) None _ (λ _. tt) (λ _. tt)

named_quoted : (bs : List ℕ) → IsNamedLexeme (quoted_at bs)
named_quoted [] = tt
named_quoted (b ∷ bs) =
    let n = prefix_len continues_word (b ∷ bs) in
    named_if (begins_word b && leb n 63 && begins_with 39 (drop n (b ∷ bs))) _ None
    (λ e. let front = (and_parts (begins_word b && leb n 63) (begins_with 39 (drop n (b ∷ bs))) e).0 in
    let both = and_parts (begins_word b) (leb n 63) front in
    named_word b bs both.0 both.1)
    (λ _. tt)

named_lexeme : (bs : List ℕ) → IsNamedLexeme (lexeme_at bs)
named_lexeme [] = tt
named_lexeme (b ∷ bs) =
    named_if (begins_word b) _ _
    (λ e. named_if (leb (prefix_len continues_word (b ∷ bs)) 63) _ None (λ short. named_word b bs e short) (λ _. tt))
    (λ _. named_if _ _ _ (λ _. named_number (b ∷ bs))
    (λ _. named_if (eqb b 39) _ _ (λ _. named_quoted bs) (λ _. named_marks (b ∷ bs))))

-- what comes next is named
abbrev pub IsNamedNext : SeenNext → Type 0
IsNamedNext (scan.token t begin end) = IsNamedToken t
IsNamedNext scan.ended = Unit {0}
IsNamedNext (scan.nothing begin) = Unit {0}

named_of_lexeme : (begin : ℕ) (l : Option Lexeme) → IsNamedLexeme l → IsNamedNext (seen_next (of_lexeme begin l))
named_of_lexeme begin None h = tt
named_of_lexeme begin (Some l) h = h

named_here : (begin : ℕ) (bs : List ℕ) → IsNamedNext (seen_next (next_here begin bs))
named_here begin [] = tt
named_here begin (b ∷ bs) = named_of_lexeme begin (lexeme_at (b ∷ bs)) (named_lexeme (b ∷ bs))

pub named_next : (text : List ℕ) (skip : ℕ) (a : SeenNext) → a ≡ seen_next (next text skip) → IsNamedNext a
named_next text skip a e =
    let begin = skip + blank_len (drop skip text) in
    subst (λ (b : SeenNext). IsNamedNext b) (sym e) (named_here begin (drop begin text))

-- a name is in lower case
lower_byte : (b : ℕ) → is_tail b ≡ true → to_ascii_lowercase b ≡ b
lower_byte b e = grind (arith, nat_tests)

lower_tails : (bs : List ℕ) → list_all is_tail bs ≡ true → lower bs ≡ bs
lower_tails [] e = refl
lower_tails (b ∷ bs) e =
    let k = and_parts (is_tail b) (list_all is_tail bs) e in
    rw (lower_byte b k.0) (ap (λ x. b ∷ x) (lower_tails bs k.1))

head_is_tail : (b : ℕ) → is_head b ≡ true → is_tail b ≡ true
head_is_tail b e = rw e refl

pub lower_name : (n : List ℕ) → IsTrue (is_name n) → lower n ≡ n
lower_name [] e = refl
lower_name (b ∷ bs) e =
    let k = and_parts (leb (length (b ∷ bs)) 63 && is_head b) (list_all is_tail bs) e in
    let h = and_parts (leb (length (b ∷ bs)) 63) (is_head b) k.0 in
    rw (lower_byte b (head_is_tail b h.1)) (ap (λ x. b ∷ x) (lower_tails bs k.1))
