-- Blanks and tokens: a token takes at least one byte, and none past the end.
use Rattle.std.proofs.Common.{◌≡◌, ℕ, suc, ◌+◌, ◌<◌, ◌≤◌, Bool, true, false, cond, eqb, leb, ◌&&◌, ◌||◌, List, [], ◌∷◌, length, drop, Option, Some, None, refl, sym, ap, subst, ◌∙◌, arith}
use Rattle.std.proofs.lemmas.Bool.{eqb-false, cond_both, and_parts, or_parts}
use Rattle.std.proofs.lemmas.Bool.Decides.{nat_tests}
use Rattle.std.proofs.lemmas.List.Sums.{prefix_len-le-length}
use Rattle.std.proofs.lemmas.List.{length-drop}
use Rattle.std.specs.Char.{is_ascii_digit}
use Rattle.std.specs.List.{prefix_len}
use Rattle.stmt_tokens.specs.Scan as scan
use Rattle.stmt_tokens.specs.Scan.{SeenLexeme, SeenNext, seen_lexeme, seen_next, SeenFits}
use Rattle.stmt_tokens.specs.Bytes.{is_space, begins_word, continues_word}
use Rattle.stmt_tokens.specs.Tokens.{Lexeme, Next, token, ended, nothing, word_at, sign_len, number_at, begins_with, quoted_at, long_mark, short_mark, mark_of_len, or_else, mark_at, lexeme_at, is_return, blank_len, of_lexeme, next_here, next}

-- with a CR at the end there is one more blank
pub blanks_and_return : (bs : List ℕ) (n : ℕ) → n ≡ prefix_len is_space bs → is_return (drop n bs) ≡ true → n + 1 ≡ blank_len bs
blanks_and_return bs n n-is = subst (λ k. is_return (drop k bs) ≡ true → k + 1 ≡ blank_len bs) (sym n-is) (λ e. rw e refl)

pub blanks_alone : (bs : List ℕ) (n : ℕ) → n ≡ prefix_len is_space bs → is_return (drop n bs) ≡ false → n ≡ blank_len bs
blanks_alone bs n n-is = subst (λ k. is_return (drop k bs) ≡ false → k ≡ blank_len bs) (sym n-is) (λ e. rw e refl)

-- if neither a space nor a CR is in front, there is no blank
pub no_blank : (b : ℕ) (bs : List ℕ) → (is_space b || eqb b 13) ≡ false → 0 ≡ blank_len (b ∷ bs)
no_blank b [] e = let k = or_parts (is_space b) (eqb b 13) e in rw (k.0, k.1) refl
no_blank b (c ∷ bs) e = let k = or_parts (is_space b) (eqb b 13) e in rw k.0 refl

-- what begins a number begins no word
number_is_no_word : (b : ℕ) → (is_ascii_digit b || eqb b 45) ≡ true → begins_word b ≡ false
number_is_no_word b e = grind (arith, nat_tests)

pub number_first : (b : ℕ) (bs : List ℕ) → (is_ascii_digit b || eqb b 45) ≡ true → lexeme_at (b ∷ bs) ≡ number_at (b ∷ bs)
number_first b bs e = rw (number_is_no_word b e, e) refl

return_is_one : (bs : List ℕ) → is_return bs ≡ true → length bs ≡ 1
return_is_one [] e = absurd cc
return_is_one (b ∷ []) e = refl
return_is_one (b ∷ c ∷ bs) e = absurd cc

pub blank_len-le-length : (bs : List ℕ) → blank_len bs ≤ length bs
blank_len-le-length bs =
    let n = prefix_len is_space bs in
    cond_both (is_return (drop n bs)) (n + 1) n (λ k. k ≤ length bs)
    (λ e. omega (arith, return_is_one (drop n bs) e, length-drop n bs, prefix_len-le-length is_space bs))
    (λ e. prefix_len-le-length is_space bs)

-- a token takes at least one byte, and none past the end
abbrev pub Fits : ℕ → Option Lexeme → Type 0
Fits most None = Unit {0}
Fits most (Some l) = (0 < l.len) × (l.len ≤ most)

fits_if : (most : ℕ) (b : Bool) (x y : Option Lexeme) → (b ≡ true → Fits most x) → (b ≡ false → Fits most y) → Fits most (cond b x y)
fits_if most b x y = cond_both b x y (Fits most)

begins_continues : (b : ℕ) → begins_word b ≡ true → continues_word b ≡ true
begins_continues b e = rw e refl

some_in_front : (p : ℕ → Bool) (b : ℕ) (bs : List ℕ) → p b ≡ true → 0 < prefix_len p (b ∷ bs)
some_in_front p b bs e = rw e (omega arith)

word_fits : (b : ℕ) (bs : List ℕ) → begins_word b ≡ true → Fits (length (b ∷ bs)) (word_at (b ∷ bs))
word_fits b bs e =
    fits_if _ (leb (prefix_len continues_word (b ∷ bs)) 63) _ None
    (λ _. (some_in_front continues_word b bs (begins_continues b e), prefix_len-le-length continues_word (b ∷ bs)))
    (λ _. tt)

sign_len-le : (bs : List ℕ) → sign_len bs ≤ length bs
sign_len-le [] = omega arith
sign_len-le (b ∷ bs) = cond_both (eqb b 45) 1 0 (λ k. k ≤ suc (length bs)) (λ _. omega arith) (λ _. omega arith)

number_fits : (bs : List ℕ) → Fits (length bs) (number_at bs)
number_fits bs =
    let s = sign_len bs in
    let n = prefix_len is_ascii_digit (drop s bs) in
    fits_if _ (eqb n 0) None _
    (λ _. tt)
    (λ e. let ne = eqb-false n 0 e in
    (omega (arith, ne), omega (arith, prefix_len-le-length is_ascii_digit (drop s bs), length-drop s bs, sign_len-le bs)))

begins_with-some : (b : ℕ) (bs : List ℕ) → begins_with b bs ≡ true → 0 < length bs
begins_with-some b [] e = absurd cc
begins_with-some b (c ∷ bs) e = omega arith

quoted_fits : (bs : List ℕ) → Fits (suc (length bs)) (quoted_at bs)
quoted_fits [] = tt
quoted_fits (b ∷ bs) =
    let n = prefix_len continues_word (b ∷ bs) in
    fits_if _ (begins_word b && leb n 63 && begins_with 39 (drop n (b ∷ bs))) _ None
    (λ e. let last : begins_with 39 (drop n (b ∷ bs)) ≡ true = (and_parts (begins_word b && leb n 63) _ e).1 in
    (omega arith, omega (arith, begins_with-some 39 (drop n (b ∷ bs)) last, length-drop n (b ∷ bs))))
    (λ _. tt)

mark_of_len-fits : (most n : ℕ) (m : Option _) → 0 < n → n ≤ most → Fits most (mark_of_len n m)
mark_of_len-fits most n None some le = tt
mark_of_len-fits most n (Some m) some le = (some, le)

or_else-fits : (most : ℕ) (x y : Option Lexeme) → Fits most x → Fits most y → Fits most (or_else x y)
or_else-fits most None y f g = g
or_else-fits most (Some l) y f g = f

mark_fits : (bs : List ℕ) → Fits (length bs) (mark_at bs)
mark_fits [] = tt
mark_fits (a ∷ []) = mark_of_len-fits 1 1 (short_mark a) (omega arith) (omega arith)
mark_fits (a ∷ b ∷ bs) =
    or_else-fits _ (mark_of_len 2 (long_mark a b)) (mark_of_len 1 (short_mark a))
    (mark_of_len-fits _ 2 (long_mark a b) (omega arith) (omega arith))
    (mark_of_len-fits _ 1 (short_mark a) (omega arith) (omega arith))

pub lexeme_fits : (bs : List ℕ) → Fits (length bs) (lexeme_at bs)
lexeme_fits [] = tt
lexeme_fits (b ∷ bs) =
    fits_if _ (begins_word b) _ _ (word_fits b bs)
    (λ _. fits_if _ _ _ _ (λ _. number_fits (b ∷ bs))
    (λ _. fits_if _ (eqb b 39) _ _ (λ _. quoted_fits bs) (λ _. mark_fits (b ∷ bs))))

-- what comes next lies after `skip` and before the end
abbrev pub NextFits : ℕ → ℕ → Next → Type 0
NextFits skip most (token t begin end) = (skip ≤ begin) × (begin < end) × (end ≤ most)
NextFits skip most ended = Unit {0}
NextFits skip most (nothing begin) = (skip ≤ begin) × (begin < most)

of_lexeme-fits : (skip begin most : ℕ) (l : Option Lexeme) → skip ≤ begin → begin < most → (most' : ℕ) → begin + most' ≡ most → Fits most' l → NextFits skip most (of_lexeme begin l)
of_lexeme-fits skip begin most None le lt rest e f = (le, lt)
of_lexeme-fits skip begin most (Some l) le lt rest e f = (le, omega arith, omega arith)

next_here-fits : (skip begin most : ℕ) (bs : List ℕ) → skip ≤ begin → begin + length bs ≡ most → NextFits skip most (next_here begin bs)
next_here-fits skip begin most [] le e = tt
next_here-fits skip begin most (b ∷ bs) le e = of_lexeme-fits skip begin most (lexeme_at (b ∷ bs)) le (omega arith) (length (b ∷ bs)) e (lexeme_fits (b ∷ bs))

pub next_fits : (text : List ℕ) (skip : ℕ) → skip ≤ length text → NextFits skip (length text) (next text skip)
next_fits text skip le =
    let n = blank_len (drop skip text) in
    next_here-fits skip (skip + n) (length text) (drop (skip + n) text) (omega arith)
    (omega (arith, blank_len-le-length (drop skip text), length-drop skip text, length-drop (skip + n) text))

-- what the code finds after the blanks, from the token that begins there
abbrev pub ahead_of : ℕ → Option SeenLexeme → SeenNext
ahead_of begin None = scan.nothing begin
ahead_of begin (Some l) = scan.token l.token begin (begin + l.len)

seen_of_lexeme : (begin : ℕ) (l : Option Lexeme) → seen_next (of_lexeme begin l) ≡ ahead_of begin (seen_lexeme l)
seen_of_lexeme begin None = refl
seen_of_lexeme begin (Some l) = refl

pub seen_here : (begin : ℕ) (bs : List ℕ) (l : Option SeenLexeme) → 0 < length bs → l ≡ seen_lexeme (lexeme_at bs) → ahead_of begin l ≡ seen_next (next_here begin bs)
seen_here begin [] l some e = absurd (omega arith)
seen_here begin (b ∷ bs) l some e = ap (ahead_of begin) e ∙ sym (seen_of_lexeme begin (lexeme_at (b ∷ bs)))

pub seen_end : (begin : ℕ) (bs : List ℕ) → length bs ≡ 0 → scan.ended ≡ seen_next (next_here begin bs)
seen_end begin [] e = refl
seen_end begin (b ∷ bs) e = absurd (omega arith)

fits_again : (skip most : ℕ) (n : Next) → NextFits skip most n → SeenFits skip most (seen_next n)
fits_again skip most (token t begin end) f = f
fits_again skip most ended f = f
fits_again skip most (nothing begin) f = f

seen_fits : (skip most : ℕ) (a : SeenNext) (n : Next) → a ≡ seen_next n → NextFits skip most n → SeenFits skip most a
seen_fits skip most a n e f = rw e (fits_again skip most n f)

pub ahead_fits : (text : List ℕ) (skip : ℕ) (a : SeenNext) → skip ≤ length text → a ≡ seen_next (next text skip) → SeenFits skip (length text) a
ahead_fits text skip a le e = seen_fits skip (length text) a (next text skip) e (next_fits text skip le)

-- what the code finds is what comes next
pub record Finds (text : List ℕ) (skip : ℕ) (a : SeenNext) : Type 0 where
  pub next : a ≡ seen_next (next text skip)
  pub fits : SeenFits skip (length text) a

pub finds_lexeme : (text left rest : List ℕ) (skip blanks : ℕ) (l : Option SeenLexeme) → skip ≤ length text → left ≡ drop skip text → blanks ≡ blank_len left
    → rest ≡ drop (skip + blanks) text → 0 < length rest → l ≡ seen_lexeme (lexeme_at rest) → Finds text skip (ahead_of (skip + blanks) l)
finds_lexeme text left rest skip blanks l le left-is blanks-is rest-is some l-is =
    let b : blanks ≡ blank_len (drop skip text) = blanks-is ∙ ap blank_len left-is in
    let e : ahead_of (skip + blanks) l ≡ seen_next (next text skip) = seen_here (skip + blanks) rest l some l-is ∙ rw (rest-is, b) refl in
    record { next = e; fits = ahead_fits text skip (ahead_of (skip + blanks) l) le e }

pub finds_end : (text left rest : List ℕ) (skip blanks : ℕ) → left ≡ drop skip text → blanks ≡ blank_len left
    → rest ≡ drop (skip + blanks) text → length rest ≡ 0 → Finds text skip scan.ended
finds_end text left rest skip blanks left-is blanks-is rest-is none =
    let b : blanks ≡ blank_len (drop skip text) = blanks-is ∙ ap blank_len left-is in
    record { next = seen_end (skip + blanks) rest none ∙ rw (rest-is, b) refl; fits = tt }
