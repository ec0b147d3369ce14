-- Rows, as the code reads them from the bytes of a text.
use Rattle.std.proofs.Common.{◌≡◌, ℕ, ◌<◌, ◌≤◌, Bool, true, false, cond, eqb, List, [], ◌∷◌, ◌++◌, length, Option, Some, None, Result, Ok, ℤ, refl, sym, ap, ◌∙◌, arith}
use Rattle.std.specs.Str.{bytes_eq}
use Rattle.std.proofs.lemmas.Bool.Decides.{nat_tests}
use Rattle.std.specs.Prelude.{option_and_then, IfSome}
use Rattle.stmt_tokens.specs.Tokens.{next}
use Rattle.stmt_tokens.specs.Scan.{Seen, seen_token, word, number, quoted, mark, SeenNext, seen_next}
use Rattle.stmt_tokens.specs.Words.{is_keyword, keyword_text, is_mark, mark_number, number_of, value_of}
use Rattle.stmt_reader.specs.Cursor.{Cursor, ahead}
use Rattle.stmt_tokens.specs.Streams.{Stream, ends, stops, ◌then◌, stream, size, seen_ahead, passes, heads, tail}
use Rattle.stmt_reader.specs.Reading as read
use Rattle.stmt_reader.specs.Reading.{Parser, gives, go_on, bind, takes, fitting_number, token_parser, more, parts, list_parser, value, row}
use Rattle.stmt_reader.specs.Forward.{forward-value, forward-row}
use Rattle.stmt_reader.specs.declared.faults.Fault.{Fault}
use Rattle.stmt_tokens.specs.declared.keywords.Keyword.TheVariants as kw
use Rattle.stmt_tokens.specs.declared.tokens.Mark.TheVariants as marks
use Rattle.stmt_reader.specs.declared.phrases.Separator.TheVariants as separators
use Rattle.stmt_reader.proofs.NextTokens.{BeginsWith, begins_with}
use Rattle.stmt_reader.proofs.Loops.{more_goes, more_ends, more_turn, past_is_less}

-- the stream after these bytes, from what the code found there
pub comes : (text : List ℕ) (skip : ℕ) (a : SeenNext) → skip ≤ length text → a ≡ seen_next (next text skip) → BeginsWith skip a (stream text) (stream text skip)
comes text skip a le e = begins_with (record { text = text; at = skip }) text skip a refl le e

-- ---- one token

pub heads_by : (test : Seen → Bool) (s : Stream) (t : Seen) → Some t ≡ seen_ahead s → test t ≡ true → heads test s ≡ true
heads_by test s t seen_token e = ap (passes test) (sym seen_token) ∙ e

abbrev done : Option ℤ → Stream → Result (Option ℤ × Stream) Fault
done v s = Ok (v, s)

-- the value in front of these tokens, from the next token
abbrev answer : Stream → Option Seen → Result (Option ℤ × Stream) Fault
answer s o = cond (passes (is_keyword kw.Null) o) (done None (tail s)) (go_on (fitting_number s (option_and_then number_of o)) (λ z. gives (Some z)))

value_is : (s : Stream) → value s ≡ answer s (seen_ahead s)
unfolding value read.number takes bind
value_is s = refl

word_says : (b : Bool) (v : Option ℤ) (s : Stream) (other : Result (Option ℤ × Stream) Fault) → cond b (Some None) None ≡ Some v → cond b (done None (tail s)) other ≡ done v (tail s)
word_says true v s other e = let k : None ≡ v = cc in ap (λ x. done x (tail s)) k
word_says false v s other e = absurd cc

answer_says : (s : Stream) (t : Seen) (v : Option ℤ) → value_of t ≡ Some v → answer s (Some t) ≡ done v (tail s)
answer_says s (word w) v e = word_says (bytes_eq w (keyword_text kw.Null)) v s _ e
answer_says s (number None) v e = absurd cc
answer_says s (number (Some z)) v e = let k : Some z ≡ v = cc in ap (λ x. done x (tail s)) k
answer_says s (quoted w) v e = absurd cc
answer_says s (mark m) v e = absurd cc

pub value_by : (s r : Stream) (t : Seen) (v : Option ℤ) → Some t ≡ seen_ahead s → r ≡ tail s → value_of t ≡ Some v → value s ≡ Ok (v, r)
value_by s r t v seen_token r-is e = value_is s ∙ ap (answer s) (sym seen_token) ∙ answer_says s t v e ∙ ap (done v) (sym r-is)

-- ---- one row

-- the end of a row
abbrev pub closes : List (Option ℤ) → Parser (List (Option ℤ))
closes vs = bind (token_parser (is_mark marks.Close)) (λ _. gives vs)

-- a row from its next value on, if these values were read
abbrev pub from_value : List (Option ℤ) → Parser (List (Option ℤ))
from_value front s = go_on (go_on (value s) (λ v. more (parts separators.Comma) value (front ++ v ∷ []))) closes

pub row_opens : (s r : Stream) → heads (is_mark marks.Open) s ≡ true → r ≡ tail s → row s ≡ from_value [] r
unfolding row list_parser bind token_parser
row_opens s r e r-is = rw (e, r-is) refl

pub row_goes_on : (front vs : List (Option ℤ)) (v : Option ℤ) (s m r : Stream) → vs ≡ front ++ v ∷ [] → value s ≡ Ok (v, m) → heads (parts separators.Comma) m ≡ true → r ≡ tail m → from_value front s ≡ from_value vs r
row_goes_on front vs v s m r vs-is read e r-is =
    ap (λ (x : Result (Option ℤ × Stream) Fault). go_on (go_on x (λ w. more (parts separators.Comma) value (front ++ w ∷ []))) closes) read
    ∙ ap (λ (x : Result (List (Option ℤ) × Stream) Fault). go_on x closes) (more_goes (parts separators.Comma) value (front ++ v ∷ []) m forward-value e)
    ∙ ap (from_value (front ++ v ∷ [])) (sym r-is) ∙ ap (λ ws. from_value ws r) (sym vs-is)

close_is_no_comma : (n : ℕ) → eqb n 1 ≡ true → eqb n 2 ≡ false
close_is_no_comma n e = grind (arith, nat_tests)

closed_token : (t : Seen) → is_mark marks.Close t ≡ true → parts separators.Comma t ≡ false
closed_token (word w) e = refl
closed_token (number z) e = refl
closed_token (quoted w) e = refl
closed_token (mark m) e = close_is_no_comma (mark_number m) e

closed : (s : Stream) → heads (is_mark marks.Close) s ≡ true → heads (parts separators.Comma) s ≡ false
closed (ends p) e = refl
closed (stops p) e = refl
closed (t then s) e = closed_token (seen_token t.token) e

pub row_closes : (front : List (Option ℤ)) (v : Option ℤ) (s m r : Stream) → value s ≡ Ok (v, m) → heads (is_mark marks.Close) m ≡ true → r ≡ tail m → from_value front s ≡ Ok (front ++ v ∷ [], r)
unfolding bind token_parser
row_closes front v s m r read e r-is =
    let last : closes (front ++ v ∷ []) m ≡ Ok (front ++ v ∷ [], r) = rw (e, r-is) refl in
    ap (λ (x : Result (Option ℤ × Stream) Fault). go_on (go_on x (λ w. more (parts separators.Comma) value (front ++ w ∷ []))) closes) read
    ∙ ap (λ (x : Result (List (Option ℤ) × Stream) Fault). go_on x closes) (more_ends (parts separators.Comma) value (front ++ v ∷ []) m (closed m e))
    ∙ last

-- the same, after a search for the end of the row
pub row_may_close : (text : List ℕ) (found : Option ℕ) (front vs : List (Option ℤ)) (v : Option ℤ) (s m : Stream) (total : Result (List (Option ℤ) × Stream) Fault) → vs ≡ front ++ v ∷ [] → value s ≡ Ok (v, m) → IfSome found (λ _. heads (is_mark marks.Close) m ≡ true) → IfSome found (λ end. stream text end ≡ tail m)
    → total ≡ from_value front s → IfSome found (λ end. total ≡ Ok (vs, stream text end))
row_may_close text None front vs v s m total vs-is read e r-is so_far = tt
row_may_close text (Some end) front vs v s m total vs-is read e r-is so_far = so_far ∙ row_closes front v s m (stream text end) read e r-is ∙ ap (λ ws. Ok (ws, stream text end)) (sym vs-is)

-- a value and the mark after it leave fewer tokens
pub value_shrinks : (test : Seen → Bool) (v : Option ℤ) (s m r : Stream) → value s ≡ Ok (v, m) → heads test m ≡ true → r ≡ tail m → size r < size s
value_shrinks test v s m r read e r-is = omega (arith, past_is_less test m r e r-is, forward-value.goes s v m read)

-- a row and the mark before it leave fewer tokens
pub row_shrinks : (test : Seen → Bool) (vs : List (Option ℤ)) (s m r : Stream) → heads test s ≡ true → m ≡ tail s → row m ≡ Ok (vs, r) → size r < size s
row_shrinks test vs s m r e m-is read = omega (arith, past_is_less test s m e m-is, forward-row.goes m vs r read)

-- ---- more rows

pub rows_go_on : (rows longer : List (List (Option ℤ))) (vs ws : List (Option ℤ)) (s m r : Stream) (total : Result (List (List (Option ℤ)) × Stream) Fault) → longer ≡ rows ++ ws ∷ [] → ws ≡ vs → heads (parts separators.Comma) s ≡ true → m ≡ tail s → row m ≡ Ok (vs, r)
    → more (parts separators.Comma) row rows s ≡ total → more (parts separators.Comma) row longer r ≡ total
rows_go_on rows longer vs ws s m r total longer-is ws-is e m-is read so_far =
    ap (λ x. more (parts separators.Comma) row x r) (longer-is ∙ ap (λ w. rows ++ w ∷ []) ws-is)
    ∙ more_turn (parts separators.Comma) row rows s m r vs total forward-row e m-is read so_far

-- ---- a reader that continues after what was read

pub read_before : (text : List ℕ) (at : ℕ) (old : Cursor) → text ≡ old.text → at ≡ old.at → stream text at ≡ ahead old
read_before text at old text-is at-is = ap (λ t. stream t at) text-is ∙ ap (stream old.text) at-is

pub read_behind : (text : List ℕ) (end : ℕ) (old new : Cursor) → text ≡ old.text → new ≡ record { text = old.text; at = end } → stream text end ≡ ahead new
read_behind text end old new text-is new-is = ap (λ t. stream t end) text-is ∙ ap ahead (sym new-is)
