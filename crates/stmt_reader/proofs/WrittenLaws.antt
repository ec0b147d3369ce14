-- The statement of a text is whole, and no longer than the text.
use Rattle.std.proofs.Common.{◌≡◌, ℕ, zero, suc, ◌+◌, ◌<◌, ◌≤◌, Bool, true, false, cond, eqb, leb, ◌&&◌, List, [], ◌∷◌, length, drop, Option, Some, None, Result, Ok, Err, sym, ap, subst, ◌∙◌, arith}
use Rattle.std.proofs.lemmas.Bool.{eqb-false, cond_both}
use Rattle.std.specs.Char.{is_ascii_digit}
use Rattle.std.specs.List.{prefix_len}
use Rattle.stmt_tokens.specs.Bytes.{begins_word, continues_word}
use Rattle.stmt_tokens.specs.Tokens.{Lexeme, Next, token, ended, nothing, word_at, sign_len, number_at, begins_with, quoted_at, long_mark, short_mark, mark_of_len, or_else, mark_at, lexeme_at, of_lexeme, next_here, next, blank_len}
use Rattle.stmt_tokens.specs.Streams.{Placed, Stream, ends, onto, plain, scan, stream}
use Rattle.stmt_reader.specs.Grammar.{statement}
use Rattle.stmt_reader.specs.Reading.{statement as reading}
use Rattle.stmt_reader.specs.Refusals.{IsSaid, Refuses, Verdict, Judges}
use Rattle.stmt_reader.specs.declared.faults.Fault.{Fault}
use Rattle.stmt_syntax.specs.declared.statements.Stmt.{Stmt}
use Rattle.stmt_syntax.specs.Written.{IsShaped, IsWritten}
use Rattle.stmt_reader.specs.Texts.{OfStatement, StatementsAreWritten}
use Rattle.stmt_reader.specs.declared.reading.ReadStmt.{ReadStmt}
use Rattle.stmt_reader.specs.declared.reading.ReadStmt.TheVariants as reads
use Rattle.stmt_tokens.proofs.Flow.{flow, scan_is_flow}
use Rattle.stmt_tokens.proofs.Lexemes.{NextFits, next_fits}
use Rattle.stmt_reader.proofs.Yields.{token_size, weight}
use Rattle.stmt_reader.proofs.ProperForms.{holds_statement}
use Rattle.stmt_reader.proofs.ProperLaws.{stream_proper}
use Rattle.stmt_reader.proofs.Verdict.{fit_statement, reads_by_the_grammar}
use Rattle.stmt_reader.proofs.WrittenForms.{yields_statement}
use Rattle.stmt_tokens.proofs.Named.{word_len}

-- ---- a token is as long as its text

abbrev Sized : Option Lexeme → Type 0
Sized None = Unit {0}
Sized (Some l) = token_size l.token ≤ l.len

sized_if : (b : Bool) (x y : Option Lexeme) → (b ≡ true → Sized x) → (b ≡ false → Sized y) → Sized (cond b x y)
sized_if b x y = cond_both b x y Sized

sized_word : (bs : List ℕ) → Sized (word_at bs)
sized_word bs = sized_if (leb (prefix_len continues_word bs) 63) _ None (λ _. omega (arith, word_len bs)) (λ _. tt)

sized_number : (bs : List ℕ) → Sized (number_at bs)
sized_number bs =
    let n = prefix_len is_ascii_digit (drop (sign_len bs) bs) in
    sized_if (eqb n 0) None _ (λ _. tt) (λ e. omega (arith, eqb-false n 0 e))

sized_quoted : (bs : List ℕ) → Sized (quoted_at bs)
sized_quoted [] = tt
sized_quoted (b ∷ bs) =
    let n = prefix_len continues_word (b ∷ bs) in
    sized_if (begins_word b && leb n 63 && begins_with 39 (drop n (b ∷ bs))) _ None (λ _. omega (arith, word_len (b ∷ bs))) (λ _. tt)

sized_mark_of : (n : ℕ) (m : Option _) → 0 < n → Sized (mark_of_len n m)
sized_mark_of n None some = tt
sized_mark_of n (Some m) some = omega arith

sized_or : (x y : Option Lexeme) → Sized x → Sized y → Sized (or_else x y)
sized_or None y f g = g
sized_or (Some l) y f g = f

sized_marks : (bs : List ℕ) → Sized (mark_at bs)
sized_marks [] = tt
sized_marks (a ∷ []) = sized_mark_of 1 (short_mark a) (omega arith)
sized_marks (a ∷ b ∷ bs) = sized_or (mark_of_len 2 (long_mark a b)) (mark_of_len 1 (short_mark a)) (sized_mark_of 2 (long_mark a b) (omega arith)) (sized_mark_of 1 (short_mark a) (omega arith))

sized_lexeme : (bs : List ℕ) → Sized (lexeme_at bs)
sized_lexeme [] = tt
sized_lexeme (b ∷ bs) =
    sized_if (begins_word b) _ _ (λ _. sized_word (b ∷ bs))
    (λ _. sized_if _ _ _ (λ _. sized_number (b ∷ bs))
    (λ _. sized_if (eqb b 39) _ _ (λ _. sized_quoted bs) (λ _. sized_marks (b ∷ bs))))

abbrev NextSized : Next → Type 0
NextSized (token t begin end) = begin + token_size t ≤ end
NextSized ended = Unit {0}
NextSized (nothing begin) = Unit {0}

sized_of_lexeme : (begin : ℕ) (l : Option Lexeme) → Sized l → NextSized (of_lexeme begin l)
sized_of_lexeme begin None h = tt
sized_of_lexeme begin (Some l) h = omega arith

sized_here : (begin : ℕ) (bs : List ℕ) → NextSized (next_here begin bs)
sized_here begin [] = tt
sized_here begin (b ∷ bs) = sized_of_lexeme begin (lexeme_at (b ∷ bs)) (sized_lexeme (b ∷ bs))

next_sized : (text : List ℕ) (skip : ℕ) → NextSized (next text skip)
next_sized text skip = let begin = skip + blank_len (drop skip text) in sized_here begin (drop begin text)

-- ---- the tokens of a text take no more bytes than the text has

-- these tokens up to the end are after this many bytes of a text of `most`
abbrev Weighs : ℕ → ℕ → Stream → Type 0
Weighs skip most s = (ts : List Placed) (p : ℕ) → s ≡ onto ts (ends p) → skip + weight (plain ts) ≤ most

flow_weighs : (skip most : ℕ) (a : Next) (after : ℕ → Stream) → skip ≤ most → NextFits skip most a → NextSized a → ((end : ℕ) → end ≤ most → Weighs end most (after end)) → Weighs skip most (flow skip a after)
flow_weighs skip most (token t begin end) after le fits sized h [] p e = absurd cc
flow_weighs skip most (token t begin end) after le fits sized h (u ∷ us) p e =
    let here : record { at = begin + 1; token = t } ≡ u = cc in
    let same : token_size t ≡ token_size u.token = ap (λ (x : Placed). token_size x.token) here in
    let rest : after end ≡ onto us (ends p) = cc in
    omega (arith, h end fits.2 us p rest)
flow_weighs skip most ended after le fits sized h [] p e = omega arith
flow_weighs skip most ended after le fits sized h (u ∷ us) p e = absurd cc
flow_weighs skip most (nothing begin) after le fits sized h [] p e = absurd cc
flow_weighs skip most (nothing begin) after le fits sized h (u ∷ us) p e = absurd cc

scan_weighs : (n : ℕ) (text : List ℕ) (skip : ℕ) → skip ≤ length text → Weighs skip (length text) (scan n text skip)
scan_weighs zero text skip le [] p e = omega arith
scan_weighs zero text skip le (u ∷ us) p e = absurd cc
scan_weighs (suc n) text skip le ts p e =
    flow_weighs skip (length text) (next text skip) (scan n text) le (next_fits text skip le) (next_sized text skip)
    (λ end most. scan_weighs n text end most) ts p (sym (scan_is_flow n text skip) ∙ e)

stream_weighs : (text : List ℕ) (skip : ℕ) → skip ≤ length text → Weighs skip (length text) (stream text skip)
unfolding stream
stream_weighs text skip le = scan_weighs (length text) text skip le

-- ---- statements

shaped : (text : List ℕ) (skip : ℕ) (s : Stmt) → skip ≤ length text → IsSaid statement (stream text skip) s → IsShaped (length text) s
shaped text skip s le (ts, p, e, l) =
    let w = yields_statement.holds (plain ts) s l in
    record { whole = w.whole; size = omega (arith, stream_weighs text skip le ts p e, w.size) }

-- without an error, a statement is also proper
said : (text : List ℕ) (skip : ℕ) (s : Stmt) → skip ≤ length text → IsSaid statement (stream text skip) s → ((g : Fault) → Refuses statement (stream text skip) g → ⊥) → IsWritten (length text) s
said text skip s le (ts, p, e, l) none =
    let w = shaped text skip s le (ts, p, e, l) in
    record { whole = w.whole; size = w.size; proper = holds_statement.holds (plain ts) s (stream_proper text skip ts p e (fit_statement statement (stream text skip) ts p e none)) l }

read_is_written : (text : List ℕ) (skip : ℕ) (s : Stmt) (left : Stream) (r : Result (Stmt × Stream) Fault) → skip ≤ length text → Verdict statement (stream text skip) r → r ≡ Ok (s, left) → IsWritten (length text) s
read_is_written text skip s left (Ok x) le v e =
    let same : x.0 ≡ s = cc in
    subst (IsWritten (length text)) same (said text skip x.0 le v.0 v.1)
read_is_written text skip s left (Err f) le v e = absurd cc

pub statements_are_written : StatementsAreWritten
statements_are_written = record {
  shaped = shaped;
  read = λ text skip s left le e. read_is_written text skip s left (reading (stream text skip)) le (reads_by_the_grammar.gives text skip le) e;
}

-- the same of an answer that the grammar judges
pub written : (text : List ℕ) (skip : ℕ) (a : ReadStmt) → skip ≤ length text → Judges (stream text skip) a → OfStatement (IsWritten (length text)) a
written text skip (reads.Stmt s) le j = said text skip s le j.0 j.1
written text skip (reads.NoToken p) le j = tt
written text skip (reads.Syntax p) le j = tt
written text skip (reads.BadNumber p) le j = tt
written text skip reads.NoMemory le j = tt
