-- A line with a statement has the name of its session, which is a good one, directly before its colon.
use Rattle.std.proofs.Common.{◌≡◌, ℕ, zero, suc, ◌+◌, ◌-◌, ◌<◌, ◌≤◌, Bool, true, false, cond, not, ◌&&◌, ◌||◌, ◌==◌, List, [], ◌∷◌, length, take, drop, nat_le, refl, sym, ap, ◌∙◌, true≢false, arith, length-take, length-drop, if◌then◌else◌}
use Rattle.std.specs.Char.{is_ascii}
use Rattle.std.specs.List.{list_all}
use Rattle.std.proofs.lemmas.List.{take-take, drop-take}
use Rattle.std.proofs.lemmas.Bool.Decides.{nat_tests}
use Rattle.std.proofs.lemmas.List.Folds.{length-prefix_len}
use Rattle.ts_schema.specs.Names.{is_name, is_head, is_tail}
use Rattle.stmt_tokens.specs.Tokens.{blank_len, begins_with}
use Rattle.stmt_tokens.specs.Lines.{comment_at, begins_session, continues_session, session_len, has_session, line_kind, IsStatementLine}
use Rattle.stmt_tokens.specs.declared.lines.LineKind.TheVariants.{Blank, NotAscii, NoSession, Stmt}
use Rattle.ts_schema.proofs.Cases.{and_first, and_second}

-- ---- what a line is

-- what follows of the kind of a line that is a statement
record Parts (session : Bool) (n s e len skip end : ℕ) : Type 0 where
  has : session ≡ true
  lens : n ≡ len
  skips : s ≡ skip
  ends : e ≡ end

parts : (a b c : Bool) (n s e len skip end : ℕ) → (if a then Blank else if b then NotAscii else if c then Stmt n s e else NoSession) ≡ Stmt len skip end → Parts c n s e len skip end
parts true b c n s e len skip end h = absurd cc
parts false true c n s e len skip end h = absurd cc
parts false false false n s e len skip end h = absurd cc
parts false false true n s e len skip end h = record { has = refl; lens = cc; skips = cc; ends = cc }

-- ---- names

-- a byte that continues a session's name continues a name
tail_of : (letter digit bar : Bool) → ((letter || digit) || bar) ≡ true → ((letter || bar) || digit) ≡ true
tail_of true digit bar h = refl
tail_of false true true h = refl
tail_of false true false h = refl
tail_of false false true h = refl
tail_of false false false h = h

tails : (bytes : List ℕ) → list_all is_tail (take (session_len bytes) bytes) ≡ true
tails [] = refl
tails (b ∷ bytes) = by (continues_session b) refl (tails bytes)
  where
    more : 1 + session_len bytes ≡ suc (session_len bytes)
    more = omega arith

    by : (t : Bool) → continues_session b ≡ t → list_all is_tail (take (session_len bytes) bytes) ≡ true → list_all is_tail (take (cond t (1 + session_len bytes) 0) (b ∷ bytes)) ≡ true
    by false e rest = refl
    by true e rest =
        let one : is_tail b ≡ true = tail_of (begins_session b) (nat_le 48 b && nat_le b 57) (b == 95) e in
        ap (λ n. list_all is_tail (take n (b ∷ bytes))) more ∙ (λ i. one i && rest i)

-- a name and a colon after it
record GoodName (bytes : List ℕ) : Type 0 where
  good : is_name (take (session_len bytes) bytes) ≡ true
  colon : session_len bytes < length bytes

stands_within : (b n : ℕ) (bytes : List ℕ) → begins_with b (drop n bytes) ≡ true → n < length bytes
stands_within b zero [] h = absurd (true≢false (sym h))
stands_within b zero (x ∷ xs) h = omega arith
stands_within b (suc n) [] h = absurd (true≢false (sym h))
stands_within b (suc n) (x ∷ xs) h = let rest = stands_within b n xs h in omega arith

good_name : (bytes : List ℕ) → has_session bytes ≡ true → GoodName bytes
good_name [] h = absurd (true≢false (sym h))
good_name (b ∷ bytes) h =
    let len = session_len (b ∷ bytes) in
    let front = and_first (begins_session b && nat_le len 16) (begins_with 58 (drop len (b ∷ bytes))) h in
    let letter = and_first (begins_session b) (nat_le len 16) front in
    let short = and_second (begins_session b) (nat_le len 16) front in
    let m = session_len bytes in
    let goes : continues_session b ≡ true = (λ i. (letter i || (nat_le 48 b && nat_le b 57)) || (b == 95)) in
    let size : len ≡ 1 + m = ap (λ t. cond t (1 + m) 0) goes in
    let more : len ≡ suc m = size ∙ (let e : 1 + m ≡ suc m = omega arith in e) in
    let head : is_head b ≡ true = (λ i. letter i || (b == 95)) in
    let count : length (take m bytes) ≡ m = length-prefix_len continues_session bytes in
    let few : nat_le (suc (length (take m bytes))) 63 ≡ true = grind (arith, nat_tests) in
    let whole : is_name (b ∷ take m bytes) ≡ true = (λ i. (few i && head i) && tails bytes i) in
    record {
      good = ap (λ n. is_name (take n (b ∷ bytes))) more ∙ whole;
      colon = stands_within 58 len (b ∷ bytes) (and_second (begins_session b && nat_le len 16) (begins_with 58 (drop len (b ∷ bytes))) h);
    }

-- ---- the same in the whole line

part_of_front : (b n c : ℕ) (xs : List ℕ) → b + n ≤ c → take n (drop b (take c xs)) ≡ take n (drop b xs)
part_of_front b n c xs h =
    sym (drop-take b n (take c xs)) ∙ ap (drop b) (take-take (b + n) c xs h) ∙ drop-take b n xs

-- a line that is a statement has its parts in order
pub statement_line : (line : List ℕ) (len skip end : ℕ) → line_kind line ≡ Stmt len skip end → IsStatementLine line len skip end
statement_line line len skip end h =
    let c = comment_at line in
    let text = take c line in
    let blanks = blank_len text in
    let bytes = drop blanks text in
    let p = parts (nat_le (length text) blanks) (not (list_all is_ascii text)) (has_session bytes) (session_len bytes) (blanks + session_len bytes + 1) (length text) len skip end h in
    let name = good_name bytes p.has in
    let within : length text ≤ c = omega (arith, length-take c line) in
    let inside : length text ≤ length line = omega (arith, length-take c line) in
    let rest : length bytes ≡ length text - blanks = length-drop blanks text in
    let from : skip - suc len ≡ blanks = omega (arith, p.lens, p.skips) in
    let place : take len (drop (skip - suc len) line) ≡ take len (drop blanks line) = ap (λ n. take len (drop n line)) from in
    let same : take len bytes ≡ take len (drop blanks line) = part_of_front blanks len c line (omega (arith, p.lens, name.colon)) in
    let good : is_name (take len bytes) ≡ true = ap (λ n. is_name (take n bytes)) (sym p.lens) ∙ name.good in
    record {
      named = ap is_name (place ∙ sym same) ∙ good;
      colon = omega (arith, p.lens, p.skips);
      statement = omega (arith, p.lens, p.skips, p.ends, name.colon);
      within = omega (arith, p.ends);
    }
