-- A line of an input, cut before its comment, is a line of the same session.
use Rattle.std.proofs.Common.{◌≡◌, ℕ, zero, suc, ◌+◌, ◌-◌, ◌≤◌, Bool, true, false, cond, not, ◌&&◌, ◌||◌, ◌==◌, List, [], ◌∷◌, length, take, drop, nat_le, refl, sym, ap, ◌∙◌, true≢false, arith, length-take, if◌then◌else◌}
use Rattle.std.specs.Char.{is_ascii}
use Rattle.std.specs.List.{list_all}
use Rattle.std.proofs.lemmas.Bool.Decides.{nat_tests}
use Rattle.std.proofs.lemmas.List.{take-take, drop-take, take_all}
use Rattle.std.proofs.lemmas.List.Folds.{length-prefix_len}
use Rattle.std.proofs.lemmas.Slice.Eq.{bytes_eq-Decides}
use Rattle.ts_schema.proofs.Cases.{and_first, and_second}
use Rattle.stmt_syntax.specs.Limits.{longest_line}
use Rattle.stmt_tokens.specs.Tokens.{blank_len, begins_with}
use Rattle.stmt_tokens.specs.Lines.{comment_at, begins_session, continues_session, session_len, has_session, line_kind, of_text, session_name}
use Rattle.stmt_tokens.specs.declared.lines.LineKind.TheVariants.{Blank, NotAscii, NoSession, Stmt}
use Rattle.stmt_tokens.proofs.StatementLines.{statement_line}
use Rattle.transcript.specs.Ascii.{is_ascii_text}
use Rattle.transcript.specs.Laws.{LinesAreSound}
use Rattle.transcript.specs.Shape.{is_session_name, is_line_of, speaks_in}

-- ---- no comment comes before the comment

within : (bytes : List ℕ) → comment_at bytes ≤ length bytes
within [] = omega arith
within (b ∷ bytes) = by (b == 45 && begins_with 45 bytes) (within bytes)
  where
    by : (t : Bool) → comment_at bytes ≤ length bytes → cond t 0 (1 + comment_at bytes) ≤ suc (length bytes)
    by true rest = omega arith
    by false rest = omega (arith, rest)

begins_whole : (b n : ℕ) (bytes : List ℕ) → begins_with b (take n bytes) ≡ true → begins_with b bytes ≡ true
begins_whole b zero bytes h = absurd (true≢false (sym h))
begins_whole b (suc n) [] h = h
begins_whole b (suc n) (c ∷ bytes) h = h

no_dashes : (dash other part : Bool) → (part ≡ true → other ≡ true) → (dash && other) ≡ false → (dash && part) ≡ false
no_dashes false other part up h = refl
no_dashes true other false up h = refl
no_dashes true other true up h = absurd (true≢false (sym (up refl) ∙ h))

cut_before : (bytes : List ℕ) → comment_at (take (comment_at bytes) bytes) ≡ comment_at bytes
cut_before [] = refl
cut_before (b ∷ bytes) = by (b == 45 && begins_with 45 bytes) refl (cut_before bytes)
  where
    n : ℕ
    n = comment_at bytes

    more : 1 + n ≡ suc n
    more = omega arith

    by : (t : Bool) → (b == 45 && begins_with 45 bytes) ≡ t → comment_at (take n bytes) ≡ n → comment_at (take (cond t 0 (1 + n)) (b ∷ bytes)) ≡ cond t 0 (1 + n)
    by true e rest = refl
    by false e rest =
        let none = no_dashes (b == 45) (begins_with 45 bytes) (begins_with 45 (take n bytes)) (begins_whole 45 n bytes) e in
        ap (λ k. comment_at (take k (b ∷ bytes))) more
        ∙ ap (λ t. cond t 0 (1 + comment_at (take n bytes))) none
        ∙ ap (λ k. 1 + k) rest

same_kind : (line : List ℕ) → line_kind (take (comment_at line) line) ≡ line_kind line
same_kind line =
    let text = take (comment_at line) line in
    let whole : take (comment_at text) text ≡ text = take_all (comment_at text) text (omega (arith, cut_before line, length-take (comment_at line) line)) in
    ap (λ t. of_text t (blank_len t)) whole

-- ---- where a session speaks

record Spoken (other session : Bool) (n s e len skip end : ℕ) : Type 0 where
  ascii : other ≡ false
  has : session ≡ true
  lens : n ≡ len
  skips : s ≡ skip
  ends : e ≡ end

spoken : (a b c : Bool) (n s e len skip end : ℕ) → (if a then Blank else if b then NotAscii else if c then Stmt n s e else NoSession) ≡ Stmt len skip end → Spoken b c n s e len skip end
spoken true b c n s e len skip end h = absurd cc
spoken false true c n s e len skip end h = absurd cc
spoken false false false n s e len skip end h = absurd cc
spoken false false true n s e len skip end h = record { ascii = refl; has = refl; lens = cc; skips = cc; ends = cc }

all_go_on : (bytes : List ℕ) → list_all continues_session (take (session_len bytes) bytes) ≡ true
all_go_on [] = refl
all_go_on (b ∷ bytes) = by (continues_session b) refl (all_go_on bytes)
  where
    more : 1 + session_len bytes ≡ suc (session_len bytes)
    more = omega arith

    by : (t : Bool) → continues_session b ≡ t → list_all continues_session (take (session_len bytes) bytes) ≡ true → list_all continues_session (take (cond t (1 + session_len bytes) 0) (b ∷ bytes)) ≡ true
    by false e rest = refl
    by true e rest = ap (λ n. list_all continues_session (take n (b ∷ bytes))) more ∙ (λ i. e i && rest i)

good_name : (bytes : List ℕ) → has_session bytes ≡ true → is_session_name (take (session_len bytes) bytes) ≡ true
good_name [] h = absurd (true≢false (sym h))
good_name (b ∷ bytes) h =
    let len = session_len (b ∷ bytes) in
    let m = session_len bytes in
    let front = and_first (begins_session b && nat_le len 16) (begins_with 58 (drop len (b ∷ bytes))) h in
    let letter = and_first (begins_session b) (nat_le len 16) front in
    let short = and_second (begins_session b) (nat_le len 16) front in
    let goes : continues_session b ≡ true = (λ i. (letter i || (nat_le 48 b && nat_le b 57)) || (b == 95)) in
    let size : len ≡ 1 + m = ap (λ t. cond t (1 + m) 0) goes in
    let more : len ≡ suc m = size ∙ (let e : 1 + m ≡ suc m = omega arith in e) in
    let count : length (take m bytes) ≡ m = length-prefix_len continues_session bytes in
    let few : nat_le (length (take m bytes)) 15 ≡ true = grind (arith, nat_tests) in
    let whole : is_session_name (b ∷ take m bytes) ≡ true = (λ i. (letter i && all_go_on bytes i) && few i) in
    ap (λ n. is_session_name (take n (b ∷ bytes))) more ∙ whole

-- ---- a line and its part before the comment

part_of_front : (from n c : ℕ) (bytes : List ℕ) → from + n ≤ c → take n (drop from (take c bytes)) ≡ take n (drop from bytes)
part_of_front from n c bytes h = sym (drop-take from n (take c bytes)) ∙ ap (drop from) (take-take (from + n) c bytes h) ∙ drop-take from n bytes

all_of_front : (p : ℕ → Bool) (n : ℕ) (bytes : List ℕ) → list_all p bytes ≡ true → list_all p (take n bytes) ≡ true
all_of_front p zero bytes h = refl
all_of_front p (suc n) [] h = h
all_of_front p (suc n) (b ∷ bytes) h = let all = all_of_front p n bytes (and_second (p b) (list_all p bytes) h) in (λ i. and_first (p b) (list_all p bytes) h i && all i)

not_other : (b : Bool) → not b ≡ false → b ≡ true
not_other true e = refl
not_other false e = absurd (true≢false e)

pub lines_sound : LinesAreSound
lines_sound line len skip end short one kind =
    let c = comment_at line in
    let text = take c line in
    let blanks = blank_len text in
    let bytes = drop blanks text in
    let p = spoken (nat_le (length text) blanks) (not (list_all is_ascii text)) (has_session bytes) (session_len bytes) (blanks + session_len bytes + 1) (length text) len skip end kind in
    let parts = statement_line line len skip end kind in
    let size : length text ≡ c = omega (arith, length-take c line, within line) in
    let cut : text ≡ take end line = ap (λ n. take n line) (sym size ∙ p.ends) in
    let from : skip - suc len ≡ blanks = omega (arith, p.lens, p.skips) in
    let name = session_name line len skip in
    let same : session_name text len skip ≡ name = part_of_front (skip - suc len) len c line (omega (arith, parts.colon, parts.statement, p.ends, size)) in
    let named : take (session_len bytes) bytes ≡ name = (λ i. take (p.lens i) (drop (sym from i) text)) ∙ same in
    let is_short : nat_le (length text) longest_line ≡ true = grind (arith, nat_tests, short, size, within line) in
    let speaks : speaks_in name text (line_kind text) ≡ true = ap (speaks_in name text) (same_kind line ∙ kind) ∙ (bytes_eq-Decides (session_name text len skip) name).1 same in
    let is_line : is_line_of name text ≡ true = (λ i. (is_short i && all_of_front (λ b. not (b == 10)) c line one i) && speaks i) in
    record {
      named = ap is_session_name (sym named) ∙ good_name bytes p.has;
      spoken = ap (is_line_of name) (sym cut) ∙ is_line;
      ascii = ap is_ascii_text (sym cut) ∙ not_other (is_ascii_text text) p.ascii;
      kind = ap line_kind (sym cut) ∙ same_kind line ∙ kind;
    }
