-- Texts of ASCII with few bytes in which no comment begins, and lines of a session with such texts.
use lib.Signed.{mag}
use Rattle.std.proofs.Common.{◌≡◌, ◌∙◌, refl, sym, ap, subst, ℕ, suc, ◌+◌, ◌-◌, ◌<◌, ◌≤◌, ◌^◌, ℤ, pos, negsuc, Bool, true, false, cond, eqb, not, ◌&&◌, ◌||◌, ◌==◌, List, [], ◌∷◌, ◌++◌, length, take, drop, codes, nat_le, true≢false, arith, length-take, length-drop, drop-drop}
use Rattle.std.specs.Prelude.{decimal, if◌then◌else◌}
use Rattle.std.specs.Char.{is_ascii}
use Rattle.std.specs.Fmt.{signed_decimal}
use Rattle.std.specs.List.{list_all}
use Rattle.std.specs.Str.Parse.{AllDigits, IsNumeral}
use Rattle.std.proofs.Math.Dec.{leb-suc-zero}
use Rattle.std.proofs.Math.Numerals.{one-add}
use Rattle.std.proofs.Math.Seq.{drop-append_seam, take-append_seam, take-length}
use Rattle.std.proofs.lemmas.Bool.{and_from, and_parts, lt-ltb, ne_eqb}
use Rattle.std.proofs.lemmas.Bool.Decides.{nat_tests}
use Rattle.std.proofs.lemmas.Fmt.{decimal_is_IsNumeral, length-decimal-le}
use Rattle.std.proofs.lemmas.List.{append_assoc, append-nil, drop-take, length-append, take-take}
use Rattle.std.proofs.lemmas.List.Folds.{length-prefix_len, list_all-append}
use Rattle.ts_schema.specs.Names.{is_head, is_name, is_tail}
use Rattle.ts_schema.proofs.Cases.{and_first, and_second}
use Rattle.stmt_tokens.specs.Lines.{begins_session, comment_at, continues_session, has_session, line_kind, of_text, session_len, session_name}
use Rattle.stmt_tokens.specs.Tokens.{begins_with, blank_len}
use Rattle.stmt_tokens.specs.declared.lines.LineKind.TheVariants.{Blank, NotAscii, NoSession, Stmt}
use Rattle.policy_jobs.proofs.TokenLaws.{IsDigit, digit_in_front, not_blank}

-- no comment begins in a text, whatever text follows; it is ASCII, and has at most `most` bytes
pub record IsClean (most : ℕ) (text : List ℕ) : Type 0 where
  pub comment : (rest : List ℕ) → comment_at (text ++ rest) ≡ length text + comment_at rest
  pub ascii : list_all is_ascii text ≡ true
  pub bytes : length text ≤ most

pub both : (m n : ℕ) (a b : List ℕ) → IsClean m a → IsClean n b → IsClean (m + n) (a ++ b)
both m n a b first second = record {
  comment = λ rest. ap comment_at (append_assoc a b rest) ∙ omega (arith, first.comment (b ++ rest), second.comment rest, length-append a b);
  ascii = list_all-append is_ascii a b ∙ and_from _ _ first.ascii second.ascii;
  bytes = omega (arith, length-append a b, first.bytes, second.bytes);
}

pub nothing : IsClean 0 []
nothing = record { comment = λ rest. omega arith; ascii = refl; bytes = omega arith }

pub less : (m n : ℕ) (text : List ℕ) → m ≤ n → IsClean m text → IsClean n text
less m n text fewer clean = record { comment = clean.comment; ascii = clean.ascii; bytes = omega (arith, clean.bytes) }

-- a text with one more byte at the beginning, which begins no comment
onto : (b m : ℕ) (text : List ℕ) → ((rest : List ℕ) → (eqb b 45 && begins_with 45 (text ++ rest)) ≡ false) → b < 128 → IsClean m text → IsClean (suc m) (b ∷ text)
onto b m text none small clean = record {
  comment = λ rest. ap (λ t. cond t 0 (1 + comment_at (text ++ rest))) (none rest) ∙ omega (arith, clean.comment rest);
  ascii = and_from _ _ (lt-ltb b 128 small) clean.ascii;
  bytes = omega (arith, clean.bytes);
}

-- ---- numbers

no_minus : (d : ℕ) → IsDigit d → eqb d 45 ≡ false
no_minus d digit = ne_eqb d 45 (λ e. omega (arith, digit.low))

digits_clean : (ds : List ℕ) → AllDigits 10 ds → IsClean (length ds) ds
digits_clean [] all = nothing
digits_clean (d ∷ ds) all =
    let digit = digit_in_front d ds all in
    onto d (length ds) ds (λ rest. ap (λ t. t && begins_with 45 (ds ++ rest)) (no_minus d digit)) (omega (arith, digit.high)) (digits_clean ds all.1)

pub decimal_clean : (n : ℕ) → n < 2 ^ 63 → IsClean 20 (decimal n)
decimal_clean n small = less (length (decimal n)) 20 (decimal n) (length-decimal-le 20 n (omega arith) (omega arith) (omega arith))
    (digits_clean (decimal n) (decimal_is_IsNumeral n (omega arith)).0.1)

minus_clean : (m : ℕ) (ds : List ℕ) → IsNumeral 10 ds → IsClean m ds → IsClean (suc m) (45 ∷ ds)
minus_clean m [] numeral clean = absurd (omega (arith, numeral.0))
minus_clean m (d ∷ ds) numeral clean = onto 45 m (d ∷ ds) (λ rest. no_minus d (digit_in_front d ds numeral.1)) (omega arith) clean

pub signed_clean : (z : ℤ) → mag z < 2 ^ 62 + 1 → IsClean 21 (signed_decimal z)
signed_clean (pos n) small = less 20 21 (decimal n) (omega arith) (decimal_clean n (omega arith))
signed_clean (negsuc n) small = minus_clean 20 (decimal (suc n)) (decimal_is_IsNumeral (suc n) (omega arith)).0 (decimal_clean (suc n) (omega arith))

-- ---- marks

pub comma : IsClean 2 (codes ", ")
comma = record { comment = λ rest. omega arith; ascii = refl; bytes = omega arith }

pub opening : IsClean 1 (codes "(")
opening = record { comment = λ rest. omega arith; ascii = refl; bytes = omega arith }

pub closing : IsClean 1 (codes ")")
closing = record { comment = λ rest. omega arith; ascii = refl; bytes = omega arith }

-- ---- names

-- bytes of ASCII that aren't minuses
pub plain_clean : (test : ℕ → Bool) → ((b : ℕ) → test b ≡ true → (eqb b 45 ≡ false) × (b < 128)) → (text : List ℕ) → list_all test text ≡ true → IsClean (length text) text
plain_clean test plain [] all = nothing
plain_clean test plain (b ∷ text) all =
    let k = and_parts (test b) (list_all test text) all in
    let here = plain b k.0 in
    onto b (length text) text (λ rest. ap (λ t. t && begins_with 45 (text ++ rest)) here.0) here.1 (plain_clean test plain text k.1)

tail_small : (b : ℕ) → is_tail b ≡ true → b < 128
tail_small b e = grind (arith, nat_tests)

tail_no_minus : (b : ℕ) → is_tail b ≡ true → eqb b 45 ≡ false
tail_no_minus b e = ne_eqb b 45 (λ is. true≢false (sym e ∙ ap is_tail is))

-- names
pub name_clean : (name : List ℕ) → is_name name ≡ true → IsClean 63 name
name_clean [] e = absurd (true≢false (sym e))
name_clean (b ∷ bs) e =
    let few = and_parts (nat_le (length (b ∷ bs)) 63 && is_head b) (list_all is_tail bs) e in
    let front = and_parts (nat_le (length (b ∷ bs)) 63) (is_head b) few.0 in
    let head : is_tail b ≡ true = rw front.1 refl in
    let all : list_all is_tail (b ∷ bs) ≡ true = and_from (is_tail b) (list_all is_tail bs) head few.1 in
    let bytes : length (b ∷ bs) ≤ 63 = grind (arith, nat_tests, front.0) in
    less (length (b ∷ bs)) 63 (b ∷ bs) bytes (plain_clean is_tail (λ c k. (tail_no_minus c k, tail_small c k)) (b ∷ bs) all)

-- ---- sessions

continues_small : (b : ℕ) → continues_session b ≡ true → b < 128
continues_small b e = grind (arith, nat_tests)

continues_no_minus : (b : ℕ) → continues_session b ≡ true → eqb b 45 ≡ false
continues_no_minus b e = ne_eqb b 45 (λ is. true≢false (sym e ∙ ap continues_session is))

-- the name of a session, of at most 16 bytes
pub record IsSession (name : List ℕ) : Type 0 where
  pub head : ℕ
  pub tail : List ℕ
  pub is : name ≡ head ∷ tail
  pub letter : begins_session head ≡ true
  pub rest : list_all continues_session name ≡ true
  pub short : length name ≤ 16

-- the bytes that continue a session's name
all_continue : (bytes : List ℕ) → list_all continues_session (take (session_len bytes) bytes) ≡ true
all_continue [] = refl
all_continue (b ∷ bytes) =
    elim (continues_session b) as (λ t. continues_session b ≡ t → list_all continues_session (take (cond t (1 + session_len bytes) 0) (b ∷ bytes)) ≡ true) [
      | true ↦ λ e. ap (λ n. list_all continues_session (take n (b ∷ bytes))) (one-add (session_len bytes)) ∙ and_from (continues_session b) (list_all continues_session (take (session_len bytes) bytes)) e (all_continue bytes)
      | false ↦ λ e. refl
    ] refl

-- the name ends where no byte continues it
ends_there : (name rest : List ℕ) → list_all continues_session name ≡ true → session_len rest ≡ 0 → session_len (name ++ rest) ≡ length name
ends_there [] rest all none = none
ends_there (b ∷ name) rest all none =
    let k = and_parts (continues_session b) (list_all continues_session name) all in
    ap (λ t. cond t (1 + session_len (name ++ rest)) 0) k.0 ∙ one-add (session_len (name ++ rest)) ∙ ap suc (ends_there name rest k.1 none)

of_bytes : (bytes : List ℕ) → has_session bytes ≡ true → IsSession (take (session_len bytes) bytes)
of_bytes [] h = absurd (true≢false (sym h))
of_bytes (b ∷ bytes) h =
    let n = session_len (b ∷ bytes) in
    let front = and_first (begins_session b && nat_le n 16) (begins_with 58 (drop n (b ∷ bytes))) h in
    let letter = and_first (begins_session b) (nat_le n 16) front in
    let few = and_second (begins_session b) (nat_le n 16) front in
    let goes : continues_session b ≡ true = (λ i. (letter i || (nat_le 48 b && nat_le b 57)) || (b == 95)) in
    let size : n ≡ suc (session_len bytes) = ap (λ t. cond t (1 + session_len bytes) 0) goes ∙ one-add (session_len bytes) in
    let len : length (take n (b ∷ bytes)) ≡ n = length-prefix_len continues_session (b ∷ bytes) in
    record {
      head = b;
      tail = take (session_len bytes) bytes;
      is = ap (λ k. take k (b ∷ bytes)) size;
      letter = letter;
      rest = all_continue (b ∷ bytes);
      short = (let low : n ≤ 16 = grind (arith, nat_tests, few) in omega (arith, len, low));
    }

-- ---- the session of a line

-- the parts of a line whose kind is a statement
record Parts (session : Bool) (n s e len skip end : ℕ) : Type 0 where
  has : session ≡ true
  lens : n ≡ len
  skips : s ≡ skip

parts : (a b c : Bool) (n s e len skip end : ℕ) → (if a then Blank else if b then NotAscii else if c then Stmt n s e else NoSession) ≡ Stmt len skip end → Parts c n s e len skip end
parts true b c n s e len skip end h = absurd cc
parts false true c n s e len skip end h = absurd cc
parts false false false n s e len skip end h = absurd cc
parts false false true n s e len skip end h = record { has = refl; lens = cc; skips = cc }

-- the name of a line with a statement is that of a session
pub session_of_line : (line : List ℕ) (len skip end : ℕ) → line_kind line ≡ Stmt len skip end → IsSession (session_name line len skip)
session_of_line line len skip end h =
    let c = comment_at line in
    let text = take c line in
    let blanks = blank_len text in
    let bytes = drop blanks text in
    let p = parts (nat_le (length text) blanks) (not (list_all is_ascii text)) (has_session bytes) (session_len bytes) (blanks + session_len bytes + 1) (length text) len skip end h in
    let name = of_bytes bytes p.has in
    let counted : length (take (session_len bytes) bytes) ≡ session_len bytes = length-prefix_len continues_session bytes in
    let some : 0 < session_len bytes = omega (arith, counted, ap length name.is) in
    let inside : session_len bytes ≤ length bytes = omega (arith, counted, length-take (session_len bytes) bytes) in
    let text_len = length-take c line in
    let left = length-drop blanks text in
    let from : skip - suc len ≡ blanks = omega (arith, p.lens, p.skips) in
    let within : blanks + len ≤ c = omega (arith, p.lens, some, inside, left, text_len) in
    let same : take len bytes ≡ take len (drop blanks line) = sym (drop-take blanks len text) ∙ ap (drop blanks) (take-take (blanks + len) c line within) ∙ drop-take blanks len line in
    subst IsSession (ap (λ n. take n bytes) p.lens ∙ same ∙ ap (λ n. take len (drop n line)) (sym from)) name

-- ---- lines of a session

colon : IsClean 2 (codes ": ")
colon = record { comment = λ rest. omega arith; ascii = refl; bytes = omega arith }

-- the name of a session and a colon, and any text after them
module _ (b : ℕ) (bs behind : List ℕ) (letter : begins_session b ≡ true) (rest : list_all continues_session (b ∷ bs) ≡ true) (short : length (b ∷ bs) ≤ 16) where
  abbrev said_name : List ℕ
  said_name = b ∷ bs

  abbrev said_line : List ℕ
  said_line = said_name ++ 58 ∷ behind

  slen : session_len said_line ≡ length said_name
  slen = ends_there said_name (58 ∷ behind) rest refl

  is_session : has_session said_line ≡ true
  is_session =
      let few : nat_le (length said_name) 16 ≡ true = grind (arith, nat_tests, short) in
      ap (λ n. (begins_session b && nat_le n 16) && begins_with 58 (drop n said_line)) slen
      ∙ ap (λ t. (t && nat_le (length said_name) 16) && begins_with 58 (drop (length said_name) said_line)) letter
      ∙ ap (λ t. t && begins_with 58 (drop (length said_name) said_line)) few
      ∙ ap (begins_with 58) (drop-append_seam said_name (58 ∷ behind))

  no_blank : blank_len said_line ≡ 0
  no_blank =
      let low : 97 ≤ b = grind (arith, nat_tests, letter) in
      not_blank b (bs ++ 58 ∷ behind) (grind (arith, nat_tests, low)) (ne_eqb b 13 (λ e. omega (arith, low)))

  kind_here : (most : ℕ) → IsClean most said_line → line_kind said_line ≡ Stmt (length said_name) (length said_name + 1) (length said_line)
  kind_here most clean =
      let whole : comment_at said_line ≡ length said_line = ap comment_at (sym (append-nil said_line)) ∙ omega (arith, clean.comment []) in
      let all : take (comment_at said_line) said_line ≡ said_line = ap (λ k. take k said_line) whole ∙ take-length said_line in
      let skip : 0 + length said_name + 1 ≡ length said_name + 1 = omega arith in
      ap (λ text. of_text text (blank_len text)) all
      ∙ ap (of_text said_line) no_blank
      ∙ ap (λ t. cond t Blank (cond (not (list_all is_ascii said_line)) NotAscii (cond (has_session said_line) (Stmt (session_len said_line) (0 + session_len said_line + 1) (length said_line)) NoSession))) (leb-suc-zero (length (bs ++ 58 ∷ behind)))
      ∙ ap (λ t. cond (not t) NotAscii (cond (has_session said_line) (Stmt (session_len said_line) (0 + session_len said_line + 1) (length said_line)) NoSession)) clean.ascii
      ∙ ap (λ t. cond t (Stmt (session_len said_line) (0 + session_len said_line + 1) (length said_line)) NoSession) is_session
      ∙ ap (λ n. Stmt n (0 + n + 1) (length said_line)) slen
      ∙ ap (λ n. Stmt (length said_name) n (length said_line)) skip

-- a clean line of a session has no comment
pub kind_of_clean : (most : ℕ) (name behind : List ℕ) → IsSession name → IsClean most (name ++ 58 ∷ behind) → line_kind (name ++ 58 ∷ behind) ≡ Stmt (length name) (length name + 1) (length (name ++ 58 ∷ behind))
kind_of_clean most [] behind is clean = absurd (let none = is.is in cc)
kind_of_clean most (b ∷ bs) behind is clean =
    let same : is.head ≡ b = (let e = is.is in cc) in
    kind_here b bs behind (subst (λ x. begins_session x ≡ true) same is.letter) is.rest is.short most clean

-- the parts of a line that gives a session a text, without a comment
pub record IsSaidBy (most : ℕ) (name text : List ℕ) : Type 0 where
  pub kind : line_kind (name ++ (codes ": " ++ text)) ≡ Stmt (length name) (length name + 1) (length (name ++ (codes ": " ++ text)))
  pub session : session_name (name ++ (codes ": " ++ text)) (length name) (length name + 1) ≡ name
  pub left : drop (length name + 1) (name ++ (codes ": " ++ text)) ≡ 32 ∷ text
  pub within : length name + 1 ≤ length (name ++ (codes ": " ++ text))
  pub bytes : length (name ++ (codes ": " ++ text)) ≤ 18 + most

-- a clean text in a line of a session
pub said_by : (most : ℕ) (name text : List ℕ) → IsSession name → IsClean most text → IsSaidBy most name text
said_by most name text is clean =
    let named : IsClean 16 name = less (length name) 16 name is.short (plain_clean continues_session (λ b e. (continues_no_minus b e, continues_small b e)) name is.rest) in
    let whole : IsClean (16 + (2 + most)) (name ++ (codes ": " ++ text)) = both 16 (2 + most) name (codes ": " ++ text) named (both 2 most (codes ": ") text colon clean) in
    let none : (length name + 1) - suc (length name) ≡ 0 = omega arith in
    record {
      kind = kind_of_clean (16 + (2 + most)) name (32 ∷ text) is whole;
      session = ap (λ n. take (length name) (drop n (name ++ 58 ∷ 32 ∷ text))) none ∙ take-append_seam name (58 ∷ 32 ∷ text);
      left = sym (drop-drop 1 (length name) (name ++ 58 ∷ 32 ∷ text)) ∙ ap (drop 1) (drop-append_seam name (58 ∷ 32 ∷ text));
      within = omega (arith, length-append name (58 ∷ 32 ∷ text));
      bytes = omega (arith, whole.bytes);
    }
