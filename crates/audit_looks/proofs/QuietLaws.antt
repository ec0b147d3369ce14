-- The lines after the head of an answer name no event.
use Rattle.std.proofs.Common.{◌≡◌, ℕ, ◌==◌, ◌&&◌, ◌||◌, Bool, true, false, cond, not, List, [], ◌∷◌, ◌++◌, drop, length, take, refl, sym, ap, ◌∙◌, arith, ne_eqb}
use Rattle.std.specs.Prelude.{ℤ, codes, decimal, nat_eq, nat_le}
use Rattle.std.specs.Fmt.{signed_decimal}
use Rattle.std.specs.Cmp.Lexicographic.{pointwise}
use Rattle.std.specs.List.{flat_map, list_any}
use Rattle.std.specs.Ordering.{int_eq}
use Rattle.std.proofs.lemmas.Bool.{or_parts, true≢false}
use Rattle.std.proofs.lemmas.Bool.Decides.{nat_tests}
use Rattle.std.proofs.lemmas.List.{append_assoc}
use Rattle.ts_bucket.specs.declared.spans.Span.{Span}
use Rattle.ts_num.specs.Texts.{datum_text}
use Rattle.ts_num.specs.declared.values.Datum.{Datum}
use Rattle.ts_num.specs.declared.values.Datum.TheVariants.{Null, Int, Ratio}
use Rattle.result_text.specs.Answers.{cells_text, more_cells, rows_text, stale_text}
use Rattle.result_text.specs.Spans.{span_text, start_text}
use Rattle.audit_looks.specs.declared.lines.Head.{Head}
use Rattle.audit_looks.specs.declared.lines.Head.TheVariants as heads
use Rattle.audit_looks.specs.Lines.{begins, has_position, head_of, named_in}
use Rattle.audit_looks.specs.Replies.{is_line_end, numbers_named, numbers_past}
use Rattle.audit_looks.proofs.ByteLaws.{IsDigit, Lacks, decimal_digits, digits_lack, first_line, lacks_append, lacks_drop, lacks_too, signed_fails}

-- ---- lines without capitals

-- a byte that ends a line, marks a position or is a capital
abbrev is_loud : ℕ → Bool
is_loud b = is_line_end b || (nat_le 64 b && nat_le b 90)

abbrev IsQuiet : List ℕ → Type 0
IsQuiet text = Lacks is_loud text

-- a byte that isn't loud differs from one that is
other : (k b : ℕ) → is_loud k ≡ true → is_loud b ≡ false → (k == b) ≡ false
other k b loud quiet = ne_eqb k b (λ e. absurd (true≢false (sym loud ∙ ap is_loud e ∙ quiet)))

other_back : (k b : ℕ) → is_loud k ≡ true → is_loud b ≡ false → (b == k) ≡ false
other_back k b loud quiet = ne_eqb b k (λ e. absurd (true≢false (sym loud ∙ ap is_loud (sym e) ∙ quiet)))

ends_none : (text : List ℕ) → IsQuiet text → Lacks is_line_end text
ends_none text quiet = lacks_too is_loud is_line_end (λ b e. (or_parts (is_line_end b) (nat_le 64 b && nat_le b 90) e).0) text quiet

no_position : (text : List ℕ) → IsQuiet text → has_position text ≡ false
no_position text quiet = lacks_too is_loud (λ b. nat_eq b 64) (λ b e. other_back 64 b refl e) text quiet

begins_other : (k b : ℕ) (ks line : List ℕ) → is_loud k ≡ true → is_loud b ≡ false → begins (b ∷ line) (k ∷ ks) ≡ false
begins_other k b ks line loud quiet = ap (λ t. t && pointwise nat_eq ks (take (length ks) line)) (other k b loud quiet)

by_tests : (cut refresh at : Bool) (others : Head) → cut ≡ false → refresh ≡ false → at ≡ false → cond cut heads.Cut (cond refresh heads.Refresh (cond (not at) heads.Quiet others)) ≡ heads.Quiet
by_tests cut refresh at others c r a = λ i. cond (c i) heads.Cut (cond (r i) heads.Refresh (cond (not (a i)) heads.Quiet others))

quiet_head : (line : List ℕ) → IsQuiet line → head_of line ≡ heads.Quiet
quiet_head [] quiet = refl
quiet_head (b ∷ line) quiet =
    let first : is_loud b ≡ false = (or_parts (is_loud b) (list_any is_loud line) quiet).0 in
    by_tests (begins (b ∷ line) (codes "CUT ")) (begins (b ∷ line) (codes "REFRESH ")) (has_position (b ∷ line)) _ (begins_other 67 b (codes "UT ") line refl first)
    (begins_other 82 b (codes "EFRESH ") line refl first) (no_position (b ∷ line) quiet)

-- such a line names no event, and reading continues after it
quiet_line : (skip : ℕ) (line rest more : List ℕ) → IsQuiet line → numbers_past skip (((line ++ codes "\n") ++ rest) ++ more) ≡ numbers_past skip (rest ++ more)
quiet_line skip line rest more quiet =
    let said = drop skip line in
    let none : numbers_named said ≡ [] = ap (λ h. named_in h said) (quiet_head said (lacks_drop is_loud skip line quiet)) in
    ap (numbers_past skip) (append_assoc (line ++ codes "\n") rest more ∙ append_assoc line (codes "\n") (rest ++ more))
    ∙ ap (flat_map (λ l. numbers_named (drop skip l))) (first_line is_line_end line 10 (rest ++ more) (ends_none line quiet) refl)
    ∙ ap (λ ns. ns ++ numbers_past skip (rest ++ more)) none

-- ---- the text of the lines

digit_quiet : (b : ℕ) → IsDigit b → is_loud b ≡ false
digit_quiet b d = let low = d.0 in let high = d.1 in grind (arith, nat_tests)

decimal_quiet : (n : ℕ) → IsQuiet (decimal n)
decimal_quiet n = digits_lack is_loud (decimal n) digit_quiet (decimal_digits n)

signed_quiet : (z : ℤ) → IsQuiet (signed_decimal z)
signed_quiet z = signed_fails is_loud z digit_quiet refl

datum_quiet : (d : Datum) → IsQuiet (datum_text d)
datum_quiet Null = refl
datum_quiet (Int n) = signed_quiet n
datum_quiet (Ratio f) = lacks_append is_loud (signed_decimal f.num ++ codes "/") (decimal f.den) (lacks_append is_loud (signed_decimal f.num) (codes "/") (signed_quiet f.num) refl) (decimal_quiet f.den)

more_quiet : (ds : List Datum) → IsQuiet (more_cells ds)
more_quiet [] = refl
more_quiet (d ∷ ds) = lacks_append is_loud (datum_text d) (more_cells ds) (datum_quiet d) (more_quiet ds)

cells_quiet : (ds : List Datum) → IsQuiet (cells_text ds)
cells_quiet [] = refl
cells_quiet (d ∷ ds) = lacks_append is_loud (datum_text d) (more_cells ds) (datum_quiet d) (more_quiet ds)

start_quiet : (min lo : ℤ) → IsQuiet (start_text min lo)
start_quiet min lo = elim (int_eq lo min) as (λ t. IsQuiet (cond t (codes "min") (signed_decimal lo))) [ true ↦ refl | false ↦ signed_quiet lo ]

span_quiet : (min : ℤ) (span : Span) → IsQuiet (span_text min span)
span_quiet min span = lacks_append is_loud (start_text min span.lo ++ codes "..") (signed_decimal span.hi) (lacks_append is_loud (start_text min span.lo) (codes "..") (start_quiet min span.lo) refl) (signed_quiet span.hi)

-- ---- what follows the head of an answer

rows_quiet : (skip : ℕ) (rows : List (List Datum)) (more : List ℕ) → numbers_past skip (rows_text rows ++ more) ≡ numbers_past skip more
rows_quiet skip [] more = refl
rows_quiet skip (row ∷ rows) more = quiet_line skip (cells_text row) (rows_text rows) more (cells_quiet row) ∙ rows_quiet skip rows more

stale_quiet : (skip : ℕ) (min : ℤ) (spans : List Span) (more : List ℕ) → numbers_past skip (stale_text min spans ++ more) ≡ numbers_past skip more
stale_quiet skip min [] more = refl
stale_quiet skip min (span ∷ spans) more = quiet_line skip (codes "stale " ++ span_text min span) (stale_text min spans) more (span_quiet min span) ∙ stale_quiet skip min spans more

pub answer_quiet : (skip : ℕ) (rows : List (List Datum)) (min : ℤ) (spans : List Span) (more : List ℕ) → numbers_past skip ((rows_text rows ++ stale_text min spans) ++ more) ≡ numbers_past skip more
answer_quiet skip rows min spans more =
    ap (numbers_past skip) (append_assoc (rows_text rows) (stale_text min spans) more) ∙ rows_quiet skip rows (stale_text min spans ++ more) ∙ stale_quiet skip min spans more
