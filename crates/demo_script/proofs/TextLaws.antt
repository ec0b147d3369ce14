-- The text of a script has its lines, and is short: no line has a line end within it, and none is long.
use Rattle.std.proofs.Common.{◌≡◌, ◌∙◌, refl, ap, ℕ, zero, suc, ◌+◌, ◌*◌, ◌/◌, ◌%◌, ◌≤◌, ℤ, pos, negsuc, true, false, cond, nat_lt, ◌==◌, List, [], ◌∷◌, ◌++◌, length, codes, decimal, arith}
use Rattle.std.specs.Prelude.{⊤}
use Rattle.std.specs.Fmt.{digit_glyph, digits, digits_onto, signed_decimal}
use Rattle.std.specs.List.{flat_map, range_with_len}
use Rattle.std.proofs.lemmas.Bool.{ne_eqb}
use Rattle.std.proofs.lemmas.List.{append_assoc, length-append}
use Rattle.ts_io.specs.Lines.{ended_lines, lines_of, lines_within, onto_ended}
use Rattle.ts_io.specs.declared.limits.TheConstants.{INPUT_LIMIT}
use Rattle.ts_io.proofs.LineLaws.{ended_lines-append_none, lines_of-at}
use Rattle.ts_io.proofs.Within.{lines_within-whole}
use Rattle.demo_script.specs.Demo.{aggregate_line, answer_line, demo_lines, demo_text, hypertable_line, insert_line, late_line, number_of, range_text, refresh_line, round_lines, row_text, rows_text, table_line, time_of, value_of, values_text, with_end}
use Rattle.demo_script.proofs.PlaceLaws.{count}

-- ---- texts without a line end

-- a text has no line end and at most `most` bytes
record IsShort (most : ℕ) (text : List ℕ) : Type 0 where
  no_end : ended_lines text ≡ []
  bytes : length text ≤ most

both : (m n : ℕ) (a b : List ℕ) → IsShort m a → IsShort n b → IsShort (m + n) (a ++ b)
both m n a b first second = record {
  no_end = ended_lines-append_none a b first.no_end second.no_end;
  bytes = omega (arith, length-append a b, first.bytes, second.bytes);
}

less : (m n : ℕ) (text : List ℕ) → m ≤ n → IsShort m text → IsShort n text
less m n text fewer short = record { no_end = short.no_end; bytes = omega (arith, short.bytes) }

-- ---- numbers

-- a digit isn't a line end
digit : (d : ℕ) → (digit_glyph false d == 10) ≡ false
digit d = elim (nat_lt d 10) as (λ t. ((cond t (48 + d) (87 + d)) == 10) ≡ false) [
  | true ↦ ne_eqb (48 + d) 10 (λ e. omega arith)
  | false ↦ ne_eqb (87 + d) 10 (λ e. omega arith)
]

onto : (b : ℕ) (m : ℕ) (text : List ℕ) → (b == 10) ≡ false → IsShort m text → IsShort (suc m) (b ∷ text)
onto b m text other short = record {
  no_end = ap (λ t. cond t ([] ∷ ended_lines text) (onto_ended b (ended_lines text))) other ∙ ap (onto_ended b) short.no_end;
  bytes = omega (arith, short.bytes);
}

-- at most k digits before a text
digits_short : (k n m : ℕ) (text : List ℕ) → IsShort m text → IsShort (k + m) (digits_onto k 10 false n text)
digits_short zero n m text short = less m (0 + m) text (omega arith) short
digits_short (suc k) n m text short =
    let one : IsShort (suc m) (digit_glyph false (n % 10) ∷ text) = onto (digit_glyph false (n % 10)) m text (digit (n % 10)) short in
    elim (n / 10 == 0) as (λ t. IsShort (suc k + m) (cond t (digit_glyph false (n % 10) ∷ text) (digits_onto k 10 false (n / 10) (digit_glyph false (n % 10) ∷ text)))) [
      | true ↦ less (suc m) (suc k + m) _ (omega arith) one
      | false ↦ less (k + suc m) (suc k + m) _ (omega arith) (digits_short k (n / 10) (suc m) (digit_glyph false (n % 10) ∷ text) one)
    ]

nothing : IsShort 0 []
nothing = record { no_end = refl; bytes = omega arith }

decimal_short : (n : ℕ) → IsShort 64 (decimal n)
unfolding digits
decimal_short n = digits_short 64 n 0 [] nothing

signed_short : (z : ℤ) → IsShort 65 (signed_decimal z)
signed_short (pos n) = less 64 65 (decimal n) (omega arith) (decimal_short n)
signed_short (negsuc n) = onto 45 64 (decimal (suc n)) refl (decimal_short (suc n))

-- ---- rows

comma : IsShort 2 (codes ", ")
comma = record { no_end = refl; bytes = omega arith }

opening : IsShort 1 (codes "(")
opening = record { no_end = refl; bytes = omega arith }

closing : IsShort 1 (codes ")")
closing = record { no_end = refl; bytes = omega arith }

values_short : (time : ℤ) (device value : ℕ) → IsShort 199 (values_text time device value)
values_short time device value =
    both 198 1 _ _ (both 134 64 _ _ (both 132 2 _ _ (both 68 64 _ _ (both 66 2 _ _ (both 1 65 _ _ opening (signed_short time)) comma) (decimal_short device)) comma) (decimal_short value)) closing

row_short : (demo round place : ℕ) → IsShort 199 (row_text demo round place)
unfolding row_text
row_short demo round place = let number = number_of round place in values_short (time_of number place) (number % 8) (value_of demo number)

pieces_short : (piece : ℕ → List ℕ) (most : ℕ) → ((k : ℕ) → IsShort most (piece k)) → (a n : ℕ) → IsShort (most * n) (flat_map piece (range_with_len a n))
pieces_short piece most each a zero = less 0 (most * 0) [] (omega arith) nothing
pieces_short piece most each a (suc n) = less (most + most * n) (most * suc n) _ (omega arith) (both most (most * n) _ _ (each a) (pieces_short piece most each (a + 1) n))

rows_short : (demo round first n : ℕ) → IsShort (199 + 201 * n) (rows_text demo round first (suc n))
unfolding rows_text
rows_short demo round first n = both 199 (201 * n) _ _ (row_short demo round first)
    (pieces_short (λ k. codes ", " ++ row_text demo round k) 201 (λ k. both 2 199 _ _ comma (row_short demo round k)) (first + 1) n)

-- ---- lines, none of which has more than 30,000 bytes

insert_short : (demo round part : ℕ) → IsShort 30000 (insert_line demo round part)
unfolding insert_line
insert_short demo round part =
    let insert : IsShort 24 (codes "d: INSERT INTO m VALUES ") = record { no_end = refl; bytes = omega arith } in
    less (24 + (199 + 201 * 99)) 30000 _ (omega arith) (both 24 (199 + 201 * 99) _ _ insert (rows_short demo round (100 * part) 99))

range_short : (start : ℤ) (end : ℕ) → IsShort 132 (range_text start end)
range_short start end = both 131 1 _ _ (both 67 64 _ _ (both 65 2 _ _ (signed_short start) comma) (decimal_short end)) closing

refresh_short : (round : ℕ) → IsShort 30000 (refresh_line round)
unfolding refresh_line
refresh_short round =
    let call : IsShort 45 (codes "d: CALL refresh_continuous_aggregate('m100', ") = record { no_end = refl; bytes = omega arith } in
    less (45 + 132) 30000 _ (omega arith) (both 45 132 _ _ call (range_short _ _))

answer_short : IsShort 30000 answer_line
unfolding answer_line
answer_short = record { no_end = refl; bytes = omega arith }

late_short : (demo : ℕ) → IsShort 30000 (late_line demo)
unfolding late_line
late_short demo =
    let insert : IsShort 24 (codes "d: INSERT INTO m VALUES ") = record { no_end = refl; bytes = omega arith } in
    less (24 + 199) 30000 _ (omega arith) (both 24 199 _ _ insert (values_short (pos 1000) 0 (demo % 1000)))

table_short : IsShort 30000 table_line
unfolding table_line
table_short = record { no_end = refl; bytes = omega arith }

hypertable_short : IsShort 30000 hypertable_line
unfolding hypertable_line
hypertable_short = record { no_end = refl; bytes = omega arith }

aggregate_short : IsShort 30000 aggregate_line
unfolding aggregate_line
aggregate_short = record { no_end = refl; bytes = omega arith }

-- ---- the script

abbrev AllShort : List (List ℕ) → Type 0
AllShort [] = ⊤
AllShort (line ∷ lines) = IsShort 30000 line × AllShort lines

rounds_short : (demo a n : ℕ) (behind : List (List ℕ)) → AllShort behind → AllShort (flat_map (round_lines demo) (range_with_len a n) ++ behind)
rounds_short demo a zero behind short = short
rounds_short demo a (suc n) behind short = (
  insert_short demo a 0,
  (
    insert_short demo a 1,
    (
      insert_short demo a 2,
      (
        insert_short demo a 3,
        (
          insert_short demo a 4,
          (refresh_short a, (answer_short, rounds_short demo (a + 1) n behind short)),
        ),
      ),
    ),
  ),
)

all_short : (demo : ℕ) → AllShort (demo_lines demo)
unfolding demo_lines
all_short demo = (table_short, (hypertable_short, (aggregate_short, rounds_short demo 0 40 (late_line demo ∷ answer_line ∷ []) (late_short demo, (answer_short, tt)))))

length_of : (lines : List (List ℕ)) → AllShort lines → length (flat_map with_end lines) ≤ 30001 * length lines
length_of [] short = omega arith
length_of (line ∷ lines) short =
    omega (arith, length-append (with_end line) (flat_map with_end lines), length-append line (codes "\n"), short.0.bytes, length_of lines short.1)

lines_are : (lines : List (List ℕ)) → AllShort lines → lines_of (flat_map with_end lines) ≡ lines
lines_are [] short = refl
lines_are (line ∷ lines) short =
    ap lines_of (append_assoc line (codes "\n") (flat_map with_end lines))
    ∙ lines_of-at line (flat_map with_end lines) short.0.no_end
    ∙ ap (λ rest. line ∷ rest) (lines_are lines short.1)

pub within : (demo : ℕ) → length (demo_text demo) ≤ INPUT_LIMIT
unfolding demo_text
within demo = omega (arith, length_of (demo_lines demo) (all_short demo), count demo)

pub lines : (demo : ℕ) → lines_within INPUT_LIMIT (demo_text demo) ≡ demo_lines demo
unfolding demo_text
lines demo = lines_within-whole INPUT_LIMIT (demo_text demo) (within demo) ∙ lines_are (demo_lines demo) (all_short demo)
