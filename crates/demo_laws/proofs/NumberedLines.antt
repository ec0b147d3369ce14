-- The lines with numbers in them are read as their statements.
use lib.Signed.{mag}
use Rattle.std.proofs.Common.{◌≡◌, ◌∙◌, refl, sym, ap, ℕ, suc, ◌+◌, ◌*◌, ◌%◌, ◌<◌, ◌≤◌, ◌^◌, ℤ, pos, ◌-ℤ◌, true, List, [], ◌∷◌, ◌++◌, map, Option, Some, None, Ok, codes, arith}
use Rattle.std.specs.Fmt.{signed_decimal}
use Rattle.std.specs.List.{flat_map, range_with_len}
use Rattle.std.proofs.lemmas.List.{append_assoc, append-nil}
use Rattle.stmt_reader.specs.Reading.{bind, column_list, end, form, insert_rest, list_parser, one, row, semicolon, statement, takes, token_parser, call_rest, window, value, number}
use Rattle.stmt_tokens.specs.Streams.{Stream, ends, ◌then◌, stream}
use Rattle.stmt_tokens.specs.Tokens.{word, number as number_at, mark, quoted}
use Rattle.stmt_syntax.specs.Limits.{is_i64}
use Rattle.stmt_reader.specs.declared.phrases.Separator.TheVariants.{Comma as CommaBetween}
use Rattle.stmt_syntax.specs.declared.statements.Stmt.TheVariants as stmts
use Rattle.stmt_tokens.specs.declared.tokens.Mark.TheVariants.{Open, Close, Comma}
use Rattle.demo_script.specs.Demo.{insert_line, late_line, range_text, refresh_line, row_text, rows_text, values_text}
use Rattle.demo_laws.specs.Statements.{stmt_of, values_at, values_of, values_with}
use Rattle.demo_script.specs.declared.lines.Line.TheVariants as lines
use Rattle.demo_laws.proofs.ClosedLines.{Reads}
use Rattle.policy_jobs.proofs.TokenLaws.{is_word, Comes, IsAt, behind_space, comes, ends_at, first_token, number_token}
use Rattle.demo_laws.proofs.Rows.{IsSmall, RowComes, RowsCome, ValueComes, no_digit, one_row, row_comes, rows_come, rows_end, value_bytes, value_comes, value_stream}

-- ---- inserts

-- the words before rows, and a stream after them
abbrev insert_stream : ℕ → ℕ → ℕ → ℕ → Stream → Stream
insert_stream a b c d s =
    (record { at = a; token = word (codes "insert") }) then ((record { at = b; token = word (codes "into") })
    then ((record { at = c; token = word (codes "m") }) then ((record { at = d; token = word (codes "values") }) then s)))

insert_is_read : (a b c d e : ℕ) (s : Stream) (rows : List (List (Option ℤ))) → list_parser CommaBetween row s ≡ Ok (rows, ends e)
    → statement (insert_stream a b c d s) ≡ Ok (stmts.Insert (codes "m") None rows, ends e)
unfolding statement form bind takes token_parser one insert_rest column_list semicolon end
insert_is_read a b c d e s rows rows-are = rw rows-are refl

abbrev insert_text : List ℕ → List ℕ
insert_text rest = codes "d: INSERT INTO m VALUES " ++ rest

-- the words come first, and then the rest
record WordsCome (text rest : List ℕ) : Type 0 where
  a : ℕ
  b : ℕ
  c : ℕ
  d : ℕ
  end : ℕ
  is : stream text 2 ≡ insert_stream a b c d (stream text end)
  left : IsAt text end (32 ∷ rest)

words_by_tokens : (text rest i_rest t_rest v_rest : List ℕ) (one : Comes text 2 (word (codes "insert")) i_rest) (two : Comes text one.end (word (codes "into")) t_rest)
    → (three : Comes text two.end (word (codes "m")) v_rest) → Comes text three.end (word (codes "values")) (32 ∷ rest) → WordsCome text rest
words_by_tokens text rest i_rest t_rest v_rest one two three four =
    record { a = one.at; b = two.at; c = three.at; d = four.at; end = four.end; is = rw (one.is, two.is, three.is, four.is) refl; left = four.left }

words_come : (rest : List ℕ) → WordsCome (insert_text rest) rest
words_come rest =
    let text : List ℕ = insert_text rest in
    let one = comes text (codes " INSERT INTO m VALUES " ++ rest) (codes " INTO m VALUES " ++ rest) 2 (word (codes "insert")) (record { within = omega arith; left = refl }) refl in
    let two = comes text (codes " INTO m VALUES " ++ rest) (codes " m VALUES " ++ rest) one.end (word (codes "into")) one.left refl in
    let three = comes text (codes " m VALUES " ++ rest) (codes " VALUES " ++ rest) two.end (word (codes "m")) two.left refl in
    let four = comes text (codes " VALUES " ++ rest) (32 ∷ rest) three.end (word (codes "values")) three.left refl in
    words_by_tokens text rest (codes " INTO m VALUES " ++ rest) (codes " m VALUES " ++ rest) (codes " VALUES " ++ rest) one two three four

-- a first row, and others after it
rows_are_read : (text rest : List ℕ) (skip : ℕ) (values : List (Option ℤ)) (rows : List (List (Option ℤ))) (one : RowComes text skip values rest) (others : RowsCome (values ∷ []) text one.end rows)
    → list_parser CommaBetween row (stream text skip) ≡ Ok (values ∷ rows, ends others.end)
unfolding list_parser bind
rows_are_read text rest skip values rows one others = rw (one.is, others.is) refl

insert_reads : (rest last : List ℕ) (values : List (Option ℤ)) (rows : List (List (Option ℤ))) (words : WordsCome (insert_text rest) rest) (one : RowComes (insert_text rest) words.end values last)
    → RowsCome (values ∷ []) (insert_text rest) one.end rows → Reads (insert_text rest) (stmts.Insert (codes "m") None (values ∷ rows))
insert_reads rest last values rows words one others = record {
  left = ends others.end;
  is = ap statement words.is
      ∙ insert_is_read words.a words.b words.c words.d others.end (stream (insert_text rest) words.end) (values ∷ rows)
      (rows_are_read (insert_text rest) last words.end values rows one others);
}

-- only one row
late_reads : (time : ℤ) (device amount : ℕ) → mag time < 2 ^ 63 → device < 2 ^ 63 → amount < 2 ^ 63
    → Reads (insert_text (values_text time device amount)) (stmts.Insert (codes "m") None (values_with time device amount ∷ []))
late_reads time device amount t v w =
    let rest : List ℕ = values_text time device amount in
    let words = words_come rest in
    let left : IsAt (insert_text rest) words.end (32 ∷ (rest ++ [])) = record { within = words.left.within; left = words.left.left ∙ ap (λ b. 32 ∷ b) (sym (append-nil rest)) } in
    let one = row_comes (insert_text rest) [] words.end time device amount t v w left in
    insert_reads rest [] (values_with time device amount) [] words one (rows_end (values_with time device amount ∷ []) (insert_text rest) one.end one.left)

-- rows of a round
part_reads : (demo round first n : ℕ) → ((place : ℕ) → first ≤ place → place < first + suc n → IsSmall demo round place)
    → Reads (insert_text (rows_text demo round first (suc n))) (stmts.Insert (codes "m") None (values_of demo round first (suc n)))
unfolding rows_text values_of
part_reads demo round first n small =
    let others : List ℕ = flat_map (λ k. codes ", " ++ row_text demo round k) (range_with_len (first + 1) n) in
    let rest : List ℕ = row_text demo round first ++ others in
    let words = words_come rest in
    let one = one_row demo round first (insert_text rest) others words.end (small first (omega arith) (omega arith)) words.left in
    insert_reads rest others (values_at demo round first) (map (values_at demo round) (range_with_len (first + 1) n)) words one
    (rows_come demo round (insert_text rest) n (first + 1) one.end (values_at demo round first ∷ []) (λ place low high. small place (omega arith) (omega arith)) one.left)

-- ---- refreshes

-- the words before the bounds, and a stream after them
abbrev call_stream : ℕ → ℕ → ℕ → ℕ → ℕ → Stream → Stream
call_stream a b c d e s =
    (record { at = a; token = word (codes "call") }) then ((record { at = b; token = word (codes "refresh_continuous_aggregate") })
    then ((record { at = c; token = mark Open }) then ((record { at = d; token = quoted (codes "m100") })
    then ((record { at = e; token = mark Comma }) then s))))

-- the bounds
abbrev range_stream : ℕ → ℤ → (Stream → Stream) → ℕ → Stream → Stream
range_stream a start end_of b s = (record { at = a; token = number_at start }) then (end_of ((record { at = b; token = mark Close }) then s))

refresh_is_read : (a b c d e f g h i p : ℕ) (start : ℤ) (end_at : ℕ) → is_i64 start ≡ true → is_i64 (pos end_at) ≡ true
    → statement (call_stream a b c d e (range_stream f start (value_stream g h end_at) i (ends p))) ≡ Ok (stmts.Refresh (codes "m100") (Some start) (Some (pos end_at)), ends p)
unfolding statement form bind takes token_parser one call_rest window value number semicolon end
refresh_is_read a b c d e f g h i p start end_at s t = rw (s, t) refl

-- the words come first, and then the rest
record CallComes (text rest : List ℕ) : Type 0 where
  a : ℕ
  b : ℕ
  c : ℕ
  d : ℕ
  e : ℕ
  end : ℕ
  is : stream text 2 ≡ call_stream a b c d e (stream text end)
  left : IsAt text end (32 ∷ rest)

call_by_tokens : (text rest b_rest c_rest d_rest e_rest : List ℕ) (one : Comes text 2 (word (codes "call")) b_rest) (two : Comes text one.end (word (codes "refresh_continuous_aggregate")) c_rest)
    → (three : Comes text two.end (mark Open) d_rest) (four : Comes text three.end (quoted (codes "m100")) e_rest) → Comes text four.end (mark Comma) (32 ∷ rest) → CallComes text rest
call_by_tokens text rest b_rest c_rest d_rest e_rest one two three four five = record {
  a = one.at;
  b = two.at;
  c = three.at;
  d = four.at;
  e = five.at;
  end = five.end;
  is = rw (one.is, two.is, three.is, four.is, five.is) refl;
  left = five.left;
}

abbrev call_text : List ℕ → List ℕ
call_text rest = codes "d: CALL refresh_continuous_aggregate('m100', " ++ rest

call_comes : (rest : List ℕ) → CallComes (call_text rest) rest
call_comes rest =
    let text : List ℕ = call_text rest in
    let b_rest : List ℕ = codes " refresh_continuous_aggregate('m100', " ++ rest in
    let c_rest : List ℕ = codes "('m100', " ++ rest in
    let d_rest : List ℕ = codes "'m100', " ++ rest in
    let one = comes text (codes " CALL refresh_continuous_aggregate('m100', " ++ rest) b_rest 2 (word (codes "call")) (record { within = omega arith; left = refl }) refl in
    let two = comes text b_rest c_rest one.end (word (codes "refresh_continuous_aggregate")) one.left refl in
    let three = comes text c_rest d_rest two.end (mark Open) two.left refl in
    let four = comes text d_rest (codes ", " ++ rest) three.end (quoted (codes "m100")) three.left refl in
    let five = comes text (codes ", " ++ rest) (32 ∷ rest) four.end (mark Comma) four.left refl in
    call_by_tokens text rest b_rest c_rest d_rest (codes ", " ++ rest) one two three four five

refresh_by_tokens : (text rest s_rest : List ℕ) (start : ℤ) (end_at : ℕ) → is_i64 start ≡ true → is_i64 (pos end_at) ≡ true
    → (call : CallComes text rest) (first : Comes text call.end (number_at start) s_rest)
    → (second : ValueComes text first.end end_at (41 ∷ [])) → Comes text second.end (mark Close) [] → Reads text (stmts.Refresh (codes "m100") (Some start) (Some (pos end_at)))
refresh_by_tokens text rest s_rest start end_at s t call first second closes =
    let tokens : stream text 2 ≡ call_stream call.a call.b call.c call.d call.e (range_stream first.at start (value_stream second.comma_at second.at end_at) closes.at (ends (closes.end + 1))) =
    rw (call.is, first.is, second.is, closes.is, ends_at text closes.end closes.left) refl
    in
    record {
      left = ends (closes.end + 1);
      is = ap statement tokens ∙ refresh_is_read call.a call.b call.c call.d call.e first.at second.comma_at second.at closes.at (closes.end + 1) start end_at s t;
    }

-- the text of the bounds, by its parts
range_split : (start : ℤ) (end_at : ℕ) → range_text start end_at ≡ signed_decimal start ++ value_bytes end_at (41 ∷ [])
unfolding value_bytes
range_split start end_at = simp append_assoc refl

refresh_reads : (start : ℤ) (end_at : ℕ) → mag start < 2 ^ 63 → end_at < 2 ^ 63 → Reads (call_text (range_text start end_at)) (stmts.Refresh (codes "m100") (Some start) (Some (pos end_at)))
refresh_reads start end_at s t =
    let rest : List ℕ = range_text start end_at in
    let text : List ℕ = call_text rest in
    let s_rest : List ℕ = value_bytes end_at (41 ∷ []) in
    let here : first_token (32 ∷ rest) ≡ Some (number_at start, s_rest) =
    behind_space rest ∙ ap first_token (range_split start end_at) ∙ number_token start s_rest s (no_digit end_at (41 ∷ []))
    in
    let call = call_comes rest in
    let first = comes text (32 ∷ rest) s_rest call.end (number_at start) call.left here in
    let second = value_comes text (41 ∷ []) first.end end_at t refl first.left in
    let closes = comes text (41 ∷ []) [] second.end (mark Close) second.left refl in
    refresh_by_tokens text rest s_rest start end_at (is_word start s) (is_word (pos end_at) t) call first second closes

-- ---- the lines

pub insert_line_reads : (demo round part : ℕ) → ((place : ℕ) → place < 100 * part + 100 → IsSmall demo round place) → Reads (insert_line demo round part) (stmt_of demo (lines.Insert round part))
unfolding insert_line
insert_line_reads demo round part small = part_reads demo round (100 * part) 99 (λ place low high. small place (omega arith))

pub refresh_line_reads : (demo round : ℕ) → mag (pos (5000 * round) -ℤ pos 5000) < 2 ^ 63 → 5000 * round < 2 ^ 63 → Reads (refresh_line round) (stmt_of demo (lines.Refresh round))
unfolding refresh_line
refresh_line_reads demo round s t = refresh_reads (pos (5000 * round) -ℤ pos 5000) (5000 * round) s t

pub late_line_reads : (demo : ℕ) → Reads (late_line demo) (stmt_of demo lines.LateRow)
unfolding late_line
late_line_reads demo = late_reads (pos 1000) 0 (demo % 1000) (omega arith) (omega arith) (omega arith)
