-- Rows are read as their values.
use lib.Signed.{mag}
use Rattle.std.proofs.Common.{◌≡◌, ◌∙◌, refl, sym, ap, ℕ, zero, suc, ◌+◌, ◌%◌, ◌<◌, ◌≤◌, ◌^◌, ℤ, pos, true, List, [], ◌∷◌, ◌++◌, map, Option, Some, Ok, codes, arith}
use Rattle.std.specs.Prelude.{decimal}
use Rattle.std.specs.Char.{is_ascii_digit}
use Rattle.std.specs.Fmt.{signed_decimal}
use Rattle.std.specs.List.{flat_map, prefix_len, range_with_len}
use Rattle.std.proofs.lemmas.List.{append_assoc, append-nil}
use Rattle.stmt_reader.specs.Forward.{forward-row}
use Rattle.stmt_reader.specs.Reading.{bind, go_on, list_parser, more, number, parts, row, takes, value, token_parser}
use Rattle.stmt_tokens.specs.Streams.{Stream, ends, ◌then◌, stream}
use Rattle.stmt_syntax.specs.Limits.{is_i64}
use Rattle.stmt_tokens.specs.Tokens.{number as number_at, mark}
use Rattle.stmt_reader.specs.declared.phrases.Separator.TheVariants.{Comma as CommaBetween}
use Rattle.stmt_tokens.specs.declared.tokens.Mark.TheVariants.{Open, Close, Comma}
use Rattle.stmt_reader.proofs.Loops.{more_ends, more_goes}
use Rattle.demo_script.specs.Demo.{number_of, row_text, time_of, value_of, values_text}
use Rattle.demo_laws.specs.Statements.{values_at, values_with}
use Rattle.policy_jobs.proofs.TokenLaws.{is_word, Comes, IsAt, first_token, behind_space, closing, comes, comma, decimal_token, ends_at, number_token, opening}

-- ---- a value after a comma

-- its text, and a rest after it
unfoldable pub value_bytes : ℕ → List ℕ → List ℕ
value_bytes n rest = 44 ∷ 32 ∷ (decimal n ++ rest)

pub no_digit : (n : ℕ) (rest : List ℕ) → prefix_len is_ascii_digit (value_bytes n rest) ≡ 0
unfolding value_bytes
no_digit n rest = refl

-- a comma and a number, and then a stream
abbrev pub value_stream : ℕ → ℕ → ℕ → Stream → Stream
value_stream comma_at at n s = (record { at = comma_at; token = mark Comma }) then ((record { at = at; token = number_at (pos n) }) then s)

pub record ValueComes (text : List ℕ) (skip n : ℕ) (rest : List ℕ) : Type 0 where
  pub comma_at : ℕ
  pub at : ℕ
  pub end : ℕ
  pub is : stream text skip ≡ value_stream comma_at at n (stream text end)
  pub left : IsAt text end rest

pub value_comes : (text rest : List ℕ) (skip n : ℕ) → n < 2 ^ 63 → prefix_len is_ascii_digit rest ≡ 0 → IsAt text skip (value_bytes n rest) → ValueComes text skip n rest
unfolding value_bytes
value_comes text rest skip n small none at =
    let first = comes text (44 ∷ 32 ∷ (decimal n ++ rest)) (32 ∷ (decimal n ++ rest)) skip (mark Comma) at (comma (32 ∷ (decimal n ++ rest))) in
    let second = comes text (32 ∷ (decimal n ++ rest)) rest first.end (number_at (pos n)) first.left (decimal_token n rest small none) in
    record {
      comma_at = first.at;
      at = second.at;
      end = second.end;
      is = first.is ∙ ap (λ s. (record { at = first.at; token = mark Comma }) then s) second.is;
      left = second.left;
    }

-- ---- a row

-- a parenthesis, a time, two values and a parenthesis, and then a stream
abbrev row_stream : ℕ → ℕ → ℕ → ℤ → (Stream → Stream) → (Stream → Stream) → Stream → Stream
row_stream open_at time_at close_at time first second s =
    (record { at = open_at; token = mark Open }) then ((record { at = time_at; token = number_at time })
    then (first (second ((record { at = close_at; token = mark Close }) then s))))

row_reads : (a b c d e f g : ℕ) (time : ℤ) (device amount : ℕ) (s : Stream) → is_i64 time ≡ true → is_i64 (pos device) ≡ true → is_i64 (pos amount) ≡ true
    → row (row_stream a b c time (value_stream d e device) (value_stream f g amount) s) ≡ Ok (values_with time device amount, s)
unfolding row list_parser more takes bind value number token_parser
row_reads a b c d e f g time device amount s t v w = rw (t, v, w) refl

-- a row comes next, and these bytes are left after it
pub record RowComes (text : List ℕ) (skip : ℕ) (values : List (Option ℤ)) (rest : List ℕ) : Type 0 where
  pub end : ℕ
  pub is : row (stream text skip) ≡ Ok (values, stream text end)
  pub left : IsAt text end rest

row_by_tokens : (text rest t_rest d_rest v_rest : List ℕ) (skip : ℕ) (time : ℤ) (device amount : ℕ) → is_i64 time ≡ true → is_i64 (pos device) ≡ true → is_i64 (pos amount) ≡ true
    → (opens : Comes text skip (mark Open) t_rest) (times : Comes text opens.end (number_at time) d_rest) (first : ValueComes text times.end device v_rest)
    → (second : ValueComes text first.end amount (41 ∷ rest)) (closes : Comes text second.end (mark Close) rest) → RowComes text skip (values_with time device amount) rest
row_by_tokens text rest t_rest d_rest v_rest skip time device amount t v w opens times first second closes =
    let tokens : stream text skip ≡ row_stream opens.at times.at closes.at time (value_stream first.comma_at first.at device) (value_stream second.comma_at second.at amount) (stream text closes.end) =
    rw (opens.is, times.is, first.is, second.is, closes.is) refl
    in
    record {
      end = closes.end;
      is = ap row tokens ∙ row_reads opens.at times.at closes.at first.comma_at first.at second.comma_at second.at time device amount (stream text closes.end) t v w;
      left = closes.left;
    }

-- the text of a row, by its parts
split : (time : ℤ) (device amount : ℕ) (rest : List ℕ) → values_text time device amount ++ rest ≡ 40 ∷ (signed_decimal time ++ value_bytes device (value_bytes amount (41 ∷ rest)))
unfolding value_bytes
split time device amount rest = simp append_assoc refl

pub row_comes : (text rest : List ℕ) (skip : ℕ) (time : ℤ) (device amount : ℕ) → mag time < 2 ^ 63 → device < 2 ^ 63 → amount < 2 ^ 63 → IsAt text skip (32 ∷ (values_text time device amount ++ rest))
    → RowComes text skip (values_with time device amount) rest
row_comes text rest skip time device amount t v w at =
    let v_rest : List ℕ = value_bytes amount (41 ∷ rest) in
    let d_rest : List ℕ = value_bytes device v_rest in
    let bytes : List ℕ = values_text time device amount ++ rest in
    let here : first_token (32 ∷ bytes) ≡ Some (mark Open, signed_decimal time ++ d_rest) =
    behind_space bytes ∙ ap first_token (split time device amount rest) ∙ opening (signed_decimal time ++ d_rest)
    in
    let opens = comes text (32 ∷ bytes) (signed_decimal time ++ d_rest) skip (mark Open) at here in
    let times = comes text (signed_decimal time ++ d_rest) d_rest opens.end (number_at time) opens.left (number_token time d_rest t (no_digit device v_rest)) in
    let first = value_comes text v_rest times.end device v (no_digit amount (41 ∷ rest)) times.left in
    let second = value_comes text (41 ∷ rest) first.end amount w refl first.left in
    let closes = comes text (41 ∷ rest) rest second.end (mark Close) second.left (closing rest) in
    row_by_tokens text rest (signed_decimal time ++ d_rest) d_rest v_rest skip time device amount (is_word time t) (is_word (pos device) v) (is_word (pos amount) w) opens times first second closes

-- ---- consecutive rows

-- one more row after a comma
more_row : (front : List (List (Option ℤ))) (at : ℕ) (s left : Stream) (values : List (Option ℤ)) → row s ≡ Ok (values, left)
    → more (parts CommaBetween) row front ((record { at = at; token = mark Comma }) then s) ≡ more (parts CommaBetween) row (front ++ values ∷ []) left
more_row front at s left values reads =
    more_goes (parts CommaBetween) row front ((record { at = at; token = mark Comma }) then s) forward-row refl
    ∙ ap (λ r. go_on r (λ a. more (parts CommaBetween) row (front ++ a ∷ []))) reads

-- these rows are read to the end of the text
pub record RowsCome (front : List (List (Option ℤ))) (text : List ℕ) (skip : ℕ) (rows : List (List (Option ℤ))) : Type 0 where
  pub end : ℕ
  pub is : more (parts CommaBetween) row front (stream text skip) ≡ Ok (front ++ rows, ends end)

rows_more : (front rows : List (List (Option ℤ))) (text rest last : List ℕ) (skip : ℕ) (values : List (Option ℤ)) (one : Comes text skip (mark Comma) rest) (two : RowComes text one.end values last)
    → RowsCome (front ++ values ∷ []) text two.end rows → RowsCome front text skip (values ∷ rows)
rows_more front rows text rest last skip values one two others = record {
  end = others.end;
  is = ap (more (parts CommaBetween) row front) one.is
      ∙ more_row front one.at (stream text one.end) (stream text two.end) values two.is
      ∙ others.is
      ∙ ap (λ r. Ok (r, ends others.end)) (append_assoc front (values ∷ []) rows);
}

-- the values of a row at a place are within their bounds
pub record IsSmall (demo round place : ℕ) : Type 0 where
  pub time : mag (time_of (number_of round place) place) < 2 ^ 62
  pub device : number_of round place % 8 < 2 ^ 63
  pub value : value_of demo (number_of round place) < 2 ^ 63

-- the row at a place
pub one_row : (demo round place : ℕ) (text rest : List ℕ) (skip : ℕ) → IsSmall demo round place → IsAt text skip (32 ∷ (row_text demo round place ++ rest))
    → RowComes text skip (values_at demo round place) rest
unfolding row_text
one_row demo round place text rest skip small at =
    row_comes text rest skip (time_of (number_of round place) place) (number_of round place % 8) (value_of demo (number_of round place)) (omega (arith, small.time)) small.device small.value at

-- at the end of the text no rows follow
pub rows_end : (front : List (List (Option ℤ))) (text : List ℕ) (skip : ℕ) → IsAt text skip [] → RowsCome front text skip []
rows_end front text skip at = record {
  end = skip + 1;
  is = ap (more (parts CommaBetween) row front) (ends_at text skip at)
      ∙ more_ends (parts CommaBetween) row front (ends (skip + 1)) refl
      ∙ ap (λ rows. Ok (rows, ends (skip + 1))) (sym (append-nil front));
}

module _ (demo round : ℕ) (text : List ℕ) where
  -- the rows after a row
  pub rows_come : (n first skip : ℕ) (front : List (List (Option ℤ))) → ((place : ℕ) → first ≤ place → place < first + n → IsSmall demo round place)
      → IsAt text skip (flat_map (λ k. codes ", " ++ row_text demo round k) (range_with_len first n)) → RowsCome front text skip (map (values_at demo round) (range_with_len first n))
  rows_come zero first skip front small at = rows_end front text skip at
  rows_come (suc n) first skip front small at =
      let rest : List ℕ = flat_map (λ k. codes ", " ++ row_text demo round k) (range_with_len (first + 1) n) in
      let one = comes text (44 ∷ 32 ∷ (row_text demo round first ++ rest)) (32 ∷ (row_text demo round first ++ rest)) skip (mark Comma) at (comma (32 ∷ (row_text demo round first ++ rest))) in
      let two = one_row demo round first text rest one.end (small first (omega arith) (omega arith)) one.left in
      let others = rows_come n (first + 1) two.end (front ++ values_at demo round first ∷ []) (λ place low high. small place (omega arith) (omega arith)) two.left in
      rows_more front (map (values_at demo round) (range_with_len (first + 1) n)) text (32 ∷ (row_text demo round first ++ rest)) rest skip (values_at demo round first) one two others
