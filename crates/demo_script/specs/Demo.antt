-- The script of a demonstration with a number: 285 lines of the session `d`.
use Rattle.std.specs.Prelude.{ℕ, zero, suc, ◌+◌, ◌*◌, ◌%◌, ℤ, pos, ◌-ℤ◌, nat_lt, if◌then◌else◌, List, [], ◌∷◌, ◌++◌, Option, None, codes, decimal, slice_get}
use Rattle.std.specs.List.{flat_map, join_by, range_with_len}
use Rattle.std.specs.Fmt.{signed_decimal}

-- ---- rows, counted from 0: 500 in each round

-- the number of the row at a place of a round
abbrev pub number_of : ℕ → ℕ → ℕ
number_of round place = 500 * round + place

-- its value: the last three digits of the demonstration's number times the row's
abbrev pub value_of : ℕ → ℕ → ℕ
value_of demo number = (demo * number) % 1000

-- its time: 10 after that of the row before it. The last ten rows of a round come late, with times of the round before
abbrev pub time_of : ℕ → ℕ → ℤ
time_of number place = if nat_lt place 490 then pos (10 * number) else pos (10 * number) -ℤ pos 5000

-- a row: its time, its device, of which there are eight, and its value
abbrev pub values_text : ℤ → ℕ → ℕ → List ℕ
values_text time device value =
    codes "(" ++ signed_decimal time ++ codes ", " ++ decimal device ++ codes ", " ++ decimal value ++ codes ")"

unfoldable pub row_text : ℕ → ℕ → ℕ → List ℕ
row_text demo round place =
    let number = number_of round place in
    values_text (time_of number place) (number % 8) (value_of demo number)

-- consecutive rows of a round, separated by a comma and a space
unfoldable pub rows_text : ℕ → ℕ → ℕ → ℕ → List ℕ
rows_text demo round first count = join_by (row_text demo round) (codes ", ") (range_with_len first count)

-- ---- lines

-- creates a table
unfoldable pub table_line : List ℕ
table_line = codes "d: CREATE TABLE m (time BIGINT NOT NULL, dev BIGINT, val BIGINT)"

-- makes it a hypertable with chunks as wide as the times of a round
unfoldable pub hypertable_line : List ℕ
hypertable_line = codes "d: SELECT create_hypertable('m', 'time', chunk_time_interval => 5000)"

-- creates an aggregate over it, with buckets of ten rows
unfoldable pub aggregate_line : List ℕ
aggregate_line =
    codes "d: CREATE MATERIALIZED VIEW m100 WITH (timescaledb.continuous, timescaledb.materialized_only = false)" ++
    codes " AS SELECT time_bucket(100, time) AS bucket, dev, count(*), sum(val) FROM m" ++
    codes " GROUP BY bucket, dev WITH NO DATA"

-- inserts a part of a round's rows: a hundred of them
unfoldable pub insert_line : ℕ → ℕ → ℕ → List ℕ
insert_line demo round part = codes "d: INSERT INTO m VALUES " ++ rows_text demo round (100 * part) 100

-- a range of times, and the parenthesis that closes the call
abbrev pub range_text : ℤ → ℕ → List ℕ
range_text start end = signed_decimal start ++ codes ", " ++ decimal end ++ codes ")"

-- refreshes the aggregate over the times of the round before
unfoldable pub refresh_line : ℕ → List ℕ
refresh_line round =
    codes "d: CALL refresh_continuous_aggregate('m100', " ++ range_text (pos (5000 * round) -ℤ pos 5000) (5000 * round)

-- queries the aggregate
unfoldable pub answer_line : List ℕ
answer_line = codes "d: SELECT * FROM m100"

-- inserts a row at a time that was already refreshed
unfoldable pub late_line : ℕ → List ℕ
late_line demo = codes "d: INSERT INTO m VALUES " ++ values_text (pos 1000) 0 (demo % 1000)

-- ---- the script

-- a round
abbrev pub round_lines : ℕ → ℕ → List (List ℕ)
round_lines demo round =
    insert_line demo round 0 ∷ insert_line demo round 1 ∷ insert_line demo round 2 ∷ insert_line demo round 3 ∷
    insert_line demo round 4 ∷ refresh_line round ∷ answer_line ∷ []

-- all lines: the definitions, 40 rounds, the late row, and the last query
unfoldable pub demo_lines : ℕ → List (List ℕ)
demo_lines demo =
    table_line ∷ hypertable_line ∷ aggregate_line ∷
    (flat_map (round_lines demo) (range_with_len 0 40) ++ (late_line demo ∷ answer_line ∷ []))

-- a line ends with a line feed
abbrev pub with_end : List ℕ → List ℕ
with_end line = line ++ codes "\n"

-- the text of the script
unfoldable pub demo_text : ℕ → List ℕ
demo_text demo = flat_map with_end (demo_lines demo)

-- the line with a number, counted from 1
abbrev pub line_at : List (List ℕ) → ℕ → Option (List ℕ)
line_at lines zero = None
line_at lines (suc before) = slice_get lines before
