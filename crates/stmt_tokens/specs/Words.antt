use Rattle.std.specs.Prelude.{ℕ, ◌+◌, ℤ, pos, Bool, true, false, ◌==◌, if◌then◌else◌, List, Option, Some, None, codes}
use Rattle.std.specs.Str.{bytes_eq}
use Rattle.std.specs.Ordering.{int_eq}
use Rattle.ts_num.specs.declared.values.Fun.{Fun}
use Rattle.ts_num.specs.declared.values.Fun.TheVariants as fun
use Rattle.ts_schema.specs.declared.conditions.Cmp.{Cmp}
use Rattle.ts_schema.specs.declared.conditions.Cmp.TheVariants as cmp
use Rattle.stmt_tokens.specs.Scan.{Seen, word, number, quoted, mark}
use Rattle.stmt_tokens.specs.declared.keywords.Keyword.{Keyword}
use Rattle.stmt_tokens.specs.declared.keywords.Keyword.TheVariants as kw
use Rattle.stmt_tokens.specs.declared.tokens.Mark.{Mark}
use Rattle.stmt_tokens.specs.declared.tokens.Mark.TheVariants as marks

-- the text of a word of the grammar
abbrev pub keyword_text : Keyword → List ℕ
keyword_text kw.Alter = codes "alter"
keyword_text kw.And = codes "and"
keyword_text kw.As = codes "as"
keyword_text kw.Begin = codes "begin"
keyword_text kw.Bigint = codes "bigint"
keyword_text kw.By = codes "by"
keyword_text kw.Call = codes "call"
keyword_text kw.ChunkTimeInterval = codes "chunk_time_interval"
keyword_text kw.Commit = codes "commit"
keyword_text kw.Continuous = codes "continuous"
keyword_text kw.Create = codes "create"
keyword_text kw.CreateHypertable = codes "create_hypertable"
keyword_text kw.Cut = codes "cut"
keyword_text kw.Data = codes "data"
keyword_text kw.Delete = codes "delete"
keyword_text kw.DropChunks = codes "drop_chunks"
keyword_text kw.False = codes "false"
keyword_text kw.Finish = codes "finish"
keyword_text kw.From = codes "from"
keyword_text kw.Group = codes "group"
keyword_text kw.Insert = codes "insert"
keyword_text kw.Into = codes "into"
keyword_text kw.Is = codes "is"
keyword_text kw.Materialized = codes "materialized"
keyword_text kw.MaterializedOnly = codes "materialized_only"
keyword_text kw.No = codes "no"
keyword_text kw.Not = codes "not"
keyword_text kw.Null = codes "null"
keyword_text kw.OlderThan = codes "older_than"
keyword_text kw.Only = codes "only"
keyword_text kw.Read = codes "read"
keyword_text kw.Refresh = codes "refresh"
keyword_text kw.RefreshContinuousAggregate = codes "refresh_continuous_aggregate"
keyword_text kw.Rollback = codes "rollback"
keyword_text kw.Select = codes "select"
keyword_text kw.Set = codes "set"
keyword_text kw.Snap = codes "snap"
keyword_text kw.Table = codes "table"
keyword_text kw.TimeBucket = codes "time_bucket"
keyword_text kw.Timescaledb = codes "timescaledb"
keyword_text kw.True = codes "true"
keyword_text kw.Values = codes "values"
keyword_text kw.View = codes "view"
keyword_text kw.Where = codes "where"
keyword_text kw.With = codes "with"

-- ---- what one token says; None if it isn't one of these

-- the word of the grammar
abbrev pub is_keyword : Keyword → Seen → Bool
is_keyword k (word w) = bytes_eq w (keyword_text k)
is_keyword k (number z) = false
is_keyword k (quoted w) = false
is_keyword k (mark m) = false

-- the word with this text in lower case
abbrev pub is_spelled : List ℕ → Seen → Bool
is_spelled text (word w) = bytes_eq w text
is_spelled text (number z) = false
is_spelled text (quoted w) = false
is_spelled text (mark m) = false

-- the marks in the order of their declaration
abbrev pub mark_number : Mark → ℕ
mark_number marks.Open = 0
mark_number marks.Close = 1
mark_number marks.Comma = 2
mark_number marks.Semicolon = 3
mark_number marks.Point = 4
mark_number marks.Star = 5
mark_number marks.Equal = 6
mark_number marks.Less = 7
mark_number marks.Greater = 8
mark_number marks.AtMost = 9
mark_number marks.AtLeast = 10
mark_number marks.Differs = 11
mark_number marks.Unequal = 12
mark_number marks.Arrow = 13

-- it is this mark
abbrev pub is_mark : Mark → Seen → Bool
is_mark m (word w) = false
is_mark m (number z) = false
is_mark m (quoted w) = false
is_mark m (mark n) = mark_number n == mark_number m

-- it is a number
abbrev pub is_number : Seen → Bool
is_number (number z) = true
is_number other = false

-- a relation, a column or another name
abbrev pub word_of : Seen → Option (List ℕ)
word_of (word w) = Some w
word_of other = None

-- a name in quotes
abbrev pub quoted_of : Seen → Option (List ℕ)
quoted_of (quoted w) = Some w
quoted_of other = None

-- a number, if it is an i64
abbrev pub number_of : Seen → Option (Option ℤ)
number_of (number z) = Some z
number_of other = None

-- a value of a row: a number that is an i64, or NULL
abbrev pub value_of : Seen → Option (Option ℤ)
value_of (word w) = if bytes_eq w (keyword_text kw.Null) then Some None else None
value_of (number None) = None
value_of (number (Some z)) = Some (Some z)
value_of (quoted w) = None
value_of (mark m) = None

-- true or false
abbrev pub flag_of : Seen → Option Bool
flag_of t = if is_keyword kw.True t then Some true else if is_keyword kw.False t then Some false else None

-- = <> < <= > >=, and != for <>
abbrev pub comparison_of_mark : Mark → Option Cmp
comparison_of_mark marks.Equal = Some cmp.Eq
comparison_of_mark marks.Less = Some cmp.Lt
comparison_of_mark marks.Greater = Some cmp.Gt
comparison_of_mark marks.AtMost = Some cmp.Le
comparison_of_mark marks.AtLeast = Some cmp.Ge
comparison_of_mark marks.Differs = Some cmp.Ne
comparison_of_mark marks.Unequal = Some cmp.Ne
comparison_of_mark other = None

-- the comparison of a mark
abbrev pub comparison_of : Seen → Option Cmp
comparison_of (mark m) = comparison_of_mark m
comparison_of other = None

-- the function of an aggregate
abbrev pub function_of_word : List ℕ → Option Fun
function_of_word w =
    if bytes_eq w (codes "count") then Some fun.Count
    else if bytes_eq w (codes "sum") then Some fun.Sum
    else if bytes_eq w (codes "min") then Some fun.Min
    else if bytes_eq w (codes "max") then Some fun.Max
    else if bytes_eq w (codes "avg") then Some fun.Avg
    else None

-- the function that a word names
abbrev pub function_of : Seen → Option Fun
function_of (word w) = function_of_word w
function_of other = None

-- the output column with i others before it, by its number, counted from 1, or by its name
abbrev pub is_item : ℕ → List ℕ → Seen → Bool
is_item i name (word w) = bytes_eq w name
is_item i name (number None) = false
is_item i name (number (Some z)) = int_eq z (pos (i + 1))
is_item i name (quoted w) = false
is_item i name (mark m) = false

-- * after count (
abbrev pub is_star_of : Fun → Seen → Bool
is_star_of fun.Count t = is_mark marks.Star t
is_star_of fun.CountAll t = false
is_star_of fun.Sum t = false
is_star_of fun.Min t = false
is_star_of fun.Max t = false
is_star_of fun.Avg t = false
