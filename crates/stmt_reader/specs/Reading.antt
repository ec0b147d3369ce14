use Rattle.std.specs.Prelude.{◌≡◌, ℕ, zero, suc, ℤ, Bool, true, false, if◌then◌else◌, List, [], ◌∷◌, ◌++◌, Option, Some, None, option_and_then, Result, Ok, Err, pos}
use Rattle.stmt_tokens.specs.Scan.{Seen}
use Rattle.stmt_tokens.specs.Words.{is_keyword, is_mark, is_number, word_of, quoted_of, number_of, flag_of, comparison_of, function_of, function_of_word, is_star_of, is_item, is_spelled}
use Rattle.stmt_syntax.specs.Heads.{head_name, bucket_word, calendar_word}
use Rattle.stmt_tokens.specs.Streams.{Stream, ends, stops, ◌then◌, size, seen_ahead, heads, tail, place, is_end}
use Rattle.stmt_reader.specs.declared.faults.Fault.{Fault}
use Rattle.stmt_reader.specs.declared.faults.Fault.TheVariants.{NoToken, Syntax, BadNumber}
use Rattle.stmt_reader.specs.declared.faults.ReadError.{ReadError}
use Rattle.stmt_reader.specs.declared.faults.ReadError.TheVariants as errors
use Rattle.stmt_tokens.specs.declared.keywords.Keyword.{Keyword}
use Rattle.stmt_tokens.specs.declared.keywords.Keyword.TheVariants as kw
use Rattle.stmt_tokens.specs.declared.tokens.Mark.TheVariants as marks
use Rattle.stmt_reader.specs.declared.phrases.Separator.{Separator}
use Rattle.stmt_reader.specs.declared.phrases.Separator.TheVariants as separators
use Rattle.stmt_reader.specs.declared.folds.CalendarHead.{CalendarHead}
use Rattle.stmt_reader.specs.declared.folds.Head.{Head}
use Rattle.stmt_reader.specs.declared.forms.Window.{Window}
use Rattle.stmt_syntax.specs.declared.statements.Stmt.{Stmt}
use Rattle.stmt_syntax.specs.declared.statements.Stmt.TheVariants as stmt
use Rattle.stmt_syntax.specs.declared.statements.NamedFold.{NamedFold}
use Rattle.stmt_syntax.specs.declared.statements.NamedAgg.{NamedAgg}
use Rattle.stmt_syntax.specs.declared.statements.NamedTest.{NamedTest}
use Rattle.ts_num.specs.declared.values.Fun.{Fun}
use Rattle.ts_num.specs.declared.values.Fun.TheVariants as fun
use Rattle.ts_schema.specs.declared.columns.Column.{Column}
use Rattle.ts_schema.specs.declared.conditions.Cmp.{Cmp}
use Rattle.ts_schema.specs.declared.conditions.Cmp.TheVariants as cmp
use Rattle.stmt_tokens.specs.declared.tokens.Mark.{Mark}

-- the fault if no allowed token comes next
abbrev pub fault_here : Stream → Fault
fault_here (ends p) = Syntax p
fault_here (stops p) = NoToken p
fault_here (t then s) = Syntax t.at

-- Reading from left to right: the value of the tokens in front and the tokens after them, or the first fault.
abbrev pub Parser : Type 0 → Type 0
Parser A = Stream → Result (A × Stream) Fault

-- an error of the code is the fault of reading, unless memory ran out
abbrev pub Fails : {A : Type 0} → ReadError → Result (A × Stream) Fault → Type 0
Fails errors.Memory read = Unit {0}
Fails (errors.Fault f) read = read ≡ Err f

-- the result of a function of the code, with these tokens left, is that of reading, unless memory ran out
abbrev pub Gives : {A : Type 0} → Result A ReadError → Result (A × Stream) Fault → Stream → Type 0
Gives (Ok a) read left = read ≡ Ok (a, left)
Gives (Err e) read left = Fails e read

-- ---- how readings are combined

-- no token is read, and this is the result
abbrev pub gives : {A : Type 0} → A → Parser A
gives a s = Ok (a, s)

-- in order
abbrev pub go_on : {A B : Type 0} → Result (A × Stream) Fault → (A → Parser B) → Result (B × Stream) Fault
go_on (Ok x) q = q x.0 x.1
go_on (Err f) q = Err f

-- one parser and then another, which depends on the result of the first
unfoldable pub bind : {A B : Type 0} → Parser A → (A → Parser B) → Parser B
bind p q s = go_on (p s) q

infixr 10 ◌>>=◌
-- the same as an operator
abbrev pub ◌>>=◌ : {A B : Type 0} → Parser A → (A → Parser B) → Parser B
p >>= q = bind p q

infixr 10 ◌>>◌
-- one parser and then another; the first one has no value
abbrev pub ◌>>◌ : {A B : Type 0} → Parser A → Parser B → Parser B
p >> q = bind p (λ _. q)

-- past a token that passes the test if one comes next, and otherwise another parser
unfoldable pub takes : {A : Type 0} → (Seen → Bool) → Parser A → Parser A → Parser A
takes test p q s = if heads test s then p (tail s) else q s

-- one parser if a token comes next that passes the test, and otherwise another
unfoldable pub choose : {A : Type 0} → (Seen → Bool) → Parser A → Parser A → Parser A
choose test p q s = if heads test s then p s else q s

-- ---- one token

-- the value of the token in front
abbrev pub token_value : {A : Type 0} → Stream → Option A → Result (A × Stream) Fault
token_value s None = Err (fault_here s)
token_value s (Some a) = Ok (a, tail s)

-- a token with a value
unfoldable pub one : {A : Type 0} → (Seen → Option A) → Parser A
one f s = token_value s (option_and_then f (seen_ahead s))

-- a token that passes a test
unfoldable pub token_parser : (Seen → Bool) → Parser (Unit {0})
token_parser test s = if heads test s then Ok (tt, tail s) else Err (fault_here s)

-- a word of the grammar
abbrev pub keyword : Keyword → Parser (Unit {0})
keyword k = token_parser (is_keyword k)

-- a mark of the grammar
abbrev pub mark : Mark → Parser (Unit {0})
mark m = token_parser (is_mark m)

-- a name
abbrev pub name : Parser (List ℕ)
name = one word_of

-- a name in quotes
abbrev pub quoted_name : Parser (List ℕ)
quoted_name = one quoted_of

-- a comparison
abbrev pub comparison : Parser Cmp
comparison = one comparison_of

-- a number that is an i64
abbrev pub fitting_number : Stream → Option (Option ℤ) → Result (ℤ × Stream) Fault
fitting_number s None = Err (fault_here s)
fitting_number s (Some None) = Err (BadNumber (place s))
fitting_number s (Some (Some z)) = Ok (z, tail s)

-- a number of 64 bits
unfoldable pub number : Parser ℤ
number s = fitting_number s (option_and_then number_of (seen_ahead s))

-- ---- lists

-- these, and at most n more
abbrev pub repeat : {A : Type 0} → ℕ → (Seen → Bool) → Parser A → List A → Parser (List A)
repeat zero test p front = gives front
repeat (suc n) test p front = takes test (p >>= λ a. repeat n test p (front ++ a ∷ [])) (gives front)

-- these, and one more each time such a token comes next
unfoldable pub more : {A : Type 0} → (Seen → Bool) → Parser A → List A → Parser (List A)
more test p front s = repeat (size s) test p front s

-- the separators of the items of a list
abbrev pub parts : Separator → Seen → Bool
parts separators.Comma t = is_mark marks.Comma t
parts separators.And t = is_keyword kw.And t

-- one or more
unfoldable pub list_parser : {A : Type 0} → Separator → Parser A → Parser (List A)
list_parser separator p = p >>= λ a. more (parts separator) p (a ∷ [])

-- ---- parts of statements

-- a number, or NULL
unfoldable pub value : Parser (Option ℤ)
value = takes (is_keyword kw.Null) (gives None) (number >>= λ z. gives (Some z))

-- ( value { , value } )
unfoldable pub row : Parser (List (Option ℤ))
row = do
  mark marks.Open
  vs ← list_parser separators.Comma value
  mark marks.Close
  gives vs

-- [NOT NULL]
unfoldable pub not_null : Parser Bool
not_null = takes (is_keyword kw.Not) (keyword kw.Null >> gives true) (gives false)

-- c BIGINT [NOT NULL]
unfoldable pub column : Parser Column
column = do
  c ← name
  keyword kw.Bigint
  must ← not_null
  gives (record { name = c; must = must })

-- IS NULL or IS NOT NULL, after IS
unfoldable pub null_test : List ℕ → Parser NamedTest
null_test c =
    takes (is_keyword kw.Not)
    (keyword kw.Null >> gives (record { col = c; cmp = cmp.NotNull; num = pos 0 }))
    (keyword kw.Null >> gives (record { col = c; cmp = cmp.IsNull; num = pos 0 }))

-- op num
unfoldable pub number_test : List ℕ → Parser NamedTest
number_test c = do
  op ← comparison
  z ← number
  gives (record { col = c; cmp = op; num = z })

-- c IS NULL, c IS NOT NULL or c op num
unfoldable pub any_test : Parser NamedTest
any_test = name >>= λ c. takes (is_keyword kw.Is) (null_test c) (number_test c)

-- [WHERE tests]
unfoldable pub filters : Parser (List NamedTest)
filters = takes (is_keyword kw.Where) (list_parser separators.And any_test) (gives [])

-- [AS x]
unfoldable pub alias : Parser (Option (List ℕ))
alias = takes (is_keyword kw.As) (name >>= λ x. gives (Some x)) (gives None)

-- ---- folds

-- * after count (, or c
unfoldable pub argument : Fun → Parser (Fun × Option (List ℕ))
argument f = takes (is_star_of f) (gives (fun.CountAll, None)) (name >>= λ c. gives (f, Some c))

-- an aggregate after its opening parenthesis
unfoldable pub aggregate_rest : Fun → Parser NamedAgg
aggregate_rest f = do
  a ← argument f
  mark marks.Close
  x ← alias
  gives (record { fun = a.0; col = a.1; name = x })

-- an aggregate from its function on
unfoldable pub aggregate : Parser NamedAgg
aggregate = do
  f ← one function_of
  mark marks.Open
  aggregate_rest f

-- the function that a word names, with its opening parenthesis
abbrev pub function_head : Option Fun → Parser Fun
function_head None = λ s. Err (fault_here s)
function_head (Some f) = mark marks.Open >> gives f

-- the keys, and the function of the first aggregate with its opening parenthesis: these keys, and at most n more
abbrev pub keys_within : ℕ → List (List ℕ) → Parser (List (List ℕ) × Fun)
keys_within zero front = λ s. Err (fault_here s)
keys_within (suc n) front = do
  mark marks.Comma
  w ← name
  choose (is_mark marks.Open) (function_head (function_of_word w) >>= λ f. gives (front, f)) (keys_within n (front ++ w ∷ []))

-- the keys after these, and the function of the first aggregate with its opening parenthesis
unfoldable pub keys_and_function : List (List ℕ) → Parser (List (List ℕ) × Fun)
keys_and_function front s = keys_within (size s) front s

-- [, num] of time_bucket
unfoldable pub offset : Parser ℤ
offset = takes (is_mark marks.Comma) number (gives (pos 0))

-- time_bucket ( num , c [, num] ) [AS x]
unfoldable pub bucket : Parser Head
bucket = do
  keyword kw.TimeBucket
  mark marks.Open
  step ← number
  mark marks.Comma
  at ← name
  shift ← offset
  mark marks.Close
  x ← alias
  gives (record { step = step; shift = shift; at = at; name = x })

-- the items of GROUP BY for these output columns, which have i before them
abbrev pub items_from : ℕ → List (List ℕ) → Parser (Unit {0})
items_from i [] = gives tt
items_from i (n ∷ names) = mark marks.Comma >> token_parser (is_item i n) >> items_from (suc i) names

-- the items are as many as the names of the output columns
unfoldable pub items : List ℕ → List (List ℕ) → Parser (Unit {0})
items first names = token_parser (is_item 0 first) >> items_from 1 names

-- FROM n [WHERE tests]
unfoldable pub source : Parser (List ℕ × List NamedTest)
source = do
  keyword kw.From
  t ← name
  tests ← filters
  gives (t, tests)

-- the aggregates; the first has this function and is read after its opening parenthesis
unfoldable pub aggregates : Fun → Parser (List NamedAgg)
aggregates f = do
  first ← aggregate_rest f
  more (parts separators.Comma) aggregate (first ∷ [])

-- { , c } , agg { , agg }
unfoldable pub select_list : Parser (List (List ℕ) × List NamedAgg)
select_list = do
  k ← keys_and_function []
  aggs ← aggregates k.1
  gives (k.0, aggs)

-- GROUP BY item { , item }
unfoldable pub group_by : List ℕ → List (List ℕ) → Parser (Unit {0})
group_by first keys = do
  keyword kw.Group
  keyword kw.By
  items first keys

-- the rest of a fold after its head, with this default name
unfoldable pub fold_behind : List ℕ → Head → Parser NamedFold
fold_behind own h = do
  list ← select_list
  from ← source
  _ ← group_by (head_name own h.name) list.0
  gives (record { step = h.step; shift = h.shift; at = h.at; name = h.name; keys = list.0; aggs = list.1; table = from.0; tests = from.1 })

-- a fold after its SELECT
unfoldable pub fold_rest : Parser NamedFold
fold_rest = bucket >>= fold_behind bucket_word

-- ( num , 'unit' , c ) [AS x], after calendar_bucket
unfoldable pub calendar_bucket : Parser CalendarHead
calendar_bucket = do
  mark marks.Open
  z ← number
  mark marks.Comma
  u ← quoted_name
  mark marks.Comma
  c ← name
  mark marks.Close
  x ← alias
  gives (record { number = z; unit = u; head = record { step = pos 1; shift = pos 0; at = c; name = x } })

-- ---- statements, after the words that distinguish them

-- n ( column { , column } )
unfoldable pub table_rest : Parser Stmt
table_rest = do
  n ← name
  mark marks.Open
  cols ← list_parser separators.Comma column
  mark marks.Close
  gives (stmt.Table n cols)

-- timescaledb . materialized_only = flag
unfoldable pub mode_setting : Parser Bool
mode_setting = do
  keyword kw.Timescaledb
  mark marks.Point
  keyword kw.MaterializedOnly
  mark marks.Equal
  one flag_of

-- [= true]
unfoldable pub equals_true : Parser (Unit {0})
equals_true = takes (is_mark marks.Equal) (keyword kw.True) (gives tt)

-- [, setting]
unfoldable pub mode : Parser Bool
mode = takes (is_mark marks.Comma) mode_setting (gives true)

-- ( timescaledb . continuous [= true] [, setting] )
unfoldable pub options : Parser Bool
options = do
  mark marks.Open
  keyword kw.Timescaledb
  mark marks.Point
  keyword kw.Continuous
  _ ← equals_true
  only ← mode
  mark marks.Close
  gives only

-- [WITH DATA | WITH NO DATA]
unfoldable pub with_data : Parser Bool
with_data =
    takes (is_keyword kw.With)
    (takes (is_keyword kw.No) (keyword kw.Data >> gives false) (keyword kw.Data >> gives true))
    (gives true)

-- VIEW n WITH options AS SELECT fold [WITH DATA | WITH NO DATA]
unfoldable pub view_rest : Parser Stmt
view_rest = do
  keyword kw.View
  n ← name
  keyword kw.With
  only ← options
  keyword kw.As
  keyword kw.Select
  f ← fold_rest
  filled ← with_data
  gives (stmt.View n only filled f)

-- what follows CREATE
unfoldable pub create_rest : Parser Stmt
create_rest = takes (is_keyword kw.Materialized) view_rest (keyword kw.Table >> table_rest)

-- MATERIALIZED VIEW n SET ( setting )
unfoldable pub alter_rest : Parser Stmt
alter_rest = do
  keyword kw.Materialized
  keyword kw.View
  n ← name
  keyword kw.Set
  mark marks.Open
  only ← mode_setting
  mark marks.Close
  gives (stmt.Mode n only)

-- [( c { , c } )]
unfoldable pub column_list : Parser (Option (List (List ℕ)))
column_list =
    takes (is_mark marks.Open)
    (list_parser separators.Comma name >>= λ cs. mark marks.Close >> gives (Some cs))
    (gives None)

-- INTO n [( c { , c } )] VALUES row { , row }
unfoldable pub insert_rest : Parser Stmt
insert_rest = do
  keyword kw.Into
  t ← name
  cols ← column_list
  keyword kw.Values
  rows ← list_parser separators.Comma row
  gives (stmt.Insert t cols rows)

-- FROM n [WHERE tests]
unfoldable pub delete_rest : Parser Stmt
delete_rest = source >>= λ s. gives (stmt.Delete s.0 s.1)

-- ( 'n' , 'c' , chunk_time_interval => num )
unfoldable pub hyper_rest : Parser Stmt
hyper_rest = do
  mark marks.Open
  t ← quoted_name
  mark marks.Comma
  c ← quoted_name
  mark marks.Comma
  keyword kw.ChunkTimeInterval
  mark marks.Arrow
  z ← number
  mark marks.Close
  gives (stmt.Hyper t c z)

-- [older_than =>]
unfoldable pub older_than : Parser (Unit {0})
older_than = takes (is_keyword kw.OlderThan) (mark marks.Arrow) (gives tt)

-- ( 'n' , [older_than =>] num )
unfoldable pub drop_rest : Parser Stmt
drop_rest = do
  mark marks.Open
  t ← quoted_name
  mark marks.Comma
  _ ← older_than
  z ← number
  mark marks.Close
  gives (stmt.Drop t z)

-- FROM n [WHERE tests], after SELECT *
unfoldable pub rows_rest : Parser Stmt
rows_rest = source >>= λ s. gives (stmt.Rows s.0 s.1)

-- a fold by buckets of the calendar, after calendar_bucket
unfoldable pub calendar_rest : Parser Stmt
calendar_rest = do
  h ← calendar_bucket
  f ← fold_behind calendar_word h.head
  gives (stmt.Calendar h.number h.unit f)

-- what follows SELECT
unfoldable pub select_rest : Parser Stmt
select_rest =
    takes (is_keyword kw.CreateHypertable) hyper_rest
    (takes (is_keyword kw.DropChunks) drop_rest
    (takes (is_mark marks.Star) rows_rest
    (takes (is_spelled calendar_word) calendar_rest
    (fold_rest >>= λ f. gives (stmt.Buckets f)))))

-- 'n' , bound , bound
unfoldable pub window : Parser Window
window = do
  v ← quoted_name
  mark marks.Comma
  lo ← value
  mark marks.Comma
  hi ← value
  gives (record { view = v; lo = lo; hi = hi })

-- refresh_continuous_aggregate ( 'n' , bound , bound )
unfoldable pub call_rest : Parser Stmt
call_rest = do
  keyword kw.RefreshContinuousAggregate
  mark marks.Open
  w ← window
  mark marks.Close
  gives (stmt.Refresh w.view w.lo w.hi)

-- [num]
unfoldable pub optional_number : Parser (Option ℤ)
optional_number = choose is_number (number >>= λ z. gives (Some z)) (gives None)

-- what follows REFRESH
unfoldable pub refresh_rest : Parser Stmt
refresh_rest =
    takes (is_keyword kw.Cut) (window >>= λ w. gives (stmt.Cut w.view w.lo w.hi))
    (takes (is_keyword kw.Snap) (optional_number >>= λ c. gives (stmt.Snap c))
    (keyword kw.Finish >> optional_number >>= λ c. gives (stmt.Finish c)))

-- [READ ONLY]
unfoldable pub begin_rest : Parser Stmt
begin_rest = takes (is_keyword kw.Read) (keyword kw.Only >> gives stmt.BeginRead) (gives stmt.Begin)

-- BEGIN, COMMIT or ROLLBACK
unfoldable pub block : Parser Stmt
block =
    takes (is_keyword kw.Begin) begin_rest
    (takes (is_keyword kw.Commit) (gives stmt.Commit)
    (keyword kw.Rollback >> gives stmt.Rollback))

-- one of the forms of statements
unfoldable pub form : Parser Stmt
form =
    takes (is_keyword kw.Create) create_rest
    (takes (is_keyword kw.Select) select_rest
    (takes (is_keyword kw.Alter) alter_rest
    (takes (is_keyword kw.Insert) insert_rest
    (takes (is_keyword kw.Delete) delete_rest
    (takes (is_keyword kw.Call) call_rest
    (takes (is_keyword kw.Refresh) refresh_rest
    block))))))

-- the end of the statement
unfoldable pub end : Parser (Unit {0})
end s = if is_end s then Ok (tt, s) else Err (fault_here s)

-- [;]
unfoldable pub semicolon : Parser (Unit {0})
semicolon = takes (is_mark marks.Semicolon) (gives tt) (gives tt)

-- a whole statement, with an optional ; at its end
unfoldable pub statement : Parser Stmt
statement = do
  s ← form
  _ ← semicolon
  _ ← end
  gives s
