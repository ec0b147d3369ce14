-- The grammar: the statement that tokens mean. A rule relates some tokens to their meaning.
use Rattle.std.specs.Prelude.{◌≡◌, ℕ, suc, ℤ, pos, Bool, true, false, ◌⊎◌, List, [], ◌∷◌, ◌++◌, Option, Some, None}
use Rattle.stmt_tokens.specs.Tokens.{Token, number as number_token}
use Rattle.stmt_tokens.specs.Scan.{Seen, seen_token}
use Rattle.stmt_tokens.specs.Words.{is_keyword, is_spelled, is_mark, word_of, quoted_of, flag_of, comparison_of, function_of, is_star_of, is_item}
use Rattle.stmt_syntax.specs.Heads.{head_name, bucket_word, calendar_word}
use Rattle.stmt_tokens.specs.declared.keywords.Keyword.{Keyword}
use Rattle.stmt_tokens.specs.declared.keywords.Keyword.TheVariants as kw
use Rattle.stmt_tokens.specs.declared.tokens.Mark.{Mark}
use Rattle.stmt_tokens.specs.declared.tokens.Mark.TheVariants as marks
use Rattle.stmt_reader.specs.declared.folds.CalendarHead.{CalendarHead}
use Rattle.stmt_reader.specs.declared.folds.Head.{Head}
use Rattle.stmt_reader.specs.declared.forms.Window.{Window}
use Rattle.stmt_syntax.specs.declared.statements.Stmt.{Stmt}
use Rattle.stmt_syntax.specs.declared.statements.Stmt.TheVariants as stmt
use Rattle.stmt_syntax.specs.declared.statements.NamedFold.{NamedFold}
use Rattle.stmt_syntax.specs.declared.statements.NamedAgg.{NamedAgg}
use Rattle.stmt_syntax.specs.declared.statements.NamedTest.{NamedTest}
use Rattle.ts_num.specs.declared.values.Fun.{Fun}
use Rattle.ts_num.specs.declared.values.Fun.TheVariants as fun
use Rattle.ts_schema.specs.declared.columns.Column.{Column}
use Rattle.ts_schema.specs.declared.conditions.Cmp.TheVariants as cmp

-- these tokens mean this
abbrev pub Rule : Type 0 → Type 1
Rule A = List Token → A → Type 0

-- ---- how rules are combined

-- no token, which means this
unfoldable pub means : {A : Type 0} → A → Rule A
means a ts b = (ts ≡ []) × (a ≡ b)

-- one rule and then another, which may depend on what the first one means
unfoldable pub sequence : {A B : Type 0} → Rule A → (A → Rule B) → Rule B
sequence {A} L M ts b = (us : List Token) × (vs : List Token) × (a : A) × (ts ≡ us ++ vs) × L us a × M a vs b

infixr 10 ◌>>=◌
-- the same as an operator
abbrev pub ◌>>=◌ : {A B : Type 0} → Rule A → (A → Rule B) → Rule B
L >>= M = sequence L M

infixr 10 ◌>>◌
-- one rule and then another; the first one has no value
abbrev pub ◌>>◌ : {A B : Type 0} → Rule A → Rule B → Rule B
L >> M = sequence L (λ _. M)

-- one rule or another
unfoldable pub either : {A : Type 0} → Rule A → Rule A → Rule A
either L M ts a = L ts a ⊎ M ts a

-- a rule, or no token and this
abbrev pub optional : {A : Type 0} → Rule A → A → Rule A
optional L d = either L (means d)

-- a rule, zero or more times
unfoldable pub many : {A : Type 0} → Rule A → Rule (List A)
many L ts [] = ts ≡ []
many L ts (a ∷ items) = (us : List Token) × (vs : List Token) × (ts ≡ us ++ vs) × L us a × many L vs items

-- a rule once or more, separated by another
abbrev pub list_rule : {A B : Type 0} → Rule B → Rule A → Rule (List A)
list_rule separator L = do
  first ← L
  others ← many (separator >> L)
  means (first ∷ others)

-- ---- one token

-- a token with a meaning
unfoldable pub one : {A : Type 0} → (Seen → Option A) → Rule A
one f ts a = (t : Token) × (ts ≡ t ∷ []) × (f (seen_token t) ≡ Some a)

-- a token that passes a test
unfoldable pub token_rule : (Seen → Bool) → Rule (Unit {0})
token_rule test ts u = (t : Token) × (ts ≡ t ∷ []) × (test (seen_token t) ≡ true)

-- a word of the grammar, in any case
abbrev pub keyword : Keyword → Rule (Unit {0})
keyword k = token_rule (is_keyword k)

-- a mark of the grammar
abbrev pub mark : Mark → Rule (Unit {0})
mark m = token_rule (is_mark m)

-- n, c and x: a name
abbrev pub name : Rule (List ℕ)
name = one word_of

-- 'n' and 'c': a name in quotes
abbrev pub quoted_name : Rule (List ℕ)
quoted_name = one quoted_of

-- num: any number, even if it isn't an i64
unfoldable pub number : Rule ℤ
number ts z = ts ≡ number_token z ∷ []

-- ---- parts

-- flag: true or false
abbrev pub flag : Rule Bool
flag = one flag_of

-- bound and value: NULL or num
abbrev pub value : Rule (Option ℤ)
value = either (keyword kw.Null >> means None) (number >>= λ z. means (Some z))

-- row: ( value { , value } )
abbrev pub row : Rule (List (Option ℤ))
row = do
  mark marks.Open
  values ← list_rule (mark marks.Comma) value
  mark marks.Close
  means values

-- IS NULL or IS NOT NULL, after IS
abbrev pub null_test : List ℕ → Rule NamedTest
null_test c =
    either
    (keyword kw.Not >> keyword kw.Null >> means (record { col = c; cmp = cmp.NotNull; num = pos 0 }))
    (keyword kw.Null >> means (record { col = c; cmp = cmp.IsNull; num = pos 0 }))

-- op num
abbrev pub number_test : List ℕ → Rule NamedTest
number_test c = do
  op ← one comparison_of
  z ← number
  means (record { col = c; cmp = op; num = z })

-- test: c IS NULL, c IS NOT NULL or c op num
abbrev pub test : Rule NamedTest
test = name >>= λ c. either (keyword kw.Is >> null_test c) (number_test c)

-- [WHERE test { AND test }]
abbrev pub filters : Rule (List NamedTest)
filters = optional (keyword kw.Where >> list_rule (keyword kw.And) test) []

-- FROM n [WHERE tests]
abbrev pub source : Rule (List ℕ × List NamedTest)
source = do
  keyword kw.From
  n ← name
  tests ← filters
  means (n, tests)

-- [AS x]
abbrev pub alias : Rule (Option (List ℕ))
alias = optional (keyword kw.As >> name >>= λ x. means (Some x)) None

-- * after count (, or c
abbrev pub argument : Fun → Rule (Fun × Option (List ℕ))
argument f = either (token_rule (is_star_of f) >> means (fun.CountAll, None)) (name >>= λ c. means (f, Some c))

-- agg: count ( * ) [AS x], or fun ( c ) [AS x]
abbrev pub aggregate_rest : Fun → Rule NamedAgg
aggregate_rest f = do
  a ← argument f
  mark marks.Close
  x ← alias
  means (record { fun = a.0; col = a.1; name = x })

-- an aggregate from its function on
abbrev pub aggregate : Rule NamedAgg
aggregate = do
  f ← one function_of
  mark marks.Open
  aggregate_rest f

-- [, num]
abbrev pub offset : Rule ℤ
offset = optional (mark marks.Comma >> number) (pos 0)

-- time_bucket ( num , c [, num] ) [AS x]
abbrev pub bucket : Rule Head
bucket = do
  keyword kw.TimeBucket
  mark marks.Open
  step ← number
  mark marks.Comma
  c ← name
  shift ← offset
  mark marks.Close
  x ← alias
  means (record { step = step; shift = shift; at = c; name = x })

-- { , c } , agg { , agg }
abbrev pub select_list : Rule (List (List ℕ) × List NamedAgg)
select_list = do
  keys ← many (mark marks.Comma >> name)
  mark marks.Comma
  aggs ← list_rule (mark marks.Comma) aggregate
  means (keys, aggs)

-- { , item }, one for each name: the name or the number of its output column, the first of which has i before it
abbrev pub items_from : ℕ → List (List ℕ) → Rule (Unit {0})
items_from i [] = means tt
items_from i (n ∷ names) = mark marks.Comma >> token_rule (is_item i n) >> items_from (suc i) names

-- GROUP BY item { , item }: one item for the head, which has this name, and one for each key
abbrev pub group_by : List ℕ → List (List ℕ) → Rule (Unit {0})
group_by first keys = do
  keyword kw.Group
  keyword kw.By
  token_rule (is_item 0 first)
  items_from 1 keys

-- the rest of a fold after its head, with this default name: { , c } , agg { , agg } FROM n [WHERE tests] GROUP
-- BY item { , item }
abbrev pub fold_behind : List ℕ → Head → Rule NamedFold
fold_behind own h = do
  list ← select_list
  from ← source
  group_by (head_name own h.name) list.0
  means (record { step = h.step; shift = h.shift; at = h.at; name = h.name; keys = list.0; aggs = list.1; table = from.0; tests = from.1 })

-- fold, after its SELECT: bucket { , c } , agg { , agg } FROM n [WHERE tests] GROUP BY item { , item }
abbrev pub fold : Rule NamedFold
fold = bucket >>= fold_behind bucket_word

-- ( num , 'unit' , c ) [AS x], after calendar_bucket
abbrev pub calendar_bucket : Rule CalendarHead
calendar_bucket = do
  mark marks.Open
  z ← number
  mark marks.Comma
  u ← quoted_name
  mark marks.Comma
  c ← name
  mark marks.Close
  x ← alias
  means (record { number = z; unit = u; head = record { step = pos 1; shift = pos 0; at = c; name = x } })

-- calendar_bucket ( num , 'unit' , c ) [AS x] { , c } , agg { , agg } FROM n [WHERE tests] GROUP BY item { , item }
abbrev pub calendar_fold : Rule Stmt
calendar_fold = do
  token_rule (is_spelled calendar_word)
  h ← calendar_bucket
  f ← fold_behind calendar_word h.head
  means (stmt.Calendar h.number h.unit f)

-- ---- statements

-- [NOT NULL]
abbrev pub not_null : Rule Bool
not_null = optional (keyword kw.Not >> keyword kw.Null >> means true) false

-- c BIGINT [NOT NULL]
abbrev pub column : Rule Column
column = do
  c ← name
  keyword kw.Bigint
  must ← not_null
  means (record { name = c; must = must })

-- CREATE TABLE n ( column { , column } )
abbrev pub create_table : Rule Stmt
create_table = do
  keyword kw.Create
  keyword kw.Table
  n ← name
  mark marks.Open
  cols ← list_rule (mark marks.Comma) column
  mark marks.Close
  means (stmt.Table n cols)

-- SELECT create_hypertable ( 'n' , 'c' , chunk_time_interval => num )
abbrev pub create_hypertable : Rule Stmt
create_hypertable = do
  keyword kw.Select
  keyword kw.CreateHypertable
  mark marks.Open
  n ← quoted_name
  mark marks.Comma
  c ← quoted_name
  mark marks.Comma
  keyword kw.ChunkTimeInterval
  mark marks.Arrow
  z ← number
  mark marks.Close
  means (stmt.Hyper n c z)

-- timescaledb . materialized_only = flag
abbrev pub mode_setting : Rule Bool
mode_setting = do
  keyword kw.Timescaledb
  mark marks.Point
  keyword kw.MaterializedOnly
  mark marks.Equal
  flag

-- [= true]
abbrev pub equals_true : Rule (Unit {0})
equals_true = optional (mark marks.Equal >> keyword kw.True) tt

-- [, setting]
abbrev pub mode : Rule Bool
mode = optional (mark marks.Comma >> mode_setting) true

-- [WITH DATA | WITH NO DATA]
abbrev pub with_data : Rule Bool
with_data =
    optional
    (keyword kw.With >> either (keyword kw.No >> keyword kw.Data >> means false) (keyword kw.Data >> means true))
    true

-- ( timescaledb . continuous [= true] [, setting] )
abbrev pub options : Rule Bool
options = do
  mark marks.Open
  keyword kw.Timescaledb
  mark marks.Point
  keyword kw.Continuous
  equals_true
  only ← mode
  mark marks.Close
  means only

-- 'n' , bound , bound
abbrev pub window : Rule Window
window = do
  n ← quoted_name
  mark marks.Comma
  lo ← value
  mark marks.Comma
  hi ← value
  means (record { view = n; lo = lo; hi = hi })

-- CREATE MATERIALIZED VIEW n WITH options AS SELECT fold [WITH DATA | WITH NO DATA]
abbrev pub create_view : Rule Stmt
create_view = do
  keyword kw.Create
  keyword kw.Materialized
  keyword kw.View
  n ← name
  keyword kw.With
  only ← options
  keyword kw.As
  keyword kw.Select
  f ← fold
  filled ← with_data
  means (stmt.View n only filled f)

-- ALTER MATERIALIZED VIEW n SET ( setting )
abbrev pub alter_view : Rule Stmt
alter_view = do
  keyword kw.Alter
  keyword kw.Materialized
  keyword kw.View
  n ← name
  keyword kw.Set
  mark marks.Open
  only ← mode_setting
  mark marks.Close
  means (stmt.Mode n only)

-- [( c { , c } )]
abbrev pub column_list : Rule (Option (List (List ℕ)))
column_list =
    optional
    (mark marks.Open >> list_rule (mark marks.Comma) name >>= λ cols. mark marks.Close >> means (Some cols))
    None

-- INSERT INTO n [( c { , c } )] VALUES row { , row }
abbrev pub insert : Rule Stmt
insert = do
  keyword kw.Insert
  keyword kw.Into
  n ← name
  cols ← column_list
  keyword kw.Values
  rows ← list_rule (mark marks.Comma) row
  means (stmt.Insert n cols rows)

-- DELETE FROM n [WHERE tests]
abbrev pub delete : Rule Stmt
delete = do
  keyword kw.Delete
  from ← source
  means (stmt.Delete from.0 from.1)

-- [older_than =>]
abbrev pub older_than : Rule (Unit {0})
older_than = optional (keyword kw.OlderThan >> mark marks.Arrow) tt

-- SELECT drop_chunks ( 'n' , [older_than =>] num )
abbrev pub drop_chunks : Rule Stmt
drop_chunks = do
  keyword kw.Select
  keyword kw.DropChunks
  mark marks.Open
  n ← quoted_name
  mark marks.Comma
  older_than
  z ← number
  mark marks.Close
  means (stmt.Drop n z)

-- CALL refresh_continuous_aggregate ( 'n' , bound , bound )
abbrev pub call_refresh : Rule Stmt
call_refresh = do
  keyword kw.Call
  keyword kw.RefreshContinuousAggregate
  mark marks.Open
  w ← window
  mark marks.Close
  means (stmt.Refresh w.view w.lo w.hi)

-- REFRESH CUT 'n' , bound , bound
abbrev pub refresh_cut : Rule Stmt
refresh_cut = do
  keyword kw.Refresh
  keyword kw.Cut
  w ← window
  means (stmt.Cut w.view w.lo w.hi)

-- [num]
abbrev pub optional_number : Rule (Option ℤ)
optional_number = optional (number >>= λ z. means (Some z)) None

-- REFRESH SNAP [num]
abbrev pub refresh_snap : Rule Stmt
refresh_snap = do
  keyword kw.Refresh
  keyword kw.Snap
  c ← optional_number
  means (stmt.Snap c)

-- REFRESH FINISH [num]
abbrev pub refresh_finish : Rule Stmt
refresh_finish = do
  keyword kw.Refresh
  keyword kw.Finish
  c ← optional_number
  means (stmt.Finish c)

-- BEGIN
abbrev pub begin : Rule Stmt
begin = keyword kw.Begin >> means stmt.Begin

-- BEGIN READ ONLY
abbrev pub begin_read : Rule Stmt
begin_read = keyword kw.Begin >> keyword kw.Read >> keyword kw.Only >> means stmt.BeginRead

-- COMMIT
abbrev pub commit : Rule Stmt
commit = keyword kw.Commit >> means stmt.Commit

-- ROLLBACK
abbrev pub rollback : Rule Stmt
rollback = keyword kw.Rollback >> means stmt.Rollback

-- SELECT fold
abbrev pub buckets : Rule Stmt
buckets = keyword kw.Select >> fold >>= λ f. means (stmt.Buckets f)

-- SELECT, and a fold by buckets of the calendar
abbrev pub calendar : Rule Stmt
calendar = keyword kw.Select >> calendar_fold

-- SELECT * FROM n [WHERE tests]
abbrev pub select_rows : Rule Stmt
select_rows = do
  keyword kw.Select
  mark marks.Star
  from ← source
  means (stmt.Rows from.0 from.1)

-- one of the forms of statements
unfoldable pub form : Rule Stmt
form =
    either create_table
    (either create_hypertable
    (either create_view
    (either alter_view
    (either insert
    (either delete
    (either drop_chunks
    (either call_refresh
    (either refresh_cut
    (either refresh_snap
    (either refresh_finish
    (either begin
    (either begin_read
    (either commit
    (either rollback
    (either buckets
    (either calendar select_rows))))))))))))))))

-- [;]
abbrev pub semicolon : Rule (Unit {0})
semicolon = optional (mark marks.Semicolon >> means tt) tt

-- a statement may end with one ;
unfoldable pub statement : Rule Stmt
statement = do
  s ← form
  semicolon
  means s
