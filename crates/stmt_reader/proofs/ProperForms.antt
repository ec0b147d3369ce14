-- The grammar's statements are proper.
use Rattle.std.proofs.Common.{ℕ, pos, List, [], Option, Some, None, refl}
use Rattle.std.specs.Prelude.{IfSome}
use Rattle.std.specs.List.{AllByRecursion}
use Rattle.ts_num.specs.declared.values.Fun.{Fun}
use Rattle.ts_num.specs.declared.values.Fun.TheVariants as fun
use Rattle.stmt_reader.specs.Grammar as rule
use Rattle.stmt_reader.specs.Grammar.{Rule, means, sequence}
use Rattle.stmt_tokens.specs.Words.{function_of, comparison_of, is_star_of, is_spelled}
use Rattle.stmt_syntax.specs.Heads.{head_name, bucket_word, calendar_word}
use Rattle.stmt_syntax.specs.Proper.{IsName, IsWord, IsValue, IsAlias, IsProperColumn, IsProperTest, IsProperAgg, AreProperTests, IsProperFold, IsProper}
use Rattle.stmt_tokens.specs.declared.keywords.Keyword.TheVariants as kw
use Rattle.stmt_tokens.specs.declared.tokens.Mark.TheVariants as marks
use Rattle.stmt_reader.specs.declared.folds.CalendarHead.{CalendarHead}
use Rattle.stmt_reader.specs.declared.folds.Head.{Head}
use Rattle.stmt_reader.specs.declared.forms.Window.{Window}
use Rattle.stmt_syntax.specs.declared.statements.Stmt.TheVariants as stmt
use Rattle.stmt_syntax.specs.declared.statements.NamedAgg.{NamedAgg}
use Rattle.stmt_syntax.specs.declared.statements.NamedTest.{NamedTest}
use Rattle.stmt_reader.proofs.Holds.{Holds, holds_any, holds_means, holds_then, past, holds_either, holds_many, holds_listed, holds_name, holds_quoted, holds_number}

-- ---- parts

value : Holds rule.value IsValue
value =
    holds_either
    (past (rule.keyword kw.Null) (holds_means None IsValue tt))
    (holds_then holds_number (λ z h. holds_means (Some z) IsValue h))

row : Holds rule.row (AllByRecursion IsValue)
row =
    past (rule.mark marks.Open)
    (holds_then (holds_listed (rule.mark marks.Comma) value) (λ values h.
    past (rule.mark marks.Close) (holds_means values _ h)))

column : Holds rule.column IsProperColumn
column =
    holds_then holds_name (λ name h.
    past (rule.keyword kw.Bigint)
    (holds_then (holds_any rule.not_null) (λ must _. holds_means (record { name = name; must = must }) IsProperColumn h)))

zero_is_word : IsWord (pos 0)
zero_is_word = refl

null_test : (c : List ℕ) → IsName c → Holds (rule.null_test c) IsProperTest
null_test c h =
    holds_either
    (past (rule.keyword kw.Not) (past (rule.keyword kw.Null) (holds_means _ IsProperTest (record { col = h; num = zero_is_word }))))
    (past (rule.keyword kw.Null) (holds_means _ IsProperTest (record { col = h; num = zero_is_word })))

number_test : (c : List ℕ) → IsName c → Holds (rule.number_test c) IsProperTest
number_test c h =
    holds_then (holds_any (rule.one comparison_of)) (λ op _.
    holds_then holds_number (λ z k. holds_means (record { col = c; cmp = op; num = z }) IsProperTest (record { col = h; num = k })))

test : Holds rule.test IsProperTest
test = holds_then holds_name (λ c h. holds_either (past (rule.keyword kw.Is) (null_test c h)) (number_test c h))

filters : Holds rule.filters AreProperTests
filters =
    holds_either
    (past (rule.keyword kw.Where) (holds_listed (rule.keyword kw.And) test))
    (holds_means [] AreProperTests tt)

record IsProperSource (from : List ℕ × List NamedTest) : Type 0 where
  table : IsName from.0
  tests : AreProperTests from.1

source : Holds rule.source IsProperSource
source =
    past (rule.keyword kw.From)
    (holds_then holds_name (λ n h.
    holds_then filters (λ tests k. holds_means (n, tests) IsProperSource (record { table = h; tests = k }))))

alias : Holds rule.alias IsAlias
alias =
    holds_either
    (past (rule.keyword kw.As) (holds_then holds_name (λ x h. holds_means (Some x) IsAlias h)))
    (holds_means None IsAlias tt)

-- ---- folds

abbrev IsProperArgument : Fun × Option (List ℕ) → Type 0
IsProperArgument a = IsAlias a.1

argument : (f : Fun) → Holds (rule.argument f) IsProperArgument
argument f =
    holds_either
    (past (rule.token_rule (is_star_of f)) (holds_means (fun.CountAll, None) IsProperArgument tt))
    (holds_then holds_name (λ c h. holds_means (f, Some c) IsProperArgument h))

aggregate : Holds rule.aggregate IsProperAgg
aggregate =
    holds_then (holds_any (rule.one function_of)) (λ f _.
    past (rule.mark marks.Open)
    (holds_then (argument f) (λ a h.
    past (rule.mark marks.Close)
    (holds_then alias (λ x k. holds_means (record { fun = a.0; col = a.1; name = x }) IsProperAgg (record { col = h; name = k }))))))

offset : Holds rule.offset IsWord
offset = holds_either (past (rule.mark marks.Comma) holds_number) (holds_means (pos 0) IsWord zero_is_word)

pub record IsProperHead (b : Head) : Type 0 where
  pub step : IsWord b.step
  pub shift : IsWord b.shift
  pub at : IsName b.at
  pub name : IsAlias b.name

bucket : Holds rule.bucket IsProperHead
bucket =
    past (rule.keyword kw.TimeBucket)
    (past (rule.mark marks.Open)
    (holds_then holds_number (λ step h.
    past (rule.mark marks.Comma)
    (holds_then holds_name (λ c k.
    holds_then offset (λ shift m.
    past (rule.mark marks.Close)
    (holds_then alias (λ x n.
    holds_means (record { step = step; shift = shift; at = c; name = x }) IsProperHead (record { step = h; shift = m; at = k; name = n })))))))))

record IsProperList (list : List (List ℕ) × List NamedAgg) : Type 0 where
  keys : AllByRecursion IsName list.0
  aggs : AllByRecursion IsProperAgg list.1

select_list : Holds rule.select_list IsProperList
select_list =
    holds_then (holds_many (past (rule.mark marks.Comma) holds_name)) (λ keys h.
    past (rule.mark marks.Comma)
    (holds_then (holds_listed (rule.mark marks.Comma) aggregate) (λ aggs k.
    holds_means (keys, aggs) IsProperList (record { keys = h; aggs = k }))))

pub holds_fold_behind : (own : List ℕ) (b : Head) → IsProperHead b → Holds (rule.fold_behind own b) IsProperFold
holds_fold_behind own b h =
    holds_then select_list (λ list k.
    holds_then source (λ from m.
    past (rule.group_by (head_name own b.name) list.0)
    (holds_means (record { step = b.step; shift = b.shift; at = b.at; name = b.name; keys = list.0; aggs = list.1; table = from.0; tests = from.1 }) IsProperFold
    (record { step = h.step; shift = h.shift; at = h.at; name = h.name; keys = k.keys; aggs = k.aggs; table = m.table; tests = m.tests }))))

fold : Holds rule.fold IsProperFold
fold = holds_then bucket (λ b h. holds_fold_behind bucket_word b h)

record IsProperCalendar (h : CalendarHead) : Type 0 where
  number : IsWord h.number
  unit : IsName h.unit
  head : IsProperHead h.head

calendar_bucket : Holds rule.calendar_bucket IsProperCalendar
calendar_bucket =
    past (rule.mark marks.Open)
    (holds_then holds_number (λ z h.
    past (rule.mark marks.Comma)
    (holds_then holds_quoted (λ u k.
    past (rule.mark marks.Comma)
    (holds_then holds_name (λ c m.
    past (rule.mark marks.Close)
    (holds_then alias (λ x n.
    holds_means (record { number = z; unit = u; head = record { step = pos 1; shift = pos 0; at = c; name = x } }) IsProperCalendar
    (record { number = h; unit = k; head = record { step = refl; shift = zero_is_word; at = m; name = n } })))))))))

-- ---- statements

create_table : Holds rule.create_table IsProper
create_table =
    past (rule.keyword kw.Create)
    (past (rule.keyword kw.Table)
    (holds_then holds_name (λ n h.
    past (rule.mark marks.Open)
    (holds_then (holds_listed (rule.mark marks.Comma) column) (λ cols k.
    past (rule.mark marks.Close) (holds_means (stmt.Table n cols) IsProper (h, k)))))))

create_hypertable : Holds rule.create_hypertable IsProper
create_hypertable =
    past (rule.keyword kw.Select)
    (past (rule.keyword kw.CreateHypertable)
    (past (rule.mark marks.Open)
    (holds_then holds_quoted (λ n h.
    past (rule.mark marks.Comma)
    (holds_then holds_quoted (λ c k.
    past (rule.mark marks.Comma)
    (past (rule.keyword kw.ChunkTimeInterval)
    (past (rule.mark marks.Arrow)
    (holds_then holds_number (λ z m.
    past (rule.mark marks.Close) (holds_means (stmt.Hyper n c z) IsProper (h, k, m))))))))))))

create_view : Holds rule.create_view IsProper
create_view =
    past (rule.keyword kw.Create)
    (past (rule.keyword kw.Materialized)
    (past (rule.keyword kw.View)
    (holds_then holds_name (λ n h.
    past (rule.keyword kw.With)
    (holds_then (holds_any rule.options) (λ only _.
    past (rule.keyword kw.As)
    (past (rule.keyword kw.Select)
    (holds_then fold (λ f k.
    holds_then (holds_any rule.with_data) (λ filled _. holds_means (stmt.View n only filled f) IsProper (h, k)))))))))))

alter_view : Holds rule.alter_view IsProper
alter_view =
    past (rule.keyword kw.Alter)
    (past (rule.keyword kw.Materialized)
    (past (rule.keyword kw.View)
    (holds_then holds_name (λ n h.
    past (rule.keyword kw.Set)
    (past (rule.mark marks.Open)
    (holds_then (holds_any rule.mode_setting) (λ only _.
    past (rule.mark marks.Close) (holds_means (stmt.Mode n only) IsProper h))))))))

abbrev AreProperNames : Option (List (List ℕ)) → Type 0
AreProperNames cols = IfSome cols (AllByRecursion IsName)

column_list : Holds rule.column_list AreProperNames
column_list =
    holds_either
    (past (rule.mark marks.Open)
    (holds_then (holds_listed (rule.mark marks.Comma) holds_name) (λ cols h.
    past (rule.mark marks.Close) (holds_means (Some cols) AreProperNames h))))
    (holds_means None AreProperNames tt)

insert : Holds rule.insert IsProper
insert =
    past (rule.keyword kw.Insert)
    (past (rule.keyword kw.Into)
    (holds_then holds_name (λ n h.
    holds_then column_list (λ cols k.
    past (rule.keyword kw.Values)
    (holds_then (holds_listed (rule.mark marks.Comma) row) (λ rows m. holds_means (stmt.Insert n cols rows) IsProper (h, k, m)))))))

delete : Holds rule.delete IsProper
delete =
    past (rule.keyword kw.Delete)
    (holds_then source (λ from h. holds_means (stmt.Delete from.0 from.1) IsProper (h.table, h.tests)))

drop_chunks : Holds rule.drop_chunks IsProper
drop_chunks =
    past (rule.keyword kw.Select)
    (past (rule.keyword kw.DropChunks)
    (past (rule.mark marks.Open)
    (holds_then holds_quoted (λ n h.
    past (rule.mark marks.Comma)
    (past rule.older_than
    (holds_then holds_number (λ z k.
    past (rule.mark marks.Close) (holds_means (stmt.Drop n z) IsProper (h, k)))))))))

record IsProperWindow (w : Window) : Type 0 where
  view : IsName w.view
  lo : IsValue w.lo
  hi : IsValue w.hi

window : Holds rule.window IsProperWindow
window =
    holds_then holds_quoted (λ n h.
    past (rule.mark marks.Comma)
    (holds_then value (λ lo k.
    past (rule.mark marks.Comma)
    (holds_then value (λ hi m. holds_means (record { view = n; lo = lo; hi = hi }) IsProperWindow (record { view = h; lo = k; hi = m }))))))

call_refresh : Holds rule.call_refresh IsProper
call_refresh =
    past (rule.keyword kw.Call)
    (past (rule.keyword kw.RefreshContinuousAggregate)
    (past (rule.mark marks.Open)
    (holds_then window (λ w h.
    past (rule.mark marks.Close) (holds_means (stmt.Refresh w.view w.lo w.hi) IsProper (h.view, h.lo, h.hi))))))

refresh_cut : Holds rule.refresh_cut IsProper
refresh_cut =
    past (rule.keyword kw.Refresh)
    (past (rule.keyword kw.Cut)
    (holds_then window (λ w h. holds_means (stmt.Cut w.view w.lo w.hi) IsProper (h.view, h.lo, h.hi))))

chosen : Holds rule.optional_number IsValue
chosen = holds_either (holds_then holds_number (λ z h. holds_means (Some z) IsValue h)) (holds_means None IsValue tt)

refresh_snap : Holds rule.refresh_snap IsProper
refresh_snap =
    past (rule.keyword kw.Refresh)
    (past (rule.keyword kw.Snap) (holds_then chosen (λ c h. holds_means (stmt.Snap c) IsProper h)))

refresh_finish : Holds rule.refresh_finish IsProper
refresh_finish =
    past (rule.keyword kw.Refresh)
    (past (rule.keyword kw.Finish) (holds_then chosen (λ c h. holds_means (stmt.Finish c) IsProper h)))

begin : Holds rule.begin IsProper
begin = past (rule.keyword kw.Begin) (holds_means stmt.Begin IsProper tt)

begin_read : Holds rule.begin_read IsProper
begin_read = past (rule.keyword kw.Begin) (past (rule.keyword kw.Read) (past (rule.keyword kw.Only) (holds_means stmt.BeginRead IsProper tt)))

commit : Holds rule.commit IsProper
commit = past (rule.keyword kw.Commit) (holds_means stmt.Commit IsProper tt)

rollback : Holds rule.rollback IsProper
rollback = past (rule.keyword kw.Rollback) (holds_means stmt.Rollback IsProper tt)

buckets : Holds rule.buckets IsProper
buckets = past (rule.keyword kw.Select) (holds_then fold (λ f h. holds_means (stmt.Buckets f) IsProper h))

calendar : Holds rule.calendar IsProper
calendar =
    past (rule.keyword kw.Select)
    (past (rule.token_rule (is_spelled calendar_word))
    (holds_then calendar_bucket (λ h k.
    holds_then (holds_fold_behind calendar_word h.head k.head) (λ f m.
    holds_means (stmt.Calendar h.number h.unit f) IsProper (k.number, k.unit, m)))))

select_rows : Holds rule.select_rows IsProper
select_rows =
    past (rule.keyword kw.Select)
    (past (rule.mark marks.Star)
    (holds_then source (λ from h. holds_means (stmt.Rows from.0 from.1) IsProper (h.table, h.tests))))

form : Holds rule.form IsProper
unfolding rule.form
form =
    holds_either create_table
    (holds_either create_hypertable
    (holds_either create_view
    (holds_either alter_view
    (holds_either insert
    (holds_either delete
    (holds_either drop_chunks
    (holds_either call_refresh
    (holds_either refresh_cut
    (holds_either refresh_snap
    (holds_either refresh_finish
    (holds_either begin
    (holds_either begin_read
    (holds_either commit
    (holds_either rollback
    (holds_either buckets
    (holds_either calendar select_rows))))))))))))))))

-- a whole statement
pub holds_statement : Holds rule.statement IsProper
unfolding rule.statement
holds_statement = holds_then form (λ s h. past rule.semicolon (holds_means s IsProper h))
