-- The grammar's statements are whole, and their texts have at least this many bytes.
use Rattle.std.proofs.Common.{ℕ, ◌+◌, ◌≤◌, length, Some, None, arith}
use Rattle.stmt_reader.specs.Grammar as rule
use Rattle.stmt_reader.specs.Grammar.{Rule}
use Rattle.stmt_syntax.specs.Heads.{calendar_word}
use Rattle.stmt_syntax.specs.Written.{IsShaped, IsWholeRow, name_size, column_size, row_size, list_size}
use Rattle.stmt_tokens.specs.declared.keywords.Keyword.TheVariants as kw
use Rattle.stmt_tokens.specs.declared.tokens.Mark.TheVariants as marks
use Rattle.stmt_syntax.specs.declared.statements.Stmt.{Stmt}
use Rattle.stmt_syntax.specs.declared.statements.Stmt.TheVariants as stmt
use Rattle.stmt_reader.proofs.Yields.{Yields, Item, yields_means, yields_then, yields_either, yields_listed, yields_keyword, yields_mark, yields_name, yields_quoted, yields_number, yields_spelled}
use Rattle.stmt_reader.proofs.WrittenParts.{Any, yields_value, yields_row, yields_column, yields_source, yields_fold, yields_fold_behind, yields_calendar_bucket}

-- a statement by tokens of this many bytes
abbrev Holds : Stmt → ℕ → Type 0
Holds s n = IsShaped n s

create_table : Yields rule.create_table Holds
create_table =
    yields_then (yields_keyword kw.Create) (λ _ a ha.
    yields_then (yields_keyword kw.Table) (λ _ b hb.
    yields_then yields_name (λ name c hc.
    yields_then (yields_mark marks.Open) (λ _ d hd.
    yields_then (yields_listed 1 column_size (yields_mark marks.Comma) yields_column) (λ cols e he.
    yields_then (yields_mark marks.Close) (λ _ f hf.
    yields_means (stmt.Table name cols) _ (record { whole = he.some; size = omega (arith, he.size) })))))))

create_hypertable : Yields rule.create_hypertable Holds
create_hypertable =
    yields_then (yields_keyword kw.Select) (λ _ a ha.
    yields_then (yields_keyword kw.CreateHypertable) (λ _ b hb.
    yields_then (yields_mark marks.Open) (λ _ c hc.
    yields_then yields_quoted (λ name d hd.
    yields_then (yields_mark marks.Comma) (λ _ e he.
    yields_then yields_quoted (λ col f hf.
    yields_then (yields_mark marks.Comma) (λ _ g hg.
    yields_then (yields_keyword kw.ChunkTimeInterval) (λ _ h hh.
    yields_then (yields_mark marks.Arrow) (λ _ i hi.
    yields_then yields_number (λ z j hj.
    yields_then (yields_mark marks.Close) (λ _ k hk.
    yields_means (stmt.Hyper name col z) _ (record { whole = tt; size = omega arith }))))))))))))

-- any text takes at least no bytes
anything : {A : Type 0} (L : Rule A) → Yields L (λ _ n. 0 ≤ n)
anything L = record { holds = λ ts a l. omega arith }

create_view : Yields rule.create_view Holds
create_view =
    yields_then (yields_keyword kw.Create) (λ _ a ha.
    yields_then (yields_keyword kw.Materialized) (λ _ b hb.
    yields_then (yields_keyword kw.View) (λ _ c hc.
    yields_then yields_name (λ name d hd.
    yields_then (yields_keyword kw.With) (λ _ e he.
    yields_then (anything rule.options) (λ only f hf.
    yields_then (yields_keyword kw.As) (λ _ g hg.
    yields_then (yields_keyword kw.Select) (λ _ h hh.
    yields_then yields_fold (λ fold i hi.
    yields_then (anything rule.with_data) (λ filled j hj.
    yields_means (stmt.View name only filled fold) _ (record { whole = hi.is; size = omega (arith, hi.size) })))))))))))

alter_view : Yields rule.alter_view Holds
alter_view =
    yields_then (yields_keyword kw.Alter) (λ _ a ha.
    yields_then (yields_keyword kw.Materialized) (λ _ b hb.
    yields_then (yields_keyword kw.View) (λ _ c hc.
    yields_then yields_name (λ name d hd.
    yields_then (yields_keyword kw.Set) (λ _ e he.
    yields_then (yields_mark marks.Open) (λ _ f hf.
    yields_then (anything rule.mode_setting) (λ only g hg.
    yields_then (yields_mark marks.Close) (λ _ h hh.
    yields_means (stmt.Mode name only) _ (record { whole = tt; size = omega arith })))))))))

name_item : Yields rule.name (λ w n. Item Any name_size w (1 + n))
name_item = record { holds = λ ts w l. record { is = tt; size = omega (arith, yields_name.holds ts w l) } }

column_list : Yields rule.column_list (λ cols n. list_size cols ≤ n)
column_list =
    yields_either
    (yields_then (yields_mark marks.Open) (λ _ a ha.
    yields_then (yields_listed 1 name_size (yields_mark marks.Comma) name_item) (λ cols b hb.
    yields_then (yields_mark marks.Close) (λ _ c hc.
    yields_means (Some cols) _ (omega (arith, hb.size))))))
    (yields_means None _ (omega arith))

row_item : Yields rule.row (λ r n. Item IsWholeRow row_size r (0 + n))
row_item = record { holds = λ ts r l. let k = yields_row.holds ts r l in record { is = k.is; size = omega (arith, k.size) } }

comma : Yields (rule.mark marks.Comma) (λ _ n. 0 ≤ n)
comma = anything (rule.mark marks.Comma)

insert : Yields rule.insert Holds
insert =
    yields_then (yields_keyword kw.Insert) (λ _ a ha.
    yields_then (yields_keyword kw.Into) (λ _ b hb.
    yields_then yields_name (λ name c hc.
    yields_then column_list (λ cols d hd.
    yields_then (yields_keyword kw.Values) (λ _ e he.
    yields_then (yields_listed 0 row_size comma row_item) (λ rows f hf.
    yields_means (stmt.Insert name cols rows) _ (record { whole = record { some = hf.some; each = hf.each }; size = omega (arith, hf.size) })))))))

delete : Yields rule.delete Holds
delete =
    yields_then (yields_keyword kw.Delete) (λ _ a ha.
    yields_then yields_source (λ from b hb.
    yields_means (stmt.Delete from.0 from.1) _ (record { whole = hb.tests; size = omega (arith, hb.size) })))

drop_chunks : Yields rule.drop_chunks Holds
drop_chunks =
    yields_then (yields_keyword kw.Select) (λ _ a ha.
    yields_then (yields_keyword kw.DropChunks) (λ _ b hb.
    yields_then (yields_mark marks.Open) (λ _ c hc.
    yields_then yields_quoted (λ name d hd.
    yields_then (yields_mark marks.Comma) (λ _ e he.
    yields_then (anything rule.older_than) (λ _ f hf.
    yields_then yields_number (λ z g hg.
    yields_then (yields_mark marks.Close) (λ _ h hh.
    yields_means (stmt.Drop name z) _ (record { whole = tt; size = omega arith })))))))))

window : Yields rule.window (λ w n. length w.view ≤ n)
window =
    yields_then yields_quoted (λ name a ha.
    yields_then (yields_mark marks.Comma) (λ _ b hb.
    yields_then yields_value (λ lo c hc.
    yields_then (yields_mark marks.Comma) (λ _ d hd.
    yields_then yields_value (λ hi e he.
    yields_means (record { view = name; lo = lo; hi = hi }) _ (omega arith))))))

call_refresh : Yields rule.call_refresh Holds
call_refresh =
    yields_then (yields_keyword kw.Call) (λ _ a ha.
    yields_then (yields_keyword kw.RefreshContinuousAggregate) (λ _ b hb.
    yields_then (yields_mark marks.Open) (λ _ c hc.
    yields_then window (λ w d hd.
    yields_then (yields_mark marks.Close) (λ _ e he.
    yields_means (stmt.Refresh w.view w.lo w.hi) _ (record { whole = tt; size = omega arith }))))))

refresh_cut : Yields rule.refresh_cut Holds
refresh_cut =
    yields_then (yields_keyword kw.Refresh) (λ _ a ha.
    yields_then (yields_keyword kw.Cut) (λ _ b hb.
    yields_then window (λ w c hc.
    yields_means (stmt.Cut w.view w.lo w.hi) _ (record { whole = tt; size = omega arith }))))

refresh_snap : Yields rule.refresh_snap Holds
refresh_snap =
    yields_then (yields_keyword kw.Refresh) (λ _ a ha.
    yields_then (yields_keyword kw.Snap) (λ _ b hb.
    yields_then (anything rule.optional_number) (λ cut c hc.
    yields_means (stmt.Snap cut) _ (record { whole = tt; size = omega arith }))))

refresh_finish : Yields rule.refresh_finish Holds
refresh_finish =
    yields_then (yields_keyword kw.Refresh) (λ _ a ha.
    yields_then (yields_keyword kw.Finish) (λ _ b hb.
    yields_then (anything rule.optional_number) (λ cut c hc.
    yields_means (stmt.Finish cut) _ (record { whole = tt; size = omega arith }))))

begin : Yields rule.begin Holds
begin = yields_then (yields_keyword kw.Begin) (λ _ a ha. yields_means stmt.Begin _ (record { whole = tt; size = omega arith }))

begin_read : Yields rule.begin_read Holds
begin_read =
    yields_then (yields_keyword kw.Begin) (λ _ a ha.
    yields_then (yields_keyword kw.Read) (λ _ b hb.
    yields_then (yields_keyword kw.Only) (λ _ c hc.
    yields_means stmt.BeginRead _ (record { whole = tt; size = omega arith }))))

commit : Yields rule.commit Holds
commit = yields_then (yields_keyword kw.Commit) (λ _ a ha. yields_means stmt.Commit _ (record { whole = tt; size = omega arith }))

rollback : Yields rule.rollback Holds
rollback = yields_then (yields_keyword kw.Rollback) (λ _ a ha. yields_means stmt.Rollback _ (record { whole = tt; size = omega arith }))

buckets : Yields rule.buckets Holds
buckets =
    yields_then (yields_keyword kw.Select) (λ _ a ha.
    yields_then yields_fold (λ f b hb.
    yields_means (stmt.Buckets f) _ (record { whole = hb.is; size = omega (arith, hb.size) })))

calendar : Yields rule.calendar Holds
calendar =
    yields_then (yields_keyword kw.Select) (λ _ a ha.
    yields_then (yields_spelled calendar_word) (λ _ b hb.
    yields_then yields_calendar_bucket (λ h c hc.
    yields_then (yields_fold_behind calendar_word h.head) (λ f d hd.
    yields_means (stmt.Calendar h.number h.unit f) _ (record { whole = hd.is; size = omega (arith, hd.size) })))))

select_rows : Yields rule.select_rows Holds
select_rows =
    yields_then (yields_keyword kw.Select) (λ _ a ha.
    yields_then (yields_mark marks.Star) (λ _ b hb.
    yields_then yields_source (λ from c hc.
    yields_means (stmt.Rows from.0 from.1) _ (record { whole = hc.tests; size = omega (arith, hc.size) }))))

form : Yields rule.form Holds
unfolding rule.form
form =
    yields_either create_table
    (yields_either create_hypertable
    (yields_either create_view
    (yields_either alter_view
    (yields_either insert
    (yields_either delete
    (yields_either drop_chunks
    (yields_either call_refresh
    (yields_either refresh_cut
    (yields_either refresh_snap
    (yields_either refresh_finish
    (yields_either begin
    (yields_either begin_read
    (yields_either commit
    (yields_either rollback
    (yields_either buckets
    (yields_either calendar select_rows))))))))))))))))

-- a whole statement
pub yields_statement : Yields rule.statement Holds
unfolding rule.statement
yields_statement =
    yields_then form (λ s a ha.
    yields_then (anything rule.semicolon) (λ _ b hb.
    yields_means s _ (record { whole = ha.whole; size = omega (arith, ha.size) })))
