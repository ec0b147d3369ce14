-- The answer of an aggregate's state at a position of its table, without reference to a history.
use Rattle.std.specs.Prelude.{◌≡◌, ℕ, not, cond, List, length, map, filter, Option, Some, IsSome, ℤ}
use Rattle.ts_bucket.specs.Chunks.{IsInterval}
use Rattle.ts_bucket.specs.Ranges.{AreRanges}
use Rattle.ts_bucket.specs.Spans.{bucket_span}
use Rattle.ts_bucket.specs.WholeSpans.{is_below}
use Rattle.ts_bucket.specs.declared.spans.Span.{Span}
use Rattle.ts_schema.specs.declared.rows.Row.{Row}
use Rattle.inval_log.specs.declared.entries.Entry.{Entry}
use Rattle.mat_log.specs.Feeding.{is_stale_with}
use Rattle.mat_rows.specs.Replacing.{within}
use Rattle.ts_model.specs.declared.queries.Answer.{Answer}
use Rattle.ts_model.specs.declared.tables.Hyper.{Hyper}
use Rattle.ts_model.specs.declared.views.ViewDef.{ViewDef}
use Rattle.ts_model.specs.History.{History}
use Rattle.ts_model.specs.declared.refreshes.Pending.TheVariants.{Waiting}
use Rattle.ts_model.specs.Pending.{pending}
use Rattle.ts_model.specs.Refreshes.{span_of_cut}
use Rattle.refresh_build.specs.declared.jobs.Refresh.{Refresh}
use Rattle.ts_model.specs.Roster.{roster, hyper_of, view_of}
use Rattle.ts_model.specs.Answers.{buckets_in}
use Rattle.ts_model.specs.Reads.{rows_inserted, rows_near}
use Rattle.ts_model.specs.Rows.{in_order, rows}
use Rattle.group_fold.specs.Spans.{HaveTimes}
use Rattle.realtime_union.specs.Laws.{ChunksAreNear}
use Rattle.realtime_union.specs.Live.{union_rows}
use Rattle.engine_state.specs.Scans.{seen_rows, stored_rows}
use Rattle.engine_state.specs.Tables.{TableStands, TableValue}
use Rattle.engine_state.specs.Views.{ViewStands, ViewValue}

-- the state of hypertable number t of a history, seen at the history's position: its rows are those of the history,
-- and as many stored rows are near these spans as were ever inserted
pub record IsTableOf (h : History) (t : ℕ) (position : ℕ) (table : TableValue) : Type 0 where
  pub hyper : Hyper
  pub hyper_is : hyper_of (roster h) t ≡ Some hyper
  pub stands : TableStands h t hyper table
  pub interval : IsInterval table.rows.interval
  pub times : HaveTimes (seen_rows position table)
  pub stored_times : HaveTimes (stored_rows table)
  pub near : ChunksAreNear table.rows.interval (stored_rows table)
  pub rows_are : in_order (seen_rows position table) ≡ rows t h
  pub reads_are : (spans : List Span)
      → rows_near table.rows.interval (stored_rows table) spans ≡ rows_near hyper.interval (rows_inserted t h) spans
  pub count_is : length (stored_rows table) ≡ length (rows_inserted t h)

-- the definition and the state of aggregate number n of a history, and the state of its table
pub record IsViewOf (h : History) (n : ℕ) (position : ℕ) (def : ViewDef) (view : ViewValue)
    (table : TableValue) : Type 0 where
  pub there : view_of (roster h) n ≡ Some def
  pub stands : ViewStands h n def table.log view
  pub table_is : IsTableOf h def.table position table

-- a refresh of a history with this number that was cut and isn't finished
pub record IsRefreshOf (h : History) (cut : ℕ) (refresh : Refresh) : Type 0 where
  pub waits : pending h cut ≡ Waiting refresh.view
  pub cut_is : refresh.cut ≡ cut
  pub span_is : span_of_cut refresh.view h cut ≡ Some refresh.span
  pub view_is : IsSome (view_of (roster h) refresh.view)

-- an answer shows the groups that an aggregate has of the requested buckets, with those of the rows at or above
-- its mark, and names the stale buckets below its mark
pub record IsShown (def : ViewDef) (view : ViewValue) (entries : List Entry) (starts : Span) (rows : List Row)
    (found : Answer) : Type 0 where
  pub rows_are : found.rows ≡ union_rows def (within starts view.groups) view.mark starts (in_order rows)
  pub stale_are : AreRanges def.fold.width starts (is_stale_with view.log entries view.mark) found.stale

-- the number of stored rows in chunks that meet a requested bucket at or above a mark, or 0 if the aggregate
-- shows only materialized rows
abbrev pub view_reads : ViewDef → Option ℤ → Span → TableValue → ℕ
view_reads def mark starts table =
    cond def.only 0
    (rows_near table.rows.interval (stored_rows table) (map (bucket_span def.fold.width) (filter (λ b. not (is_below b mark)) (buckets_in def.fold.width starts))))
