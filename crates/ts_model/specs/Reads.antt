-- Reads: how many stored rows an answer or a snapshot of a refresh reads.
use Rattle.std.specs.Prelude.{ℕ, Bool, ◌&&◌, cond, not, List, [], ◌∷◌, ◌++◌, map, length, filter, count_by, sum_by, ℤ, int_le, int_lt, Option, Some, None}
use Rattle.std.specs.List.{list_any}
use Rattle.std.specs.Int.{int_min, int_max}
use Rattle.ts_bucket.specs.Chunks.{chunk_of}
use Rattle.ts_bucket.specs.Spans.{bucket_span}
use Rattle.ts_bucket.specs.declared.spans.Span.{Span}
use Rattle.ts_schema.specs.declared.rows.Row.{Row}
use Rattle.ts_model.specs.declared.events.Event.TheVariants.{Commit}
use Rattle.ts_model.specs.declared.queries.Query.{Query}
use Rattle.ts_model.specs.declared.queries.Query.TheVariants.{Rows, Buckets, Aggregate}
use Rattle.ts_model.specs.declared.tables.Hyper.{Hyper as HyperInfo}
use Rattle.ts_model.specs.declared.views.ViewDef.{ViewDef}
use Rattle.ts_model.specs.History.{History, start, resumed, ◌▸◌}
use Rattle.ts_model.specs.Roster.{roster, hyper_of, view_of}
use Rattle.ts_model.specs.Saved.{all_appended, appended_over}
use Rattle.ts_model.specs.Refreshes.{watermark, invalid, span_of_cut}
use Rattle.ts_bucket.specs.WholeSpans.{is_below}
use Rattle.ts_model.specs.Answers.{buckets_in, ranges}
use Rattle.ts_model.specs.Pending.{pending}
use Rattle.ts_model.specs.declared.refreshes.Pending.{Pending}
use Rattle.ts_model.specs.declared.refreshes.Pending.TheVariants.{Waiting}

-- the rows that were ever inserted into table t, whether removed later or not
abbrev pub rows_inserted : ℕ → History → List Row
rows_inserted t start = []
rows_inserted t (resumed i) = appended_over t i.rows
rows_inserted t (h ▸ Commit ops) = rows_inserted t h ++ all_appended t ops
rows_inserted t (h ▸ e) = rows_inserted t h

-- two spans have a number in common
abbrev pub spans_meet : Span → Span → Bool
spans_meet a b = int_lt a.lo b.hi && int_lt b.lo a.hi && int_lt a.lo a.hi && int_lt b.lo b.hi

-- the part of a span between two bounds
abbrev pub clip : ℤ → ℤ → Span → Span
clip low high span = record { lo = int_max low span.lo; hi = int_min high span.hi }

-- the chunk of a row lies between two bounds
abbrev pub chunk_within : ℤ → ℤ → ℤ → Row → Bool
chunk_within low high interval row =
    int_le low (chunk_of interval row.at).lo && int_le (chunk_of interval row.at).hi high

-- how many of these rows are in chunks that meet one of these spans, each row once
abbrev pub rows_near : ℤ → List Row → List Span → ℕ
rows_near interval stored spans = count_by (λ row. list_any (spans_meet (chunk_of interval row.at)) spans) stored

-- the same for a table, which has chunks if it is a hypertable
abbrev pub rows_near_in : Option HyperInfo → List Row → List Span → ℕ
rows_near_in None stored spans = 0
rows_near_in (Some hyper) stored spans = rows_near hyper.interval stored spans

-- the buckets that start in a span and are at or above the watermark
abbrev pub live_buckets : ℕ → ViewDef → History → Span → List ℤ
live_buckets n def h starts = filter (λ b. not (is_below b (watermark n def h))) (buckets_in def.fold.width starts)

-- the reads of an aggregate: the rows in chunks that meet a requested bucket at or above the watermark, and none if it
-- shows materialized rows only
abbrev pub reads_of_view : ℕ → History → Span → Option ViewDef → ℕ
reads_of_view n h starts None = 0
reads_of_view n h starts (Some def) =
    cond def.only 0
    (rows_near_in (hyper_of (roster h) def.table) (rows_inserted def.table h) (map (bucket_span def.fold.width) (live_buckets n def h starts)))

-- the reads of a query; one on a hypertable reads all its rows
abbrev pub reads : Query → History → ℕ
reads (Rows t tests) h = length (rows_inserted t h)
reads (Buckets t fold) h = length (rows_inserted t h)
reads (Aggregate n starts) h = reads_of_view n h starts (view_of (roster h) n)

-- the invalid buckets of a span, as ranges
abbrev pub dirty_ranges : ℕ → ViewDef → History → Span → List Span
dirty_ranges n def h span = ranges def.fold.width (invalid n def h) (buckets_in def.fold.width span)

-- the reads of a snapshot for a refresh: for each range of invalid buckets of its span, the rows in chunks that meet
-- the range
abbrev pub reads_of_snapshot : ℕ → History → Option ViewDef → Option Span → ℕ
reads_of_snapshot n h None span = 0
reads_of_snapshot n h (Some def) None = 0
reads_of_snapshot n h (Some def) (Some span) =
    sum_by (λ range. rows_near_in (hyper_of (roster h) def.table) (rows_inserted def.table h) (range ∷ []))
    (dirty_ranges n def h span)

-- the same, for the refresh with a number, which is that of its cut
abbrev pub job_reads_of : History → ℕ → Pending → ℕ
job_reads_of h cut (Waiting n) = reads_of_snapshot n h (view_of (roster h) n) (span_of_cut n h cut)
job_reads_of h cut p = 0

abbrev pub job_reads : History → ℕ → ℕ
job_reads h cut = job_reads_of h cut (pending h cut)
