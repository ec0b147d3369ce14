-- Answers: what a query shows at a history.
use Rattle.std.specs.Prelude.{ℕ, zero, suc, Bool, ◌&&◌, cond, nat_lt, List, [], ◌∷◌, map, filter, flat_map, insert, length, ℤ, pos, negsuc, ◌+ℤ◌, ◌-ℤ◌, int_le, Option, Some, None, is_some}
use Rattle.std.specs.List.{list_all}
use Rattle.std.specs.Ordering.{int_eq}
use Rattle.ts_num.specs.Aggregates.{shown_or_null}
use Rattle.ts_num.specs.declared.values.Datum.{Datum}
use Rattle.ts_bucket.specs.Bucket.{is_bucket, first_of}
use Rattle.ts_bucket.specs.declared.spans.Span.{Span}
use Rattle.ts_bucket.specs.declared.widths.Width.{Width}
use Rattle.ts_schema.specs.declared.rows.Row.{Row}
use Rattle.ts_schema.specs.declared.conditions.Test.{Test}
use Rattle.ts_schema.specs.Conditions.{passes_all}
use Rattle.ts_model.specs.declared.events.Event.TheVariants.{Commit}
use Rattle.ts_model.specs.declared.events.Op.{Op}
use Rattle.ts_model.specs.declared.queries.Query.{Query}
use Rattle.ts_model.specs.declared.queries.Query.TheVariants.{Rows, Buckets, Aggregate}
use Rattle.ts_model.specs.declared.queries.Answer.{Answer}
use Rattle.ts_model.specs.declared.rosters.Roster.{Roster}
use Rattle.ts_model.specs.declared.tables.Hyper.{Hyper}
use Rattle.ts_model.specs.declared.views.Fold.{Fold}
use Rattle.ts_model.specs.declared.views.ViewDef.{ViewDef}
use Rattle.ts_model.specs.History.{History, ◌▸◌}
use Rattle.ts_model.specs.Roster.{roster, table_of, hyper_of, of_table, view_of}
use Rattle.ts_model.specs.Rows.{rows}
use Rattle.ts_model.specs.Scratch.{scratch, fold_rows}
use Rattle.ts_model.specs.Groups.{scratch_at}
use Rattle.ts_model.specs.Refreshes.{last, watermark, stale}
use Rattle.ts_bucket.specs.WholeSpans.{is_below}

-- the next n numbers from a number on
unfoldable pub numbers_from : ℤ → ℕ → List ℤ
numbers_from t zero = []
numbers_from t (suc n) = t ∷ numbers_from (t +ℤ pos 1) n

-- a number that is negative counts as 0
abbrev pub count_of : ℤ → ℕ
count_of (pos n) = n
count_of (negsuc n) = 0

-- the numbers of a span, in order
abbrev pub numbers_in : Span → List ℤ
numbers_in span = numbers_from span.lo (count_of (span.hi -ℤ span.lo))

-- the buckets from the first on whose starts lie in a span, in order
abbrev pub buckets_in : Width → Span → List ℤ
buckets_in w starts = filter (λ b. is_bucket w b && int_le (first_of w) b) (numbers_in starts)

-- what the last refresh of a bucket stored: its aggregation at that refresh's snapshot, or no row
abbrev pub left_by : ℕ → ViewDef → History → ℤ → Option ℕ → List (List Datum)
left_by n def h b None = []
left_by n def h b (Some s) = scratch_at n def h s b

-- what an aggregate shows of a bucket: if it is stale, what its last refresh stored; otherwise the aggregation
-- from scratch. It shows nothing at or above the watermark if it shows materialized rows only
abbrev pub shown : ℕ → ViewDef → History → ℤ → List (List Datum)
shown n def h b =
    cond (stale n def h b) (left_by n def h b (last n h b))
    (cond (is_below b (watermark n def h)) (scratch def h b)
    (cond def.only [] (scratch def h b)))

-- ranges of buckets, with one more bucket directly before them
abbrev pub with_bucket : Width → ℤ → List Span → List Span
with_bucket w b [] = record { lo = b; hi = b +ℤ w.step } ∷ []
with_bucket w b (s ∷ ss) =
    cond (int_eq (b +ℤ w.step) s.lo) (record { lo = b; hi = s.hi } ∷ ss) (record { lo = b; hi = b +ℤ w.step } ∷ s ∷ ss)

-- the buckets that pass a test, as ranges: adjacent buckets are in one range
abbrev pub ranges : Width → (ℤ → Bool) → List ℤ → List Span
ranges w test [] = []
ranges w test (b ∷ bs) = cond (test b) (with_bucket w b (ranges w test bs)) (ranges w test bs)

-- no row, and nothing stale
abbrev pub nothing_shown : Answer
nothing_shown = record { rows = []; stale = [] }

-- what an aggregate answers of the buckets that start in a span
abbrev pub answer_of_view : ℕ → History → Span → Option ViewDef → Answer
answer_of_view n h starts None = nothing_shown
answer_of_view n h starts (Some def) = record {
  rows = flat_map (shown n def h) (buckets_in def.fold.width starts);
  stale = ranges def.fold.width (stale n def h) (buckets_in def.fold.width starts);
}

-- a row with all its columns in declared order, if the time column is at this place
abbrev pub all_columns : ℕ → Row → List Datum
all_columns at row = map shown_or_null (insert row.vals at (Some row.at))

-- the rows of a hypertable that pass every test, in order, with all their columns
abbrev pub passing_rows : List Row → List Test → Option Hyper → List (List Datum)
passing_rows found tests None = []
passing_rows found tests (Some hyper) = map (all_columns hyper.at) (filter (λ row. passes_all row tests) found)

-- what a query shows at a history
abbrev pub answer : Query → History → Answer
answer (Rows t tests) h = record { rows = passing_rows (rows t h) tests (hyper_of (roster h) t); stale = [] }
answer (Buckets t fold) h = record { rows = fold_rows fold (rows t h); stale = [] }
answer (Aggregate n starts) h = answer_of_view n h starts (view_of (roster h) n)

-- a history with a queue of operations as one commit on top, if there are any
abbrev pub with_queue : List Op → History → History
with_queue [] h = h
with_queue (op ∷ ops) h = h ▸ Commit (op ∷ ops)

-- ---- what may be asked

-- the keys, the aggregates and the tests of a fold are on the first n columns
abbrev pub columns_are_there : ℕ → Fold → Bool
columns_are_there n fold =
    list_all (λ k. nat_lt k n) fold.keys && list_all (λ agg. nat_lt agg.col n) fold.aggs
    && list_all (λ t. nat_lt t.col n) fold.tests

-- the hypertable or the aggregate of a query exists, and so do the columns that it names
abbrev pub can_ask : Roster → Query → Bool
can_ask r (Rows t tests) =
    of_table (λ def hyper. list_all (λ test. nat_lt test.col (length def.cols)) tests) (table_of r t)
can_ask r (Buckets t fold) = of_table (λ def hyper. columns_are_there (length def.cols) fold) (table_of r t)
can_ask r (Aggregate n starts) = is_some (view_of r n)
