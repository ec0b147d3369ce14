-- The summary of a history: its events, the rows of its first table, and the answer of its first aggregate.
use Rattle.std.specs.Prelude.{ℕ, ◌-◌, ℤ, pos, List, [], map, length, Option, None, Some, slice_get}
use Rattle.ts_num.specs.Aggregates.{sum_of}
use Rattle.ts_num.specs.declared.values.Datum.{Datum}
use Rattle.ts_num.specs.declared.values.Datum.TheVariants.{Null, Int, Ratio}
use Rattle.ts_bucket.specs.Bucket.{first_of}
use Rattle.ts_bucket.specs.WholeSpans.{least, greatest}
use Rattle.ts_bucket.specs.declared.spans.Span.{Span}
use Rattle.ts_model.specs.Answers.{answer}
use Rattle.ts_model.specs.History.{History, position}
use Rattle.ts_model.specs.Roster.{roster, view_of}
use Rattle.ts_model.specs.Rows.{rows}
use Rattle.ts_model.specs.declared.queries.Query.{Query}
use Rattle.ts_model.specs.declared.queries.Query.TheVariants.{Rows, Aggregate}
use Rattle.ts_model.specs.declared.views.ViewDef.{ViewDef}
use Rattle.result_text.specs.declared.summaries.Summary.{Summary}

-- ---- questions

-- all rows of the first table
abbrev pub all_rows : Query
all_rows = Rows 0 []

-- every bucket of the first aggregate
abbrev pub every_start : Span
every_start = record { lo = least; hi = greatest }

-- every bucket that the first aggregate shows
abbrev pub all_buckets : Query
all_buckets = Aggregate 0 every_start

-- ---- answers

-- a value as a number, 0 if it isn't an integer
abbrev pub number_of : Option Datum → ℤ
number_of None = pos 0
number_of (Some Null) = pos 0
number_of (Some (Int n)) = n
number_of (Some (Ratio f)) = pos 0

-- the last value of a row
abbrev pub last_of : List Datum → Option Datum
last_of row = slice_get row (length row - 1)

-- the sum of the last column
abbrev pub total_of : List (List Datum) → ℤ
total_of rows = sum_of (map (λ row. number_of (last_of row)) rows)

-- ---- the sum

-- the start of the first bucket of an aggregate
abbrev pub first_start : Option ViewDef → ℤ
first_start None = pos 0
first_start (Some def) = first_of def.fold.width

-- the summary of a demonstration whose script has led to a history and read this many stored rows
abbrev pub summary_of : ℕ → History → ℕ → Summary
summary_of number h reads = record {
  number = number;
  events = position h;
  rows = length (rows 0 h);
  groups = length (answer all_buckets h).rows;
  total = total_of (answer all_buckets h).rows;
  stale = (answer all_buckets h).stale;
  min = first_start (view_of (roster h) 0);
  reads = reads;
}
