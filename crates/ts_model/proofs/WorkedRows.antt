-- Worked examples: small histories, and every cell, stale range, window and watermark of their answers,
-- computed from the definitions.
use Rattle.std.proofs.Common.{◌≡◌, ℕ, Bool, true, false, List, [], ◌∷◌, ℤ, pos, negsuc, Option, Some, None, refl}
use Rattle.std.specs.Prelude.{codes}
use Rattle.std.specs.List.{flat_map}
use Rattle.ts_num.specs.Fractions.{greatest_common}
use Rattle.ts_num.specs.declared.values.Datum.{Datum}
use Rattle.ts_num.specs.declared.values.Datum.TheVariants.{Null, Int, Ratio}
use Rattle.ts_num.specs.declared.values.Fun.TheVariants.{CountAll, Count, Sum, Max, Avg}
use Rattle.ts_bucket.specs.Bucket.{first_of}
use Rattle.ts_bucket.specs.declared.spans.Span.{Span}
use Rattle.ts_bucket.specs.declared.widths.Width.{Width}
use Rattle.ts_schema.specs.declared.rows.Row.{Row}
use Rattle.ts_schema.specs.declared.columns.Column.{Column}
use Rattle.ts_schema.specs.declared.conditions.Cmp.TheVariants.{Lt}
use Rattle.ts_model.specs.declared.events.Event.{Event}
use Rattle.ts_model.specs.declared.events.Event.TheVariants.{Table, Hyper, View, Mode, Commit, Cut, Built}
use Rattle.ts_model.specs.declared.events.Op.TheVariants.{Insert, Delete}
use Rattle.ts_model.specs.declared.queries.Query.TheVariants.{Buckets, Aggregate}
use Rattle.ts_model.specs.declared.refreshes.Pending.TheVariants.{Finished}
use Rattle.ts_model.specs.declared.refreshes.Window.TheVariants.{Whole, NoBucket, Nothing}
use Rattle.ts_model.specs.declared.views.Fold.{Fold}
use Rattle.ts_model.specs.declared.views.ViewDef.{ViewDef}
use Rattle.ts_model.specs.History.{History, start, ◌▸◌, prefix}
use Rattle.ts_model.specs.Rows.{rows}
use Rattle.ts_model.specs.Answers.{answer, numbers_from, shown}
use Rattle.ts_model.specs.Refreshes.{watermark, last, stale, threshold}
use Rattle.ts_model.specs.Allowed.{allowed, all_allowed}
use Rattle.ts_model.specs.Windows.{window}
use Rattle.ts_model.specs.Pending.{pending, waiting}
use Rattle.ts_model.specs.Bytes.{event_bytes}
use Rattle.ts_model.specs.Reads.{reads}
use Rattle.ts_model.specs.Calls.{commit_result}

-- ---- a table m with the columns time, dev and v, in chunks of 100, and an aggregate c that counts rows and sums v by tens

abbrev column : List ℕ → Bool → Column
column name must = record { name = name; must = must }

abbrev tens : Width
tens = record { step = pos 10; shift = pos 0 }

abbrev sums : ViewDef
sums = record {
  name = codes "c";
  table = 0;
  fold = record {
    width = tens;
    keys = [];
    aggs = record { fun = CountAll; col = 0 } ∷ record { fun = Sum; col = 2 } ∷ [];
    tests = [];
  };
  names = codes "b" ∷ codes "n" ∷ codes "s" ∷ [];
  only = false;
}

abbrev base : History
base = start ▸ Table (record { name = codes "m"; cols = column (codes "time") true ∷ column (codes "dev") false ∷ column (codes "v") false ∷ [] }) ▸ Hyper 0 (record { at = 0; interval = pos 100 }) ▸ View sums

abbrev row : ℕ → ℕ → ℕ → Row
row t dev v = record { at = pos t; vals = Some (pos dev) ∷ Some (pos v) ∷ [] }

abbrev inserted_rows : List Row → Event
inserted_rows rows = Commit (Insert 0 rows ∷ [])

abbrev span : ℕ → ℕ → Span
span lo hi = record { lo = pos lo; hi = pos hi }

-- a span from the first bucket on, which is printed as `min`
abbrev span_from_first : ℕ → Span
span_from_first hi = record { lo = negsuc 4611686018427387909; hi = pos hi }

abbrev cells : ℕ → ℕ → ℕ → List Datum
cells b n s = Int (pos b) ∷ Int (pos n) ∷ Int (pos s) ∷ []

first_bucket : first_of tens ≡ negsuc 4611686018427387909
first_bucket = refl

-- ---- NULLs, keys and functions

abbrev with_nulls : History
with_nulls = base ▸ inserted_rows (
    record { at = pos 1; vals = None ∷ None ∷ [] }
    ∷ record { at = pos 2; vals = None ∷ None ∷ [] }
    ∷ record { at = pos 3; vals = Some (pos 4) ∷ None ∷ [] }
    ∷ row 4 4 6
    ∷ []
    )

by_device : answer (Buckets 0 (record { width = tens; keys = 1 ∷ []; aggs = record { fun = CountAll; col = 0 } ∷ record { fun = Count; col = 2 } ∷ record { fun = Sum; col = 2 } ∷ []; tests = [] })) with_nulls
    ≡ record { rows = (Int (pos 0) ∷ Int (pos 4) ∷ Int (pos 2) ∷ Int (pos 1) ∷ Int (pos 6) ∷ []) ∷ (Int (pos 0) ∷ Null ∷ Int (pos 2) ∷ Int (pos 0) ∷ Null ∷ []) ∷ []; stale = [] }
by_device = refl

abbrev great_values : History
great_values = base ▸ inserted_rows (row 0 1 9223372036854775807 ∷ row 1 1 9223372036854775807 ∷ row 10 1 1 ∷ row 11 1 2 ∷ row 12 1 2 ∷ [])

-- a sum beyond 64 bits, and means in lowest terms
sums_and_means : answer (Buckets 0 (record { width = tens; keys = []; aggs = record { fun = Sum; col = 2 } ∷ record { fun = Avg; col = 2 } ∷ []; tests = [] })) great_values
    ≡ record { rows = (Int (pos 0) ∷ Int (pos 18446744073709551614) ∷ Ratio (record { num = pos 9223372036854775807; den = 1 }) ∷ []) ∷ (Int (pos 10) ∷ Int (pos 5) ∷ Ratio (record { num = pos 5; den = 3 }) ∷ []) ∷ []; stale = [] }
unfolding greatest_common
sums_and_means = refl

-- ---- windows

abbrev one_row : History
one_row = base ▸ inserted_rows (row 15 1 1 ∷ [])

inscribed_window : window 0 sums one_row (Some (pos 3)) (Some (pos 27)) ≡ Whole (span 10 20)
inscribed_window = refl

narrow_window : window 0 sums one_row (Some (pos 3)) (Some (pos 9)) ≡ NoBucket
narrow_window = refl

empty_window : window 0 sums one_row (Some (pos 20)) (Some (pos 10)) ≡ NoBucket
empty_window = refl

-- ---- a refresh of a window, and rows outside it

abbrev refreshed : History
refreshed = base ▸ inserted_rows (row 50 1 5 ∷ row 120 1 7 ∷ row 250 1 9 ∷ []) ▸ Cut 0 (span 100 200) ▸ Built 5 5

refreshed_allowed : all_allowed refreshed ≡ true
refreshed_allowed = refl

refreshed_watermark : watermark 0 sums refreshed ≡ Some (pos 130)
refreshed_watermark = refl

refreshed_answer : answer (Aggregate 0 (span 0 300)) refreshed ≡ record { rows = cells 120 1 7 ∷ cells 250 1 9 ∷ []; stale = span 0 100 ∷ [] }
unfolding numbers_from
refreshed_answer = refl

-- the two chunks from 100 to 300 meet a bucket at or above the watermark, and hold two rows
refreshed_reads : reads (Aggregate 0 (span 0 300)) refreshed ≡ 2
unfolding numbers_from
refreshed_reads = refl

materialized_only : answer (Aggregate 0 (span 0 300)) (refreshed ▸ Mode 0 true) ≡ record { rows = cells 120 1 7 ∷ []; stale = span 0 100 ∷ [] }
unfolding numbers_from
materialized_only = refl

materialized_only_reads : reads (Aggregate 0 (span 0 300)) (refreshed ▸ Mode 0 true) ≡ 0
unfolding numbers_from
materialized_only_reads = refl

-- ---- late rows

abbrev late : History
late = refreshed ▸ inserted_rows (row 121 1 1 ∷ [])

-- the late row isn't shown, and its bucket is stale
late_answer : answer (Aggregate 0 (span 0 300)) late ≡ record { rows = cells 120 1 7 ∷ cells 250 1 9 ∷ []; stale = span 0 100 ∷ span 120 130 ∷ [] }
unfolding numbers_from
late_answer = refl

abbrev later_row : History
later_row = late ▸ inserted_rows (row 150 2 4 ∷ [])

-- a row above the watermark is shown, and its bucket isn't stale
later_row_answer : answer (Aggregate 0 (span 0 300)) later_row ≡ record { rows = cells 120 1 7 ∷ cells 150 1 4 ∷ cells 250 1 9 ∷ []; stale = span 0 100 ∷ span 120 130 ∷ [] }
unfolding numbers_from
later_row_answer = refl

abbrev refreshed_above : History
refreshed_above = later_row ▸ Cut 0 (span 200 300) ▸ Built 9 9

refreshed_above_allowed : all_allowed refreshed_above ≡ true
refreshed_above_allowed = refl

-- the watermark is the end of the last bucket with a row, not that of the window
refreshed_above_watermark : watermark 0 sums refreshed_above ≡ Some (pos 260)
refreshed_above_watermark = refl

refreshed_above_answer : answer (Aggregate 0 (span 0 300)) refreshed_above ≡ record { rows = cells 120 1 7 ∷ cells 250 1 9 ∷ []; stale = span 0 100 ∷ span 120 130 ∷ span 150 160 ∷ [] }
unfolding numbers_from
refreshed_above_answer = refl

-- ---- a commit between the snapshot of a refresh and its finish

abbrev crossed : History
crossed = late ▸ Cut 0 (span 100 200) ▸ inserted_rows (row 122 1 10 ∷ []) ▸ Built 8 8

crossed_allowed : all_allowed crossed ≡ true
crossed_allowed = refl

crossed_answer : answer (Aggregate 0 (span 100 200)) crossed ≡ record { rows = cells 120 2 8 ∷ []; stale = span 120 130 ∷ [] }
unfolding numbers_from
crossed_answer = refl

crossed_again_answer : answer (Aggregate 0 (span 100 200)) (crossed ▸ Cut 0 (span 100 200) ▸ Built 11 11) ≡ record { rows = cells 120 3 18 ∷ []; stale = [] }
unfolding numbers_from
crossed_again_answer = refl

-- ---- two refreshes of the same buckets: the one with the later snapshot wins, though it finishes first

abbrev overlapping : History
overlapping = base ▸ inserted_rows (row 120 1 7 ∷ []) ▸ Cut 0 (span 100 200) ▸ inserted_rows (row 121 1 1 ∷ []) ▸ Cut 0 (span 100 200) ▸ Built 7 7 ▸ Built 5 5

overlapping_allowed : all_allowed overlapping ≡ true
overlapping_allowed = refl

overlapping_last : last 0 overlapping (pos 120) ≡ Some 7
overlapping_last = refl

overlapping_answer : answer (Aggregate 0 (span 100 300)) overlapping ≡ record { rows = cells 120 2 8 ∷ []; stale = [] }
unfolding numbers_from
overlapping_answer = refl

-- ---- one snapshot, while others commit and refresh

abbrev doubled : History
doubled = base ▸ inserted_rows (row 110 1 1 ∷ row 190 1 2 ∷ []) ▸ Cut 0 (span 100 200) ▸ Built 5 5 ▸ inserted_rows (row 110 1 1 ∷ row 190 1 2 ∷ [])

abbrev doubled_later : History
doubled_later = doubled ▸ Cut 0 (span 100 200) ▸ Built 8 8

-- a commit touches each bucket between its least and its greatest time
doubled_answer : answer (Aggregate 0 (span 100 300)) doubled ≡ record { rows = cells 110 1 1 ∷ cells 190 1 2 ∷ []; stale = span 110 200 ∷ [] }
unfolding numbers_from
doubled_answer = refl

doubled_snapshot : answer (Aggregate 0 (span 100 300)) (prefix doubled_later 7) ≡ record { rows = cells 110 1 1 ∷ cells 190 1 2 ∷ []; stale = span 110 200 ∷ [] }
unfolding numbers_from
doubled_snapshot = refl

doubled_later_answer : answer (Aggregate 0 (span 100 300)) doubled_later ≡ record { rows = cells 110 2 2 ∷ cells 190 2 4 ∷ []; stale = [] }
unfolding numbers_from
doubled_later_answer = refl

-- ---- dropped chunks

abbrev three_rows : History
three_rows = base ▸ inserted_rows (row 50 1 5 ∷ row 150 1 6 ∷ row 220 1 7 ∷ [])

all_buckets : window 0 sums three_rows None None ≡ Whole (span_from_first 230)
all_buckets = refl

abbrev dropped_event : Event
dropped_event = Commit (Delete 0 (record { col = 0; cmp = Lt; num = pos 200 } ∷ []) ∷ [])

abbrev before_drop : History
before_drop = three_rows ▸ Cut 0 (span_from_first 230) ▸ Built 5 5

abbrev dropped : History
dropped = before_drop ▸ dropped_event

drop_effect : commit_result (Delete 0 (record { col = 0; cmp = Lt; num = pos 200 } ∷ []) ∷ []) before_drop ≡ record { pos = 7; inserted = 0; removed = 2 }
drop_effect = refl

drop_again_effect : commit_result (Delete 0 (record { col = 0; cmp = Lt; num = pos 200 } ∷ []) ∷ []) dropped ≡ record { pos = 8; inserted = 0; removed = 0 }
drop_again_effect = refl

-- the aggregate keeps what was refreshed, and reports it stale
dropped_answer : answer (Aggregate 0 (span 0 300)) dropped ≡ record { rows = cells 50 1 5 ∷ cells 150 1 6 ∷ cells 220 1 7 ∷ []; stale = span 50 160 ∷ [] }
unfolding numbers_from
dropped_answer = refl

abbrev dropped_refreshed : History
dropped_refreshed = dropped ▸ dropped_event ▸ Cut 0 (span 0 200) ▸ Built 9 9

dropped_refreshed_allowed : all_allowed dropped_refreshed ≡ true
dropped_refreshed_allowed = refl

dropped_refreshed_answer : answer (Aggregate 0 (span 0 300)) dropped_refreshed ≡ record { rows = cells 220 1 7 ∷ []; stale = [] }
unfolding numbers_from
dropped_refreshed_answer = refl

-- ---- pending refreshes

nothing_to_refresh : window 0 sums base None None ≡ Nothing
nothing_to_refresh = refl

abbrev cut_only : History
cut_only = base ▸ inserted_rows (row 120 1 7 ∷ []) ▸ Cut 0 (span_from_first 130)

window_of_all : window 0 sums (base ▸ inserted_rows (row 120 1 7 ∷ [])) None None ≡ Whole (span_from_first 130)
window_of_all = refl

cut_waits : waiting cut_only ≡ record { cut = 5; view = 0; span = span_from_first 130 } ∷ []
cut_waits = refl

cut_is_finished : pending (cut_only ▸ Built 5 5) 5 ≡ Finished 6
cut_is_finished = refl

cut_threshold : threshold 0 cut_only ≡ Some (pos 130)
cut_threshold = refl

-- ---- a day in seconds: an hourly mean and maximum by device

abbrev hours : Fold
hours = record {
  width = record { step = pos 3600; shift = pos 0 };
  keys = 1 ∷ [];
  aggs = record { fun = Avg; col = 2 } ∷ record { fun = Max; col = 2 } ∷ [];
  tests = [];
}

abbrev hourly : ViewDef
hourly = record { name = codes "hourly"; table = 0; fold = hours; names = codes "bucket" ∷ codes "device" ∷ codes "avg" ∷ codes "max" ∷ []; only = false }

abbrev morning : History
morning = start ▸ Table (record { name = codes "conditions"; cols = column (codes "time") true ∷ column (codes "device") false ∷ column (codes "temp") false ∷ [] }) ▸ Hyper 0 (record { at = 0; interval = pos 86400 }) ▸ inserted_rows (row 1704067200 1 20 ∷ row 1704070800 1 22 ∷ row 1704070860 2 19 ∷ []) ▸ View hourly

-- the span of the refresh that fills the new aggregate
fills_the_morning : window 0 hourly morning None None ≡ Whole (record { lo = first_of hours.width; hi = pos 1704074400 })
fills_the_morning = refl

abbrev next_day : History
next_day = morning ▸ Cut 0 (record { lo = first_of hours.width; hi = pos 1704074400 }) ▸ Built 5 5 ▸ inserted_rows (row 1704153600 1 18 ∷ []) ▸ inserted_rows (row 1704067260 1 24 ∷ [])

abbrev hour : ℕ → ℕ → ℕ → ℕ → List Datum
hour b device mean most = Int (pos b) ∷ Int (pos device) ∷ Ratio (record { num = pos mean; den = 1 }) ∷ Int (pos most) ∷ []

abbrev three_hours : List ℤ
three_hours = pos 1704067200 ∷ pos 1704070800 ∷ pos 1704153600 ∷ []

next_day_shown : flat_map (shown 0 hourly next_day) three_hours ≡ hour 1704067200 1 20 20 ∷ hour 1704070800 1 22 22 ∷ hour 1704070800 2 19 19 ∷ hour 1704153600 1 18 18 ∷ []
unfolding greatest_common
next_day_shown = refl

next_day_stale : (stale 0 hourly next_day (pos 1704067200) ≡ true) × (stale 0 hourly next_day (pos 1704070800) ≡ false) × (stale 0 hourly next_day (pos 1704153600) ≡ false)
next_day_stale = (refl, refl, refl)

abbrev caught_up : History
caught_up = next_day ▸ Cut 0 (span 1704067200 1704153600) ▸ Built 9 9

caught_up_allowed : all_allowed caught_up ≡ true
caught_up_allowed = refl

caught_up_shown : flat_map (shown 0 hourly caught_up) three_hours ≡ hour 1704067200 1 22 24 ∷ hour 1704070800 1 22 22 ∷ hour 1704070800 2 19 19 ∷ hour 1704153600 1 18 18 ∷ []
unfolding greatest_common
caught_up_shown = refl

caught_up_stale : (stale 0 hourly caught_up (pos 1704067200) ≡ false) × (stale 0 hourly caught_up (pos 1704070800) ≡ false) × (stale 0 hourly caught_up (pos 1704153600) ≡ false)
caught_up_stale = (refl, refl, refl)

-- ---- events that are not allowed

abbrev tables_only : History
tables_only = start ▸ Table (record { name = codes "m"; cols = column (codes "time") true ∷ column (codes "v") true ∷ [] }) ▸ Hyper 0 (record { at = 0; interval = pos 100 })

-- the aggregate of the name, and the width of its buckets
abbrev counts : List ℕ → Width → Event
counts name width = View (record {
  name = name;
  table = 0;
  fold = record { width = width; keys = []; aggs = record { fun = CountAll; col = 0 } ∷ []; tests = [] };
  names = codes "b" ∷ codes "n" ∷ [];
  only = false;
})

width_of_one : allowed tables_only (counts (codes "c") (record { step = pos 1; shift = pos 0 })) ≡ true
width_of_one = refl

width_of_zero : allowed tables_only (counts (codes "c") (record { step = pos 0; shift = pos 0 })) ≡ false
width_of_zero = refl

shift_of_a_step : allowed tables_only (counts (codes "c") (record { step = pos 10; shift = pos 10 })) ≡ false
shift_of_a_step = refl

name_in_upper_case : allowed tables_only (counts (codes "C") tens) ≡ false
name_in_upper_case = refl

-- one row of the column v
abbrev value : Option ℤ → Event
value v = inserted_rows (record { at = pos 1; vals = v ∷ [] } ∷ [])

greatest_value : allowed tables_only (value (Some (pos 9223372036854775807))) ≡ true
greatest_value = refl

value_beyond : allowed tables_only (value (Some (pos 9223372036854775808))) ≡ false
value_beyond = refl

null_that_must_not_be : allowed tables_only (value None) ≡ false
null_that_must_not_be = refl

test_beyond : allowed tables_only (Commit (Delete 0 (record { col = 1; cmp = Lt; num = pos 9223372036854775808 } ∷ []) ∷ [])) ≡ false
test_beyond = refl

-- the snapshot of a finish is from its cut on, and not after the history
snapshot_before_cut : allowed cut_only (Built 5 4) ≡ false
snapshot_before_cut = refl

snapshot_after_history : allowed cut_only (Built 5 6) ≡ false
snapshot_after_history = refl

finished_twice : allowed (cut_only ▸ Built 5 5) (Built 5 6) ≡ false
finished_twice = refl

-- ---- the bytes of an event in a journal

table_bytes : event_bytes (Table (record { name = codes "m"; cols = column (codes "time") true ∷ column (codes "v") false ∷ [] })) ≡ 13
table_bytes = refl
