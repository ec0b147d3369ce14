-- Worked examples of images: the image of a small history, answers over it, and one invalid image for each
-- reason.
use Rattle.std.proofs.Common.{◌≡◌, ℕ, Bool, true, false, List, [], ◌∷◌, ℤ, pos, negsuc, Option, Some, None, refl}
use Rattle.std.specs.Prelude.{codes, map}
use Rattle.std.specs.List.{flat_map}
use Rattle.ts_num.specs.Fractions.{greatest_common}
use Rattle.ts_num.specs.declared.values.Datum.{Datum}
use Rattle.ts_num.specs.declared.values.Datum.TheVariants.{Null, Int, Ratio}
use Rattle.ts_num.specs.declared.values.Fun.TheVariants.{CountAll, Count, Sum, Max, Avg}
use Rattle.ts_bucket.specs.Bucket.{first_of}
use Rattle.ts_bucket.specs.declared.spans.Span.{Span}
use Rattle.ts_bucket.specs.declared.widths.Width.{Width}
use Rattle.ts_schema.specs.declared.rows.Row.{Row}
use Rattle.ts_schema.specs.declared.columns.Column.{Column}
use Rattle.ts_schema.specs.declared.conditions.Cmp.TheVariants.{Lt}
use Rattle.ts_model.specs.declared.events.Event.{Event}
use Rattle.ts_model.specs.declared.events.Event.TheVariants.{Table, Hyper, View, Mode, Commit, Cut, Built}
use Rattle.ts_model.specs.declared.events.Op.TheVariants.{Insert, Delete}
use Rattle.ts_model.specs.declared.queries.Query.TheVariants.{Buckets, Aggregate}
use Rattle.ts_model.specs.declared.refreshes.Pending.TheVariants.{Finished}
use Rattle.ts_model.specs.declared.refreshes.Waiting.{Waiting as WaitingRefresh}
use Rattle.ts_model.specs.declared.refreshes.Window.TheVariants.{Whole, NoBucket, Nothing}
use Rattle.ts_model.specs.declared.views.Fold.{Fold}
use Rattle.ts_model.specs.declared.views.ViewDef.{ViewDef}
use Rattle.ts_model.specs.History.{History, start, ◌▸◌, prefix}
use Rattle.ts_model.specs.Rows.{rows}
use Rattle.ts_model.specs.Answers.{answer, numbers_from, shown}
use Rattle.ts_model.specs.Refreshes.{watermark, last, stale, threshold}
use Rattle.ts_model.specs.Allowed.{allowed, all_allowed}
use Rattle.ts_model.specs.Windows.{window}
use Rattle.ts_model.specs.Pending.{pending, waiting}
use Rattle.ts_model.specs.Bytes.{event_bytes}
use Rattle.ts_model.specs.Reads.{reads}
use Rattle.ts_model.specs.Calls.{commit_result}
use Rattle.ts_model.specs.declared.images.Finished.{Finished as FinishedRefresh}
use Rattle.ts_model.specs.declared.images.Image.{Image}
use Rattle.ts_model.specs.declared.images.SavedGroup.{SavedGroup}
use Rattle.ts_model.specs.declared.images.SavedLast.{SavedLast}
use Rattle.ts_model.specs.declared.images.SavedView.{SavedView}
use Rattle.ts_model.specs.declared.images.Sums.{Sums}
use Rattle.ts_model.specs.History.{resumed}
use Rattle.ts_model.specs.Roster.{roster}
use Rattle.ts_model.specs.Calls.{refuses, setting_mode, act_of_cut}
use Rattle.ts_model.specs.Valid.{valid}
use Rattle.image_laws.specs.Images.{roster_events, row_events, finished_upto}
use Rattle.ts_model.specs.Groups.{groups_at}

abbrev column : List ℕ → Bool → Column
column name must = record { name = name; must = must }

abbrev tens : Width
tens = record { step = pos 10; shift = pos 0 }

abbrev sums : ViewDef
sums = record {
  name = codes "c";
  table = 0;
  fold = record {
    width = tens;
    keys = [];
    aggs = record { fun = CountAll; col = 0 } ∷ record { fun = Sum; col = 2 } ∷ [];
    tests = [];
  };
  names = codes "b" ∷ codes "n" ∷ codes "s" ∷ [];
  only = false;
}

abbrev base : History
base = start ▸ Table (record { name = codes "m"; cols = column (codes "time") true ∷ column (codes "dev") false ∷ column (codes "v") false ∷ [] }) ▸ Hyper 0 (record { at = 0; interval = pos 100 }) ▸ View sums

abbrev row : ℕ → ℕ → ℕ → Row
row t dev v = record { at = pos t; vals = Some (pos dev) ∷ Some (pos v) ∷ [] }

abbrev inserted_rows : List Row → Event
inserted_rows rows = Commit (Insert 0 rows ∷ [])

abbrev span : ℕ → ℕ → Span
span lo hi = record { lo = pos lo; hi = pos hi }

-- a span from the first bucket on, which is printed as `min`
abbrev span_from_first : ℕ → Span
span_from_first hi = record { lo = negsuc 4611686018427387909; hi = pos hi }

abbrev cells : ℕ → ℕ → ℕ → List Datum
cells b n s = Int (pos b) ∷ Int (pos n) ∷ Int (pos s) ∷ []

abbrev refreshed : History
refreshed = base ▸ inserted_rows (row 50 1 5 ∷ row 120 1 7 ∷ row 250 1 9 ∷ []) ▸ Cut 0 (span 100 200) ▸ Built 5 5

abbrev late : History
late = refreshed ▸ inserted_rows (row 121 1 1 ∷ [])

abbrev crossed : History
crossed = late ▸ Cut 0 (span 100 200) ▸ inserted_rows (row 122 1 10 ∷ []) ▸ Built 8 8

-- ---- its image

abbrev parts : Sums
parts = record { count = 2; values = 2; sum = pos 241; least = Some (pos 120); most = Some (pos 121) }

abbrev kept : SavedView
kept = record {
  lasts = record { span = span 100 200; pos = 8 } ∷ [];
  dirty = span 120 130 ∷ [];
  groups = record { start = pos 120; keys = []; parts = parts ∷ record { count = 2; values = 2; sum = pos 8; least = Some (pos 1); most = Some (pos 7) } ∷ [] } ∷ [];
  mark = Some (pos 130);
}

abbrev image_with : SavedView → Image
image_with v = record {
  pos = 10;
  roster = Table (record { name = codes "m"; cols = column (codes "time") true ∷ column (codes "dev") false ∷ column (codes "v") false ∷ [] }) ∷ Hyper 0 (record { at = 0; interval = pos 100 }) ∷ View sums ∷ [];
  rows = inserted_rows (row 50 1 5 ∷ row 120 1 7 ∷ row 121 1 1 ∷ row 122 1 10 ∷ row 250 1 9 ∷ []) ∷ [];
  views = v ∷ [];
  waiting = [];
  done = record { cut = 5; built = 6 } ∷ record { cut = 8; built = 10 } ∷ [];
}

abbrev image : Image
image = image_with kept

image_valid : valid image ≡ true
unfolding numbers_from
image_valid = refl

image_roster : image.roster ≡ roster_events (roster crossed)
image_roster = refl

image_rows : image.rows ≡ row_events crossed 0 1
image_rows = refl

image_done : image.done ≡ finished_upto crossed 10
image_done = refl

image_mark : kept.mark ≡ watermark 0 sums crossed
image_mark = refl

image_last : last 0 (resumed image) (pos 120) ≡ last 0 crossed (pos 120)
image_last = refl

image_groups : groups_at 0 sums (resumed image) 8 (pos 120) ≡ groups_at 0 sums crossed 8 (pos 120)
image_groups = refl

image_answer : answer (Aggregate 0 (span 100 200)) (resumed image) ≡ record { rows = cells 120 2 8 ∷ []; stale = span 120 130 ∷ [] }
unfolding numbers_from
image_answer = refl

after_commit : answer (Aggregate 0 (span 100 200)) (resumed image ▸ inserted_rows (row 300 1 2 ∷ [])) ≡ record { rows = cells 120 2 8 ∷ []; stale = span 120 130 ∷ [] }
unfolding numbers_from
after_commit = refl

abbrev caught_up : History
caught_up = resumed image ▸ inserted_rows (row 300 1 2 ∷ []) ▸ Cut 0 (span 100 200) ▸ Built 12 12

caught_up_allowed : all_allowed caught_up ≡ true
unfolding numbers_from
caught_up_allowed = refl

caught_up_answer : answer (Aggregate 0 (span 100 200)) caught_up ≡ record { rows = cells 120 3 18 ∷ []; stale = [] }
unfolding numbers_from
caught_up_answer = refl

finished_before : pending (resumed image) 8 ≡ Finished 10
finished_before = refl

-- a snapshot below the image
below_image : allowed (resumed image ▸ Cut 0 (span 100 200)) (Built 11 9) ≡ false
below_image = refl

image_threshold : threshold 0 (resumed image) ≡ Some (pos 200)
image_threshold = refl

-- ---- images that are not valid

-- a saved group in a bucket that isn't dirty
group_in_clean : valid (image_with (record kept { dirty = [] })) ≡ false
unfolding numbers_from
group_in_clean = refl

-- a saved group at or above the mark
group_above_mark : valid (image_with (record kept { mark = Some (pos 120) })) ≡ false
unfolding numbers_from
group_above_mark = refl

-- no mark, although there is a group
group_without_mark : valid (image_with (record kept { mark = None })) ≡ false
unfolding numbers_from
group_without_mark = refl

-- a last refresh at the position of the image
last_too_late : valid (image_with (record kept { lasts = record { span = span 100 200; pos = 10 } ∷ [] })) ≡ false
unfolding numbers_from
last_too_late = refl

-- a dirty bucket without a last refresh
dirty_without_last : valid (image_with (record kept { lasts = record { span = span 130 200; pos = 8 } ∷ [] })) ≡ false
unfolding numbers_from
dirty_without_last = refl

-- a row of a clean bucket with a last refresh above the mark
row_above_mark : valid (image_with (record kept { lasts = record { span = span 100 300; pos = 8 } ∷ [] })) ≡ false
unfolding numbers_from
row_above_mark = refl

-- beyond the end
beyond : valid (record image { pos = 4611686018427387905 }) ≡ false
beyond = refl

-- ---- of the roster

abbrev plain : List ℕ → Event
plain name = Table (record { name = name; cols = column (codes "time") true ∷ [] })

abbrev measures : Event
measures = Table (record { name = codes "m"; cols = column (codes "time") true ∷ column (codes "dev") false ∷ column (codes "v") false ∷ [] })

abbrev made_hyper : Event
made_hyper = Hyper 0 (record { at = 0; interval = pos 100 })

-- an aggregate is before a table
view_before_table : valid (record image { roster = measures ∷ made_hyper ∷ View sums ∷ plain (codes "k") ∷ [] }) ≡ false
view_before_table = refl

-- what makes a table a hypertable doesn't come directly after it
hyper_too_late : valid (record image { roster = measures ∷ plain (codes "k") ∷ made_hyper ∷ View sums ∷ [] }) ≡ false
hyper_too_late = refl

-- an aggregate is over a table that isn't a hypertable
view_over_plain : valid (record image { roster = measures ∷ View sums ∷ [] }) ≡ false
view_over_plain = refl

-- a name occurs twice
name_twice : valid (record image { roster = measures ∷ made_hyper ∷ View sums ∷ View sums ∷ [] }) ≡ false
name_twice = refl

-- a mode isn't an event of a roster
mode_in_roster : valid (record image { roster = measures ∷ made_hyper ∷ View sums ∷ Mode 0 true ∷ [] }) ≡ false
mode_in_roster = refl

-- ---- of the rows

abbrev with_held : List Event → Image
with_held held = record image { rows = held }

-- the rows of a table aren't in order
rows_out_of_order : valid (with_held (inserted_rows (row 120 1 7 ∷ row 50 1 5 ∷ []) ∷ [])) ≡ false
rows_out_of_order = refl

-- a table has its rows in two commits
rows_twice : valid (with_held (inserted_rows (row 50 1 5 ∷ []) ∷ inserted_rows (row 250 1 9 ∷ []) ∷ [])) ≡ false
rows_twice = refl

-- a commit has no rows
no_rows : valid (with_held (inserted_rows [] ∷ [])) ≡ false
no_rows = refl

-- a commit has two operations
two_operations : valid (with_held (Commit (Insert 0 (row 50 1 5 ∷ []) ∷ Insert 0 (row 250 1 9 ∷ []) ∷ []) ∷ [])) ≡ false
two_operations = refl

-- rows of a missing table
rows_of_no_table : valid (with_held (Commit (Insert 1 (row 50 1 5 ∷ []) ∷ []) ∷ [])) ≡ false
rows_of_no_table = refl

-- ---- of the aggregates

-- there are fewer kept aggregates than aggregates, or more
none_kept : valid (record image { views = [] }) ≡ false
none_kept = refl

two_kept : valid (record image { views = kept ∷ kept ∷ [] }) ≡ false
unfolding numbers_from
two_kept = refl

-- ranges of last refreshes overlap, don't rise, aren't of whole buckets or are empty
abbrev lasts_of : List Span → Image
lasts_of spans = image_with (record kept { lasts = map (λ s. record { span = s; pos = 8 }) spans })

lasts_overlap : valid (lasts_of (span 100 150 ∷ span 140 200 ∷ [])) ≡ false
lasts_overlap = refl

lasts_fall : valid (lasts_of (span 150 200 ∷ span 100 150 ∷ [])) ≡ false
lasts_fall = refl

lasts_cut_buckets : valid (lasts_of (span 105 200 ∷ [])) ≡ false
lasts_cut_buckets = refl

lasts_empty : valid (lasts_of (span 100 100 ∷ span 100 200 ∷ [])) ≡ false
lasts_empty = refl

-- ranges of dirty buckets overlap
dirty_overlap : valid (image_with (record kept { dirty = span 120 140 ∷ span 130 150 ∷ [] })) ≡ false
unfolding numbers_from
dirty_overlap = refl

abbrev with_groups : List SavedGroup → Image
with_groups groups = image_with (record kept { dirty = span 110 130 ∷ []; groups = groups })

abbrev group_with : ℕ → Sums → SavedGroup
group_with b p = record { start = pos b; keys = []; parts = parts ∷ p ∷ [] }

abbrev eight : Sums
eight = record { count = 2; values = 2; sum = pos 8; least = Some (pos 1); most = Some (pos 7) }

-- groups in two dirty buckets are valid
groups_in_order : valid (with_groups (group_with 110 eight ∷ group_with 120 eight ∷ [])) ≡ true
unfolding numbers_from
groups_in_order = refl

-- groups are out of order, or occur twice
groups_out_of_order : valid (with_groups (group_with 120 eight ∷ group_with 110 eight ∷ [])) ≡ false
unfolding numbers_from
groups_out_of_order = refl

group_twice : valid (with_groups (group_with 120 eight ∷ group_with 120 eight ∷ [])) ≡ false
unfolding numbers_from
group_twice = refl

-- a group doesn't have as many keys or parts as the aggregate, or doesn't begin where a bucket does
key_too_many : valid (with_groups (record { start = pos 120; keys = None ∷ []; parts = parts ∷ eight ∷ [] } ∷ [])) ≡ false
unfolding numbers_from
key_too_many = refl

part_missing : valid (with_groups (record { start = pos 120; keys = []; parts = parts ∷ [] } ∷ [])) ≡ false
unfolding numbers_from
part_missing = refl

group_within_bucket : valid (with_groups (group_with 125 eight ∷ [])) ≡ false
unfolding numbers_from
group_within_bucket = refl

-- there are more values than rows, or too many rows
values_too_many : valid (with_groups (group_with 120 (record eight { values = 3 }) ∷ [])) ≡ false
unfolding numbers_from
values_too_many = refl

rows_too_many : valid (with_groups (group_with 120 (record eight { count = 4611686018427387904 }) ∷ [])) ≡ false
unfolding numbers_from
rows_too_many = refl

-- the sum of two values is more than twice the greatest, or less than twice the least
sum_too_great : valid (with_groups (group_with 120 (record eight { sum = pos 18446744073709551615 }) ∷ [])) ≡ false
unfolding numbers_from
sum_too_great = refl

sum_at_greatest : valid (with_groups (group_with 120 (record eight { sum = pos 18446744073709551614 }) ∷ [])) ≡ true
unfolding numbers_from
sum_at_greatest = refl

sum_too_small : valid (with_groups (group_with 120 (record eight { sum = negsuc 18446744073709551616 }) ∷ [])) ≡ false
unfolding numbers_from
sum_too_small = refl

-- there is a value but no least one, or no value but a greatest one
least_missing : valid (with_groups (group_with 120 (record eight { least = None }) ∷ [])) ≡ false
unfolding numbers_from
least_missing = refl

most_of_none : valid (with_groups (group_with 120 (record { count = 2; values = 0; sum = pos 0; least = None; most = Some (pos 7) }) ∷ [])) ≡ false
unfolding numbers_from
most_of_none = refl

-- all values are NULL
values_none : valid (with_groups (group_with 120 (record { count = 2; values = 0; sum = pos 0; least = None; most = None }) ∷ [])) ≡ true
unfolding numbers_from
values_none = refl

-- a mark isn't the end of a bucket
mark_within_bucket : valid (image_with (record kept { mark = Some (pos 135) })) ≡ false
unfolding numbers_from
mark_within_bucket = refl

-- ---- a refresh that waits

abbrev waits : Image
waits = record {
  pos = 5;
  roster = image.roster;
  rows = inserted_rows (row 50 1 5 ∷ row 120 1 7 ∷ row 250 1 9 ∷ []) ∷ [];
  views = record { lasts = []; dirty = []; groups = []; mark = None } ∷ [];
  waiting = record { cut = 5; view = 0; span = span 100 200 } ∷ [];
  done = [];
}

waits_valid : valid waits ≡ true
unfolding numbers_from
waits_valid = refl

finish_allowed : all_allowed (resumed waits ▸ Built 5 5) ≡ true
unfolding numbers_from
finish_allowed = refl

finish_below : allowed (resumed waits) (Built 5 4) ≡ false
finish_below = refl

finish_again : allowed (resumed waits ▸ Built 5 5) (Built 5 5) ≡ false
finish_again = refl

finish_marks : watermark 0 sums (resumed waits ▸ Built 5 5) ≡ Some (pos 130)
finish_marks = refl

finish_answer : answer (Aggregate 0 (span 0 300)) (resumed waits ▸ Built 5 5) ≡ record { rows = cells 120 1 7 ∷ cells 250 1 9 ∷ []; stale = span 0 100 ∷ [] }
unfolding numbers_from
finish_answer = refl

waits_threshold : threshold 0 (resumed waits) ≡ Some (pos 200)
waits_threshold = refl

-- ---- numbers of refreshes

abbrev with_done : List FinishedRefresh → Image
with_done done = record waits { done = done }

abbrev finished : ℕ → ℕ → FinishedRefresh
finished cut built = record { cut = cut; built = built }

done_fits : valid (with_done (finished 3 4 ∷ [])) ≡ true
unfolding numbers_from
done_fits = refl

-- a number is among the finished and the waiting refreshes
done_and_waiting : valid (record waits { pos = 6; done = finished 5 6 ∷ [] }) ≡ false
unfolding numbers_from
done_and_waiting = refl

-- numbers are above the position of the image, or 0
done_above : valid (with_done (finished 3 6 ∷ [])) ≡ false
unfolding numbers_from
done_above = refl

waiting_above : valid (record waits { pos = 4 }) ≡ false
unfolding numbers_from
waiting_above = refl

done_of_none : valid (with_done (finished 0 4 ∷ [])) ≡ false
unfolding numbers_from
done_of_none = refl

-- a refresh was finished at its cut
done_at_once : valid (with_done (finished 4 4 ∷ [])) ≡ false
unfolding numbers_from
done_at_once = refl

-- numbers don't rise
done_falls : valid (with_done (finished 3 4 ∷ finished 1 2 ∷ [])) ≡ false
unfolding numbers_from
done_falls = refl

done_twice : valid (with_done (finished 3 4 ∷ finished 3 4 ∷ [])) ≡ false
unfolding numbers_from
done_twice = refl

abbrev waiting_with : List WaitingRefresh → Image
waiting_with waiting = record waits { waiting = waiting }

abbrev waits_for : ℕ → ℕ → Span → WaitingRefresh
waits_for cut view s = record { cut = cut; view = view; span = s }

waiting_falls : valid (waiting_with (waits_for 5 0 (span 100 200) ∷ waits_for 4 0 (span 100 200) ∷ [])) ≡ false
unfolding numbers_from
waiting_falls = refl

-- a refresh waits that is of no aggregate, or whose span isn't one of whole buckets
waiting_of_none : valid (waiting_with (waits_for 5 1 (span 100 200) ∷ [])) ≡ false
unfolding numbers_from
waiting_of_none = refl

waiting_over_parts : valid (waiting_with (waits_for 5 0 (span 100 205) ∷ [])) ≡ false
unfolding numbers_from
waiting_over_parts = refl

-- ---- the end of a history

abbrev full : History
full = resumed (record image { pos = 4611686018427387904 })

full_allowed : all_allowed full ≡ true
unfolding numbers_from
full_allowed = refl

full_mode : setting_mode 0 true full ≡ refuses (record { code = 30; pos = 4611686018427387904; mark = 0 })
full_mode = refl

full_event : allowed full (Mode 0 true) ≡ false
full_event = refl

-- a window without a bucket is refused as E15 first, and one with nothing to do creates no event
full_no_bucket : act_of_cut 0 (Some (pos 3)) (Some (pos 9)) full ≡ refuses (record { code = 15; pos = 4611686018427387904; mark = 0 })
full_no_bucket = refl
