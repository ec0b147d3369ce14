-- Laws of the definitions, each in one sentence.
use Rattle.std.specs.Prelude.{◌≡◌, ℕ, ◌+◌, ◌^◌, ◌<◌, ◌≤◌, Bool, true, false, ◌&&◌, not, map, filter, ◌-◌, List, [], ◌∷◌, length, count_by, ℤ, pos, neg_ℤ, ◌+ℤ◌, ◌-ℤ◌, ◌≤ℤ◌, Option, Some, None, IsTrue, IfSome}
use Rattle.std.specs.List.{AllByRecursion, list_all, list_any}
use Rattle.std.specs.Ordering.{is_gt, is_lt, int_cmp}
use Rattle.std.specs.declared.cmp.Ordering.{Ordering}
use Rattle.ts_num.specs.Aggregates.{sum_of, greater}
use Rattle.ts_schema.specs.Conditions.{passes_all}
use Rattle.ts_schema.specs.Rows.{row_cmp, values_cmp}
use Rattle.ts_schema.specs.declared.rows.Row.{Row}
use Rattle.ts_model.specs.declared.views.Fold.{Fold}
use Rattle.ts_model.specs.Rows.{with_rows, rows, rows_at}
use Rattle.std.specs.Option.{ForSome}
use Rattle.partial_agg.specs.declared.groups.Group.{Group}
use Rattle.ts_bucket.specs.Bucket.{IsWidth, is_bucket, is_time, min_time, max_time, bucket_of}
use Rattle.ts_bucket.specs.Chunks.{max_interval}
use Rattle.ts_bucket.specs.WholeSpans.{IsMark, least, greatest, is_below}
use Rattle.ts_bucket.specs.Ranges.{AreRanges, lies_in}
use Rattle.ts_bucket.specs.Positions.{is_above}
use Rattle.ts_bucket.specs.declared.widths.Width.{Width}
use Rattle.ts_bucket.specs.declared.spans.Span.{Span}
use Rattle.ts_model.specs.declared.events.Event.{Event}
use Rattle.ts_model.specs.declared.events.Event.TheVariants.{Table, Hyper as HyperMade, View, Mode, Commit, Cut, Built}
use Rattle.ts_model.specs.declared.events.Op.{Op}
use Rattle.ts_model.specs.declared.tables.TableDef.{TableDef}
use Rattle.ts_model.specs.Calls.{Act, refuses, returns, makes, making_table, making_hyper, making_view, setting_mode, act_of_commit, act_of_cut, act_of_finish}
use Rattle.ts_model.specs.declared.queries.Query.{Query}
use Rattle.ts_model.specs.declared.queries.Query.TheVariants.{Buckets}
use Rattle.ts_model.specs.declared.rosters.Roster.{Roster}
use Rattle.ts_model.specs.declared.tables.Hyper.{Hyper}
use Rattle.ts_model.specs.declared.tables.TableInfo.{TableInfo}
use Rattle.ts_model.specs.declared.views.ViewDef.{ViewDef}
use Rattle.ts_model.specs.History.{History, position, prefix, Begins}
use Rattle.ts_model.specs.Scratch.{bucket_rows, scratch, keys_of, key_lists, occurring_buckets}
use Rattle.ts_model.specs.Groups.{RowsFit, groups_in, groups_at, scratch_at}
use Rattle.ts_model.specs.Refreshes.{last_touch_at, touched, last, watermark, threshold}
use Rattle.ts_model.specs.Roster.{no_relations, roster, table_of, hyper_of, of_table, view_of, table_named, view_named, set_only}
use Rattle.ts_model.specs.Answers.{answer, buckets_in, can_ask, ranges}
use Rattle.ts_model.specs.Reads.{clip, chunk_within, rows_inserted, rows_near}
use Rattle.ts_model.specs.declared.refreshes.Window.{Window}
use Rattle.ts_model.specs.declared.refreshes.Window.TheVariants.{Whole, NoBucket, Nothing}
use Rattle.ts_model.specs.Windows.{last_end, window}
use Rattle.ts_model.specs.Allowed.{all_consistent, allowed}
use Rattle.ts_model.specs.Fields.{fits_fields}
use Rattle.ts_model.specs.Limits.{most_relations}
use Rattle.ts_model.specs.Sound.{row_fits, hyper_fits, sound_in, sound}
use Rattle.ts_model.specs.Jobs.{rows_of_spans, Fits, job_rows}

-- a bucket that no commit touched after a position has the rows that it had there
abbrev pub UntouchedKeepsRows : Type 0
UntouchedKeepsRows =
    (n : ℕ) (def : ViewDef) (h : History) (b : ℤ) (s : ℕ) → touched n def h b s ≡ false
    → bucket_rows def.fold b (rows def.table h) ≡ bucket_rows def.fold b (rows_at def.table h s)

-- so it has the groups that it had there
abbrev pub UntouchedKeepsGroups : Type 0
UntouchedKeepsGroups =
    (n : ℕ) (def : ViewDef) (h : History) (b : ℤ) (s : ℕ) → touched n def h b s ≡ false
    → groups_in def.fold (rows def.table h) b ≡ groups_at n def h s b

-- and the aggregation
abbrev pub UntouchedKeeps : Type 0
UntouchedKeeps =
    (n : ℕ) (def : ViewDef) (h : History) (b : ℤ) (s : ℕ) → touched n def h b s ≡ false
    → scratch def h b ≡ scratch_at n def h s b

-- the same between two positions: a bucket that no commit touched between them had the same rows and the same groups
-- at both
pub record UntouchedBetween : Type 0 where
  pub rows :
      (n : ℕ) (def : ViewDef) (h : History) (b : ℤ) (r s : ℕ) → r ≤ s → is_above r (last_touch_at n def h s b) ≡ false
      → bucket_rows def.fold b (rows_at def.table h s) ≡ bucket_rows def.fold b (rows_at def.table h r)
  pub groups :
      (n : ℕ) (def : ViewDef) (h : History) (b : ℤ) (r s : ℕ) → r ≤ s → is_above r (last_touch_at n def h s b) ≡ false
      → groups_at n def h s b ≡ groups_at n def h r b

-- the rows of spans have the groups of all rows in each bucket that starts in one of the spans, and none in another
pub record SpansKeepGroups : Type 0 where
  pub inside :
      (fold : Fold) (spans : List Span) (rows : List Row) (b : ℤ) → IsWidth fold.width → is_bucket fold.width b ≡ true
      → lies_in spans b ≡ true → groups_in fold (rows_of_spans fold spans rows) b ≡ groups_in fold rows b
  pub outside :
      (fold : Fold) (spans : List Span) (rows : List Row) (b : ℤ) → IsWidth fold.width → is_bucket fold.width b ≡ true
      → lies_in spans b ≡ false → groups_in fold (rows_of_spans fold spans rows) b ≡ []

-- a bucket at or above the watermark that has a last refresh had no result row at that refresh's snapshot
abbrev pub NothingAboveWatermark : Type 0
NothingAboveWatermark =
    (n : ℕ) (def : ViewDef) (h : History) (b : ℤ) (s : ℕ) → all_consistent h ≡ true → view_of (roster h) n ≡ Some def
    → is_bucket def.fold.width b ≡ true → last n h b ≡ Some s → is_below b (watermark n def h) ≡ false
    → scratch_at n def h s b ≡ []

-- what is below the watermark, or below the threshold of a table, stays below it
abbrev pub WatermarkNeverFalls : Type 0
WatermarkNeverFalls =
    (n : ℕ) (def : ViewDef) (g h : History) (b : ℤ) → Begins g h → is_below b (watermark n def g) ≡ true
    → is_below b (watermark n def h) ≡ true

abbrev pub ThresholdNeverFalls : Type 0
ThresholdNeverFalls =
    (t : ℕ) (g h : History) (b : ℤ) → Begins g h → is_below b (threshold t g) ≡ true
    → is_below b (threshold t h) ≡ true

-- what makes a table a hypertable stays
abbrev pub KeepsHyper : Option Hyper → Option Hyper → Type 0
KeepsHyper None now = Unit {0}
KeepsHyper (Some hyper) now = now ≡ Some hyper

-- a table still exists, with its definition, and a hypertable is still the same hypertable
pub record KeepsTable (was : TableInfo) (found : Option TableInfo) : Type 0 where
  pub info : TableInfo
  pub there : found ≡ Some info
  pub def : info.def ≡ was.def
  pub hyper : KeepsHyper was.hyper info.hyper

-- an aggregate still exists, and only its mode may have changed
pub record KeepsView (was : ViewDef) (found : Option ViewDef) : Type 0 where
  pub only : Bool
  pub there : found ≡ Some (set_only only was)

-- no table, aggregate, name or kind is removed
pub record KeepsRelations (old new : Roster) : Type 0 where
  pub tables : (t : ℕ) (info : TableInfo) → table_of old t ≡ Some info → KeepsTable info (table_of new t)
  pub views : (n : ℕ) (def : ViewDef) → view_of old n ≡ Some def → KeepsView def (view_of new n)
  pub table_names : (name : List ℕ) (t : ℕ) → table_named old name ≡ Some t → table_named new name ≡ Some t
  pub view_names : (name : List ℕ) (n : ℕ) → view_named old name ≡ Some n → view_named new name ≡ Some n

-- names and kinds are never removed
abbrev pub RelationsStay : Type 0
RelationsStay = (g h : History) → Begins g h → KeepsRelations (roster g) (roster h)

-- what makes a table a hypertable fits its columns, if it is one
abbrev pub is_hyper_sound : TableInfo → Option Hyper → Bool
is_hyper_sound info None = true
is_hyper_sound info (Some hyper) = hyper_fits hyper (Some info)

-- all that a table holds is in range
abbrev pub is_table_sound : TableInfo → Bool
is_table_sound info = sound_in no_relations (Table info.def) && is_hyper_sound info info.hyper

-- all that a roster names exists and is in range, and the numbers of tables and aggregates keep their limits
pub record IsSoundRoster (r : Roster) : Type 0 where
  pub tables : (t : ℕ) (info : TableInfo) → table_of r t ≡ Some info → is_table_sound info ≡ true
  pub views : (n : ℕ) (def : ViewDef) → view_of r n ≡ Some def → sound_in r (View def) ≡ true
  pub few_tables : length r.tables ≤ most_relations
  pub few_views : length r.views ≤ most_relations

-- the roster of a consistent history is sound
abbrev pub RostersAreSound : Type 0
RostersAreSound = (h : History) → all_consistent h ≡ true → IsSoundRoster (roster h)

-- the width of an aggregate of a consistent history keeps its bounds
abbrev pub WidthsAreSound : Type 0
WidthsAreSound =
    (h : History) (n : ℕ) (def : ViewDef) → all_consistent h ≡ true → view_of (roster h) n ≡ Some def
    → IsWidth def.fold.width

-- a row fits a table of a roster, which is a hypertable
abbrev pub fits_table : Roster → ℕ → Row → Bool
fits_table r t row = of_table (λ def hyper. row_fits def hyper row) (table_of r t)

-- each row that was ever inserted into a table of a consistent history fits the table, and so does each of its
-- rows at a position
pub record RowsFitTables : Type 0 where
  pub inserted : (t : ℕ) (h : History) → all_consistent h ≡ true → list_all (fits_table (roster h) t) (rows_inserted t h) ≡ true
  pub rows :
      (t : ℕ) (h : History) (s : ℕ) → all_consistent h ≡ true → list_all (fits_table (roster h) t) (rows_at t h s) ≡ true

-- so each has a time
pub record RowsAreTimes : Type 0 where
  pub inserted : (t : ℕ) (h : History) → all_consistent h ≡ true → list_all (λ row. is_time row.at) (rows_inserted t h) ≡ true
  pub rows :
      (t : ℕ) (h : History) (s : ℕ) → all_consistent h ≡ true → list_all (λ row. is_time row.at) (rows_at t h s) ≡ true

-- and the columns of each fold that may be asked of the table; the fold of each of its aggregates may be asked
pub record RowsHaveColumns : Type 0 where
  pub inserted : (t : ℕ) (fold : Fold) (h : History) → all_consistent h ≡ true → can_ask (roster h) (Buckets t fold) ≡ true
      → RowsFit fold (rows_inserted t h)
  pub rows :
      (t : ℕ) (fold : Fold) (h : History) (s : ℕ) → all_consistent h ≡ true → can_ask (roster h) (Buckets t fold) ≡ true
      → RowsFit fold (rows_at t h s)
  pub views : (n : ℕ) (def : ViewDef) (h : History) → all_consistent h ≡ true → view_of (roster h) n ≡ Some def
      → can_ask (roster h) (Buckets def.table def.fold) ≡ true

-- a watermark of a consistent history, and where a window without an end ends, are ends of buckets that hold a time
pub record MarksAreEnds : Type 0 where
  pub marks : (n : ℕ) (def : ViewDef) (h : History) → all_consistent h ≡ true → view_of (roster h) n ≡ Some def
      → IfSome (watermark n def h) (IsMark def.fold.width)
  pub ends : (n : ℕ) (def : ViewDef) (h : History) → all_consistent h ≡ true → view_of (roster h) n ≡ Some def
      → IfSome (greater (watermark n def h) (last_end def.fold.width (rows def.table h))) (IsMark def.fold.width)

-- an event whose parts exist and are in range stays so as a history grows
abbrev pub SoundStays : Type 0
SoundStays = (g h : History) (e : Event) → Begins g h → sound g e ≡ true → sound h e ≡ true

-- what a query shows at a history stays what it shows at that position of every history that begins with it
abbrev pub AnswersStay : Type 0
AnswersStay = (query : Query) (g h : History) → Begins g h → answer query (prefix h (position g)) ≡ answer query g

-- a job that fits a history fits every history that begins with it, and its groups are those of the same rows
abbrev pub FitsStays : Type 0
FitsStays =
    (n : ℕ) (def : ViewDef) (g h : History) (cut snap : ℕ) (span : Span) (spans : List Span) (groups : List Group)
    (top : Option ℤ)
    → Begins g h → Fits n def g cut snap span spans groups top
    → Fits n def h cut snap span spans groups top × (job_rows def h snap spans ≡ job_rows def g snap spans)

-- the event that a call makes, if it makes one, is allowed
abbrev pub MakesAllowed : {A : Type 0} → History → Act A → Type 0
MakesAllowed h (refuses r) = Unit {0}
MakesAllowed h (returns a) = Unit {0}
MakesAllowed h (makes e a) = allowed h e ≡ true

-- the cut of the whole buckets of a window is sound, even if the history is at its end
abbrev pub SoundCut : ℕ → History → Window → Type 0
SoundCut n h (Whole span) = sound h (Cut n span) ≡ true
SoundCut n h NoBucket = Unit {0}
SoundCut n h Nothing = Unit {0}

-- each call creates only allowed events, if its arguments are sound
pub record CallsMakeAllowed : Type 0 where
  pub tables : (def : TableDef) (h : History) → sound h (Table def) ≡ true → MakesAllowed h (making_table def h)
  pub hypers :
      (t : ℕ) (hyper : Hyper) (h : History) → sound h (HyperMade t hyper) ≡ true
      → MakesAllowed h (making_hyper t hyper h)
  pub views : (def : ViewDef) (h : History) → sound h (View def) ≡ true → MakesAllowed h (making_view def h)
  pub modes :
      (n : ℕ) (only : Bool) (h : History) → sound h (Mode n only) ≡ true → MakesAllowed h (setting_mode n only h)
  pub commits : (ops : List Op) (h : History) → sound h (Commit ops) ≡ true → MakesAllowed h (act_of_commit ops h)
  pub cuts : (n : ℕ) (lo hi : Option ℤ) (h : History) → all_consistent h ≡ true → ForSome hi (λ t. IsTrue (is_time t))
      → MakesAllowed h (act_of_cut n lo hi h)
  pub windows : (n : ℕ) (def : ViewDef) (h : History) (lo hi : Option ℤ) → all_consistent h ≡ true
      → view_of (roster h) n ≡ Some def → ForSome hi (λ t. IsTrue (is_time t)) → SoundCut n h (window n def h lo hi)
  pub finishes : (cut snap : ℕ) (h : History) → sound h (Built cut snap) ≡ true → MakesAllowed h (act_of_finish cut snap h)

-- the ranges of the buckets in a span are the maximal ranges of those that pass
abbrev pub RangesAreMaximal : Type 0
RangesAreMaximal =
    (w : Width) (starts : Span) (test : ℤ → Bool) → IsWidth w
    → AreRanges w starts test (ranges w test (buckets_in w starts))

-- no item is greater than a later one
abbrev pub InOrder : {K : Type 0} → (K → K → Ordering) → List K → Type 0
InOrder cmp [] = Unit {0}
InOrder cmp (x ∷ xs) = (list_all (λ y. not (is_gt (cmp x y))) xs ≡ true) × InOrder cmp xs

-- each item is less than every later one
abbrev pub Rises : {K : Type 0} → (K → K → Ordering) → List K → Type 0
Rises cmp [] = Unit {0}
Rises cmp (x ∷ xs) = (list_all (λ y. is_lt (cmp x y)) xs ≡ true) × Rises cmp xs

-- these are the keys that occur, each once, in order
pub record IsOnce {K : Type 0} (cmp : K → K → Ordering) (keys found : List K) : Type 0 where
  pub rising : Rises cmp found
  -- some key passes a test if and only if some found key does
  pub occurring : (test : K → Bool) → list_any test found ≡ list_any test keys

-- the rows of a table are in row order, each as often as it occurs
abbrev pub RowsStandInOrder : Type 0
RowsStandInOrder = (t : ℕ) (h : History) → InOrder row_cmp (rows t h)

-- a bucket has one result row for each list of keys that occurs, in order, and a query has each bucket once, in
-- order
pub record ResultsComeInOrder : Type 0 where
  pub keys : (fold : Fold) (group : List Row) → IsOnce values_cmp (map (keys_of fold.keys) group) (key_lists fold group)
  pub buckets : (fold : Fold) (rows : List Row)
      → IsOnce int_cmp (map (λ row. bucket_of fold.width row.at) (filter (λ row. passes_all row fold.tests) rows))
      (occurring_buckets fold rows)

-- a value of 64 bits
abbrev pub IsWord : ℤ → Type 0
IsWord v = (least ≤ℤ v) × (v ≤ℤ greatest)

-- the sum of fewer than 2 ^ 62 values of 64 bits lies within 2 ^ 125 of 0, and so fits 128 bits
abbrev pub SumsFit : Type 0
SumsFit =
    (vs : List ℤ) → AllByRecursion IsWord vs → length vs < 2 ^ 62
    → (neg_ℤ (pos (2 ^ 125)) ≤ℤ sum_of vs) × (sum_of vs ≤ℤ pos (2 ^ 125))

-- rows inserted in their places are there as often as they are given, and none is lost: as many pass each test
abbrev pub InsertsKeepAll : Type 0
InsertsKeepAll =
    (test : Row → Bool) (new rows : List Row)
    → count_by test (with_rows new rows) ≡ count_by test new + count_by test rows

-- a span clipped to bounds between which all chunks lie is near the same rows
abbrev pub ClippingKeepsNear : Type 0
ClippingKeepsNear =
    (low high interval : ℤ) (stored : List Row) (span : Span)
    → list_all (chunk_within low high interval) stored ≡ true
    → rows_near interval stored (clip low high span ∷ []) ≡ rows_near interval stored (span ∷ [])

-- the chunks of all rows that were ever inserted lie at most the longest interval outside the range of times
abbrev pub ChunksAreWithin : Type 0
ChunksAreWithin =
    (t : ℕ) (hyper : Hyper) (h : History) → all_consistent h ≡ true → hyper_of (roster h) t ≡ Some hyper
    → list_all (chunk_within (min_time -ℤ max_interval) (max_time +ℤ max_interval) hyper.interval) (rows_inserted t h) ≡ true

-- each count and each number of a sound event of a consistent history fits its field in a journal
abbrev pub CountsFit : Type 0
CountsFit = (h : History) (e : Event) → all_consistent h ≡ true → sound h e ≡ true → fits_fields e ≡ true
