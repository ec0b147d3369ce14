-- Laws of answers and of reads, each in one sentence.
use Rattle.std.specs.Prelude.{◌≡◌, true, not, ◌&&◌, cond, List, [], ◌∷◌, map, filter, flat_map, length, ℤ, ◌+ℤ◌, ◌-ℤ◌, Option}
use Rattle.std.specs.List.{list_all}
use Rattle.std.specs.Ordering.{int_eq}
use Rattle.ts_bucket.specs.Bucket.{IsWidth, min_time, max_time}
use Rattle.ts_bucket.specs.Chunks.{IsInterval, max_interval}
use Rattle.ts_bucket.specs.Ranges.{is_asked}
use Rattle.ts_bucket.specs.Spans.{bucket_span}
use Rattle.ts_bucket.specs.WholeSpans.{is_below}
use Rattle.ts_bucket.specs.declared.spans.Span.{Span}
use Rattle.ts_bucket.specs.declared.widths.Width.{Width}
use Rattle.ts_schema.specs.declared.rows.Row.{Row}
use Rattle.partial_agg.specs.declared.groups.Group.{Group}
use Rattle.partial_agg.specs.Groups.{AreInOrder}
use Rattle.ts_model.specs.declared.views.ViewDef.{ViewDef}
use Rattle.ts_model.specs.Answers.{buckets_in}
use Rattle.ts_model.specs.Groups.{cells_of, groups_in}
use Rattle.ts_model.specs.Reads.{chunk_within, rows_near}
use Rattle.group_fold.specs.Spans.{HaveTimes}
use Rattle.realtime_union.specs.Live.{IsLiveSpan, all_times, union_rows}

-- the groups that an aggregate shows of a bucket: below its mark the materialized ones, otherwise those of the rows,
-- or none if it shows only materialized rows
abbrev pub groups_shown : ViewDef → List Group → Option ℤ → List Row → ℤ → List Group
groups_shown def kept mark rows b =
    cond (is_below b mark) (filter (λ g. int_eq g.start b) kept) (cond def.only [] (groups_in def.fold rows b))

-- materialized groups of requested buckets: in order, and below the mark
pub record AreKept (w : Width) (mark : Option ℤ) (starts : Span) (kept : List Group) : Type 0 where
  pub in_order : AreInOrder kept
  pub all : list_all (λ g. is_asked w starts g.start && is_below g.start mark) kept ≡ true

-- the answer consists of the answers for each requested bucket, in order
abbrev pub UnionsAreOfBuckets : Type 0
UnionsAreOfBuckets =
    (def : ViewDef) (kept : List Group) (mark : Option ℤ) (starts : Span) (rows : List Row) → IsWidth def.fold.width
    → AreKept def.fold.width mark starts kept
    → union_rows def kept mark starts rows
    ≡ flat_map (λ b. map (cells_of def.fold) (groups_shown def kept mark rows b)) (buckets_in def.fold.width starts)

-- the chunks of rows lie at most the longest interval outside the range of times
abbrev pub ChunksAreNear : ℤ → List Row → Type 0
ChunksAreNear interval stored =
    list_all (chunk_within (min_time -ℤ max_interval) (max_time +ℤ max_interval) interval) stored ≡ true

-- the rows in chunks that meet the live span are those in chunks that meet a live bucket, if the requested span is one
-- of numbers of 64 bits
abbrev pub LiveReadsAreOfBuckets : Type 0
LiveReadsAreOfBuckets =
    (w : Width) (mark : Option ℤ) (starts live : Span) (interval : ℤ) (stored : List Row) → IsWidth w
    → IsLiveSpan w mark starts live → ChunksAreNear interval stored
    → rows_near interval stored (live ∷ [])
    ≡ rows_near interval stored (map (bucket_span w) (filter (λ b. not (is_below b mark)) (buckets_in w starts)))

-- a scan of all times reads all stored rows
abbrev pub AllTimesReadAll : Type 0
AllTimesReadAll =
    (interval : ℤ) (stored : List Row) → IsInterval interval → HaveTimes stored
    → rows_near interval stored (all_times ∷ []) ≡ length stored
