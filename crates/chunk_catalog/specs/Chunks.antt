-- Chunks of a table: what contracts see of them, which chunk holds a time, and which chunks meet a span.
use Rattle.std.specs.Prelude.{◌≡◌, ℕ, ◌+◌, ◌*◌, ◌^◌, ◌≤◌, Bool, true, cond, ◌&&◌, List, filter, count_by, ℤ, ◌+ℤ◌, int_le, int_lt, Some}
use Rattle.std.specs.List.{list_all}
use Rattle.ts_bucket.specs.Bucket.{is_time}
use Rattle.ts_bucket.specs.Chunks.{chunk_start}
use Rattle.ts_bucket.specs.Spans.{SpanValue, in_span}
use Rattle.ts_schema.specs.declared.conditions.Test.{Test}
use Rattle.ts_schema.specs.declared.rows.Row.{Row}
use Rattle.ts_schema.specs.Conditions.{passes_all}
use Rattle.seg_rows.specs.Versions.{Version, visible_at, rows_of}

-- what contracts see of `Chunks`: the length of a chunk; every version that was ever inserted there; and the
-- greatest numbers of levels on the path to a version. A scan returns versions in the order of this list. The
-- places of new versions in it are unspecified: `put_shared` says only which versions there are, and how often
-- each
pub record ChunksValue : Type 0 where
  pub interval : ℤ
  pub versions : List Version
  pub levels : ℕ

-- levels that grow with the logarithm of the number of versions: every fourth level doubles the least number of
-- versions
abbrev pub AreLow : ℕ → ℕ → Type 0
AreLow levels count = (k : ℕ) → 4 * k ≤ levels → 2 ^ k ≤ 2 * count + 1

-- the chunk with this start and the span have a number in common
abbrev pub chunk_meets : ℤ → SpanValue → ℤ → Bool
chunk_meets interval s start = int_lt start s.hi && int_lt s.lo (start +ℤ interval) && int_lt s.lo s.hi

-- a version is in a chunk that meets the span
abbrev pub is_near : ℤ → SpanValue → Version → Bool
is_near interval s v = chunk_meets interval s (chunk_start interval v.row.at)

-- how many versions are in chunks that meet the span
abbrev pub held_near : ℤ → SpanValue → List Version → ℕ
held_near interval s vs = count_by (is_near interval s) vs

-- a version is visible at p and its chunk ends at or before n
abbrev pub is_dropped : ℤ → ℤ → ℕ → Version → Bool
is_dropped interval n p v = visible_at p v && int_le (chunk_start interval v.row.at +ℤ interval) n

-- the rows that are dropped
abbrev pub dropped_at : ℤ → ℤ → ℕ → List Version → List Row
dropped_at interval n p vs = rows_of (filter (is_dropped interval n p) vs)

-- a version after a drop at p: deleted at p if it is dropped, and unchanged otherwise
abbrev pub after_drop : ℤ → ℤ → ℕ → Version → Version
after_drop interval n p v = cond (is_dropped interval n p v) (record { row = v.row; born = v.born; died = Some p }) v

-- the times of these rows lie in the range of times
abbrev pub HaveTimes : List Row → Type 0
HaveTimes rows = list_all (λ row. is_time row.at) rows ≡ true

-- the span holds the time of each row that has one and passes every test
abbrev pub HoldsTimes : List Test → SpanValue → Type 0
HoldsTimes tests span = (row : Row) → is_time row.at ≡ true → passes_all row tests ≡ true → in_span span row.at ≡ true
