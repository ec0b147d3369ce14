-- Versions with the starts of the chunks that keep them.
use Rattle.std.specs.Prelude.{◌≡◌, ℕ, Bool, true, false, cond, not, ◌&&◌, List, [], map, filter, ℤ, Option, Some, None}
use Rattle.std.specs.List.{list_all}
use Rattle.std.specs.Ordering.{int_eq}
use Rattle.ts_bucket.specs.Bucket.{is_time}
use Rattle.ts_bucket.specs.Spans.{HullValue, in_hull}
use Rattle.ts_schema.specs.declared.conditions.Test.{Test}
use Rattle.ts_schema.specs.Conditions.{passes_all}
use Rattle.seg_rows.specs.Versions.{Version, after_kill}
use Rattle.ts_bucket.specs.Chunks.{chunk_start}
use Rattle.chunk_catalog.specs.Reach.{in_reach}
use Rattle.chunk_catalog.specs.declared.time_ranges.TimeRange.{TimeRange}

-- a chunk: its start, the versions that it keeps, and the number of levels of segments
pub record Kept : Type 0 where
  pub start : ℤ
  pub versions : List Version
  pub levels : ℕ

-- a version, with the start of the chunk that keeps it
pub record Placed : Type 0 where
  pub start : ℤ
  pub version : Version

abbrev pub place : ℤ → Version → Placed
place start v = record { start = start; version = v }

-- versions in the chunk with this start, and those of a chunk
abbrev pub in_chunk : ℤ → List Version → List Placed
in_chunk start vs = map (place start) vs

abbrev pub placed_in : Kept → List Placed
placed_in chunk = in_chunk chunk.start chunk.versions

abbrev pub versions_of : List Placed → List Version
versions_of ps = map (λ x. x.version) ps

-- the versions of the chunks whose starts lie in a range
abbrev pub versions_in : TimeRange → List Placed → List Version
versions_in r ps = versions_of (filter (λ x. in_reach r x.start) ps)

-- a version after a delete at p in the chunks whose starts lie in a range
abbrev pub after_kill_in : TimeRange → ℕ → List Test → Placed → Placed
after_kill_in r p tests x = cond (in_reach r x.start) (place x.start (after_kill p tests x.version)) x

-- every start lies in the hull; without a hull there is no version
abbrev pub StartsIn : Option HullValue → List Placed → Type 0
StartsIn None ps = ps ≡ []
StartsIn (Some h) ps = list_all (λ x. in_hull h x.start) ps ≡ true

-- no start lies in the range
abbrev pub AreOut : TimeRange → List Placed → Type 0
AreOut r ps = list_all (λ x. not (in_reach r x.start)) ps ≡ true

-- a version is kept by the chunk that holds its time
abbrev pub is_placed : ℤ → Placed → Bool
is_placed interval x = int_eq x.start (chunk_start interval x.version.row.at) && is_time x.version.row.at

-- every version is kept by the chunk that holds its time
abbrev pub ArePlaced : ℤ → List Placed → Type 0
ArePlaced interval ps = list_all (is_placed interval) ps ≡ true

-- no version that is kept outside of the chunks with these starts passes every test
abbrev pub NonePassesOutside : ℤ → List Test → TimeRange → Type 0
NonePassesOutside interval tests r =
    (x : Placed) → is_placed interval x ≡ true → in_reach r x.start ≡ false → passes_all x.version.row tests ≡ false
