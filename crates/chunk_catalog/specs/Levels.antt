-- The number of levels of a tree, by its size.
use Rattle.std.specs.Prelude.{◌≡◌, ℕ, suc, ◌+◌, ◌*◌, ◌^◌, ◌≤◌, max, List, [], ◌++◌, length, Option, Some}
use Rattle.ts_bucket.specs.Spans.{HullValue}
use Rattle.seg_rows.specs.Versions.{died_out}
use Rattle.chunk_catalog.specs.Places.{Kept, Placed, StartsIn, in_chunk, versions_of}

-- this number of levels is small for the size: every second level doubles the least size
abbrev pub AreFew : ℕ → ℕ → Type 0
AreFew levels size = (k : ℕ) → 2 * k ≤ levels → 2 ^ k ≤ size

-- the number of levels of chunks of a tree, and the greatest number of levels of segments of its chunks
pub record Levels : Type 0 where
  pub chunks : ℕ
  pub segments : ℕ

-- the levels of a chunk with this many levels of segments between two trees
abbrev pub levels_over : Levels → ℕ → Levels → Levels
levels_over l n r = record { chunks = suc (max l.chunks r.chunks); segments = max n (max l.segments r.segments) }

-- two trees may be the two sides of a chunk: neither has two levels of chunks more than the other
pub record AreLevel (l r : Levels) : Type 0 where
  pub left : l.chunks ≤ suc r.chunks
  pub right : r.chunks ≤ suc l.chunks

-- these levels are few for this many versions
pub record FewLevels (levels : Levels) (size : ℕ) : Type 0 where
  pub chunks : AreFew levels.chunks (size + 1)
  pub segments : AreFew levels.segments (2 * size + 1)

-- two trees that are level, or one of which has two more levels of chunks than the other
pub record AreNear (l r : Levels) : Type 0 where
  pub left : l.chunks ≤ suc (suc r.chunks)
  pub right : r.chunks ≤ suc (suc l.chunks)

-- the levels of a tree built from two and a chunk between them: one more than the higher tree has, or as many
-- if that tree was too high
pub record Balances (l r new : Levels) : Type 0 where
  pub least : max l.chunks r.chunks ≤ new.chunks
  pub most : new.chunks ≤ suc (max l.chunks r.chunks)
  pub exact : AreLevel l r → new.chunks ≡ suc (max l.chunks r.chunks)

-- as many levels of chunks as before, or one more
pub record Grows (old new : Levels) : Type 0 where
  pub least : old.chunks ≤ new.chunks
  pub most : new.chunks ≤ suc old.chunks

-- the versions of a tree in the order of the chunks, and its levels
abbrev pub TreeValue : Type 0
TreeValue = List Placed × Levels

-- no chunk, and a chunk between two trees
abbrev pub no_tree : TreeValue
no_tree = ([], record { chunks = 0; segments = 0 })

abbrev pub tree_over : TreeValue → Kept → TreeValue → TreeValue
tree_over l chunk r = (l.0 ++ in_chunk chunk.start chunk.versions ++ r.0, levels_over l.1 chunk.levels r.1)

-- the invariant of a chunk between two trees, with a hull, a number of levels and a position. The starts are in
-- the hull, and the number is that of the levels of chunks. Both sides are level, and there are few levels. The
-- position is that of the last delete
pub record IsOver (l : TreeValue) (chunk : Kept) (r : TreeValue) (starts : HullValue) (height : ℕ) (dead : Option ℕ)
    : Type 0 where
  pub starts_in : StartsIn (Some starts) (tree_over l chunk r).0
  pub counted : height ≡ (tree_over l chunk r).1.chunks
  pub even : AreLevel l.1 r.1
  pub few : FewLevels (tree_over l chunk r).1 (length (tree_over l chunk r).0)
  pub dead_is : dead ≡ died_out (versions_of (tree_over l chunk r).0)
