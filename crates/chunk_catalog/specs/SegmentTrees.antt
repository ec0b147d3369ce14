-- A segment tree: its versions in order, its number of levels, and its invariant.
use Rattle.std.specs.Prelude.{◌≡◌, ℕ, suc, zero, ◌*◌, ◌<◌, ◌≤◌, max, List, ◌++◌, length, Option}
use Rattle.ts_bucket.specs.Spans.{HullValue}
use Rattle.seg_rows.specs.Hulls.{hull_of}
use Rattle.seg_rows.specs.Versions.{Version, died_out, rows_of}
use Rattle.chunk_catalog.specs.Levels.{AreFew}
use Rattle.chunk_catalog.specs.declared.segment_trees.Shape.{Shape}
use Rattle.chunk_catalog.specs.declared.segment_trees.Shape.TheVariants.{Leaf, Fork}

abbrev pub pile_view : Shape → List Version × ℕ
pile_view (Leaf s) = (s, zero)
pile_view (Fork l r n hull dead) = (l.value.0 ++ r.value.0, suc (max l.value.1 r.value.1))

-- two segment trees may be siblings: the later one is a segment or no larger than the earlier one, and there are few
-- levels
pub record AreEven (l r : List Version × ℕ) : Type 0 where
  pub lean : 0 < r.1 → length r.0 ≤ length l.0
  pub few : AreFew (suc (max l.1 r.1)) (2 * length (l.0 ++ r.0))

-- two segment trees as siblings, with the count of their versions, the hull of their times, and the position of the
-- last delete
pub record IsFork (l r : List Version × ℕ) (count : ℕ) (hull : Option HullValue) (dead : Option ℕ) : Type 0 where
  pub even : AreEven l r
  pub counted : count ≡ length (l.0 ++ r.0)
  pub hull_is : hull ≡ hull_of (rows_of (l.0 ++ r.0))
  pub dead_is : dead ≡ died_out (l.0 ++ r.0)

abbrev pub IsPile : Shape → Type 0
IsPile (Leaf s) = 0 < length s
IsPile (Fork l r count hull dead) = IsFork l.value r.value count hull dead
