-- Tables under operations: the rows that a position sees, and a table after the operations of a commit.
use Rattle.std.specs.Prelude.{◌≡◌, ℕ, ◌+◌, ◌<◌, ◌≤◌, Bool, true, ◌&&◌, ◌==◌, nat_le, List, ◌++◌, length, filter, Option, None, Some}
use Rattle.std.specs.List.{list_all}
use Rattle.ts_bucket.specs.Spans.{SpanValue, in_span}
use Rattle.ts_schema.specs.declared.rows.Row.{Row}
use Rattle.ts_model.specs.declared.events.Op.{Op}
use Rattle.ts_model.specs.declared.events.Op.TheVariants.{Insert, Delete}
use Rattle.ts_model.specs.Rows.{in_order, after_ops}
use Rattle.ts_model.specs.Effect.{all_appended, all_taken, hull_of_ops}
use Rattle.seg_rows.specs.Hulls.{joined_hull, hull_of}
use Rattle.seg_rows.specs.Versions.{Version, visible_at, rows_of}
use Rattle.chunk_catalog.specs.Chunks.{ChunksValue}
use Rattle.row_versions.specs.declared.effects.Effect.{Effect}

-- the rows that position p sees
abbrev pub visible_rows : ℕ → List Version → List Row
visible_rows p vs = rows_of (filter (visible_at p) vs)

-- the same of a table, in order
abbrev pub rows_seen : ℕ → ChunksValue → List Row
rows_seen p table = in_order (visible_rows p table.versions)

-- the rows whose times lie in a span
abbrev pub rows_of_span : SpanValue → List Row → List Row
rows_of_span s rows = filter (λ row. in_span s row.at) rows

-- deleted at or before p, or not at all
abbrev pub died_by : ℕ → Option ℕ → Bool
died_by p None = true
died_by p (Some d) = nat_le d p

-- the last change of a version is at or before p
abbrev pub is_up_to : ℕ → Version → Bool
is_up_to p v = nat_le v.born p && died_by p v.died

-- no change is later than p
abbrev pub IsUpTo : ℕ → List Version → Type 0
IsUpTo p vs = list_all (is_up_to p) vs ≡ true

-- the operation is on table t
abbrev pub is_on : ℕ → Op → Bool
is_on t (Insert u new) = u == t
is_on t (Delete u tests) = u == t

-- the versions of table t after operations at position p: earlier positions see the same rows as before, p and
-- later ones see the rows after the operations, and all rows ever inserted are stored
pub record Follows (t : ℕ) (ops : List Op) (p : ℕ) (old new : ChunksValue) : Type 0 where
  pub interval : new.interval ≡ old.interval
  pub earlier : (q : ℕ) → q < p → rows_seen q new ≡ rows_seen q old
  pub later : (q : ℕ) → p ≤ q → rows_seen q new ≡ after_ops t ops (rows_seen q old)
  pub stored : in_order (rows_of new.versions) ≡ in_order (rows_of old.versions ++ all_appended t ops)
  pub up_to : IsUpTo p new.versions

-- what these operations add to an effect, if table t has these rows
pub record Counts (t : ℕ) (ops : List Op) (rows : List Row) (before after : Effect) : Type 0 where
  pub inserted : after.inserted ≡ before.inserted + length (all_appended t ops)
  pub removed : after.removed ≡ before.removed + length (all_taken t ops rows)
  pub hull : after.hull ≡ joined_hull before.hull (hull_of (all_appended t ops ++ all_taken t ops rows))

-- the effect of operations on table t, which has these rows
pub record IsEffect (t : ℕ) (ops : List Op) (rows : List Row) (effect : Effect) : Type 0 where
  pub inserted : effect.inserted ≡ length (all_appended t ops)
  pub removed : effect.removed ≡ length (all_taken t ops rows)
  pub hull : effect.hull ≡ hull_of_ops t ops rows
