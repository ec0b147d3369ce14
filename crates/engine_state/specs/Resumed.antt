-- The state of a history that begins with an image.
use Rattle.std.specs.Prelude.{◌≡◌, ℕ, true, List, [], ℤ, Option, Some, None}
use Rattle.ts_schema.specs.declared.rows.Row.{Row}
use Rattle.seg_rows.specs.Versions.{rows_of}
use Rattle.chunk_catalog.specs.Chunks.{ChunksValue}
use Rattle.coverage.specs.Notes.{number_of}
use Rattle.partial_agg.specs.declared.groups.Group.{Group}
use Rattle.ts_model.specs.declared.images.Image.{Image}
use Rattle.ts_model.specs.declared.images.SavedView.{SavedView}
use Rattle.ts_model.specs.declared.tables.TableInfo.{TableInfo}
use Rattle.ts_model.specs.declared.views.ViewDef.{ViewDef}
use Rattle.ts_model.specs.History.{resumed}
use Rattle.ts_model.specs.Refreshes.{threshold}
use Rattle.ts_model.specs.Roster.{view_of}
use Rattle.ts_model.specs.Rows.{in_order}
use Rattle.ts_model.specs.Saved.{saved_view}
use Rattle.ts_model.specs.Valid.{image_roster, valid}
use Rattle.row_versions.specs.Histories.{Holds}
use Rattle.row_versions.specs.Tables.{IsUpTo, rows_seen}
use Rattle.engine_state.specs.GroupRebuilds.{IsRefolded}
use Rattle.engine_state.specs.Stands.{TableAt}
use Rattle.engine_state.specs.Tables.{TableValue}

-- ---- tables

-- a table holds these rows since the first position
pub record IsHeld (rows : List Row) (table : ChunksValue) : Type 0 where
  pub seen : (q : ℕ) → rows_seen q table ≡ in_order rows
  pub stored : in_order (rows_of table.versions) ≡ in_order rows
  pub up_to : IsUpTo 0 table.versions

-- a hypertable's log is empty, and has this threshold
abbrev pub HasLog : ℤ → Option TableValue → Type 0
HasLog threshold None = Unit {0}
HasLog threshold (Some table) = (table.log.threshold ≡ threshold) × (table.log.entries ≡ [])

-- table number t of an image has this state
abbrev pub ResumedAt : Image → ℕ → TableInfo → Option TableValue → Type 0
ResumedAt i t info table = TableAt (resumed i) t info table × HasLog (number_of (threshold t (resumed i))) table

-- ---- aggregates

-- aggregate number n of a valid image, its saved parts, and the groups of all rows of its table, if it was
-- refreshed
pub record IsKeptOf (i : Image) (n : ℕ) (def : ViewDef) (kept : SavedView) (anew : List Group) : Type 0 where
  pub ok : valid i ≡ true
  pub there : view_of (image_roster i) n ≡ Some def
  pub kept_is : saved_view n i ≡ kept
  pub anew_are : IsRefolded i def kept anew

-- the same with the state of its table
pub record IsSavedOf (i : Image) (n : ℕ) (def : ViewDef) (kept : SavedView) (table : TableValue) (anew : List Group)
    : Type 0 where
  pub is_kept : IsKeptOf i n def kept anew
  pub threshold_is : table.log.threshold ≡ number_of (threshold def.table (resumed i))
  pub entries_are : table.log.entries ≡ []
