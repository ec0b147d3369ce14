-- A table beside a history.
use Rattle.std.specs.Prelude.{◌≡◌, ℕ}
use Rattle.ts_model.specs.History.{History, position, prefix}
use Rattle.ts_model.specs.Rows.{in_order, rows}
use Rattle.ts_model.specs.Reads.{rows_inserted}
use Rattle.seg_rows.specs.Versions.{rows_of}
use Rattle.chunk_catalog.specs.Chunks.{ChunksValue}
use Rattle.row_versions.specs.Tables.{rows_seen, IsUpTo}

-- this table holds table t of a history: every position sees the rows that the history has there. All rows that
-- were ever inserted are stored, removed or not, and no change is later than the history
pub record Holds (t : ℕ) (h : History) (table : ChunksValue) : Type 0 where
  pub seen : (q : ℕ) → rows_seen q table ≡ rows t (prefix h q)
  pub stored : in_order (rows_of table.versions) ≡ in_order (rows_inserted t h)
  pub up_to : IsUpTo (position h) table.versions
