-- A hypertable's state, compared with a history.
use Rattle.std.specs.Prelude.{◌≡◌, ℕ, List, Option, Some, None}
use Rattle.std.specs.List.{slice_get}
use Rattle.std.specs.Option.{option_and_then}
use Rattle.chunk_catalog.specs.Chunks.{ChunksValue}
use Rattle.inval_log.specs.Logs.{LogValue as TableLog}
use Rattle.ts_model.specs.declared.tables.Hyper.{Hyper}
use Rattle.ts_model.specs.History.{History}
use Rattle.row_versions.specs.Histories.{Holds}
use Rattle.engine_state.specs.Notes.{LogStands}

-- what contracts see of it: its rows at every position, and the log of noted hulls
pub record TableValue : Type 0 where
  pub rows : ChunksValue
  pub log : TableLog

-- hypertable number t. A table that isn't a hypertable has no state
abbrev pub table_at : List (Option TableValue) → ℕ → Option TableValue
table_at tables t = option_and_then (λ o. o) (slice_get tables t)

-- it is that of hypertable number t: it holds the rows of the history at every position, in chunks of the table's
-- interval
pub record TableStands (h : History) (t : ℕ) (hyper : Hyper) (table : TableValue) : Type 0 where
  pub rows : Holds t h table.rows
  pub interval : table.rows.interval ≡ hyper.interval
  pub log : LogStands h table.log

-- a hypertable has its state, and another table has none
abbrev pub TableIs : History → ℕ → Option Hyper → Option TableValue → Type 0
TableIs h t None None = Unit {0}
TableIs h t None (Some table) = ⊥
TableIs h t (Some hyper) None = ⊥
TableIs h t (Some hyper) (Some table) = TableStands h t hyper table
