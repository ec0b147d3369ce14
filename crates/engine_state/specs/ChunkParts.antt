-- The rows of a table in a state, and spans that split them.
use Rattle.std.specs.Prelude.{◌≡◌, ℕ, List, [], ◌∷◌, ℤ, ◌≤ℤ◌, Option, Some, None}
use Rattle.ts_bucket.specs.declared.spans.Span.{Span}
use Rattle.ts_schema.specs.declared.rows.Row.{Row}
use Rattle.ts_model.specs.Rows.{in_order}
use Rattle.engine_state.specs.Scans.{seen_rows}
use Rattle.engine_state.specs.Stands.{StateValue}
use Rattle.engine_state.specs.Tables.{TableValue, table_at}

-- the rows that are visible at a position, in order. A table that has no state has none
abbrev pub rows_held : ℕ → Option TableValue → List Row
rows_held p None = []
rows_held p (Some table) = in_order (seen_rows p table)

-- the same for a table of a state
abbrev pub state_rows : StateValue → ℕ → List Row
state_rows s t = rows_held s.position (table_at s.tables t)

-- spans from lo to hi, each of which begins where the one before it ends
abbrev pub AreChained : ℤ → ℤ → List Span → Type 0
AreChained lo hi [] = lo ≡ hi
AreChained lo hi (s ∷ ss) = (lo ≡ s.lo) × ((s.lo ≤ℤ s.hi) × AreChained s.hi hi ss)
