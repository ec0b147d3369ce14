-- The rows of a hypertable that are visible at a position.
use Rattle.std.specs.Prelude.{ℕ, List, filter}
use Rattle.ts_bucket.specs.Spans.{in_span}
use Rattle.ts_bucket.specs.declared.spans.Span.{Span}
use Rattle.ts_schema.specs.declared.rows.Row.{Row}
use Rattle.seg_rows.specs.Versions.{rows_of}
use Rattle.row_versions.specs.Tables.{visible_rows}
use Rattle.engine_state.specs.Tables.{TableValue}

-- its rows at a position
abbrev pub seen_rows : ℕ → TableValue → List Row
seen_rows p table = visible_rows p table.rows.versions

-- the rows that it stores, removed or not
abbrev pub stored_rows : TableValue → List Row
stored_rows table = rows_of table.rows.versions

-- the rows at a position whose times lie in a span
abbrev pub timed_rows : Span → ℕ → TableValue → List Row
timed_rows times p table = filter (λ row. in_span times row.at) (seen_rows p table)
