-- Answers over a whole hypertable, and the number of rows that they read.
use Rattle.std.specs.Prelude.{ℕ, List, [], ◌∷◌, map, filter, ℤ}
use Rattle.ts_num.specs.declared.values.Datum.{Datum}
use Rattle.ts_schema.specs.declared.conditions.Test.{Test}
use Rattle.ts_schema.specs.declared.rows.Row.{Row}
use Rattle.ts_schema.specs.Conditions.{passes_all}
use Rattle.ts_model.specs.Answers.{all_columns}
use Rattle.ts_model.specs.Reads.{rows_near}
use Rattle.ts_model.specs.Rows.{in_order}
use Rattle.realtime_union.specs.Live.{all_times}

-- the rows that match every test, in row order, with all their columns, if the time column is at this place
abbrev pub passing_rows : ℕ → List Test → List Row → List (List Datum)
passing_rows at tests rows = map (all_columns at) (filter (λ row. passes_all row tests) (in_order rows))

-- the number of stored rows that a scan of all times reads
abbrev pub all_reads : ℤ → List Row → ℕ
all_reads interval stored = rows_near interval stored (all_times ∷ [])
