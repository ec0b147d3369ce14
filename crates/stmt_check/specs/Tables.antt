-- Tables and hypertables to be created.
use Rattle.std.specs.Prelude.{ℕ, Bool, not, nat_le, ℤ, pos as nonneg, List, [], ◌∷◌, ◌++◌, length, Option, None, int_le, ◌&&◌, Result, unwrap_or}
use Rattle.std.specs.List.{list_any}
use Rattle.ts_model.specs.Numbers.{name_taken, no_column, bad_width, too_many}
use Rattle.ts_bucket.specs.Chunks.{max_interval}
use Rattle.ts_model.specs.Limits.{most_columns}
use Rattle.ts_model.specs.declared.outcomes.Refusal.{Refusal}
use Rattle.ts_model.specs.declared.rosters.Roster.{Roster}
use Rattle.ts_schema.specs.declared.columns.Column.{Column}
use Rattle.ts_catalog.specs.Columns.{column_from}
use Rattle.ts_model.specs.Roster.{same_name}
use Rattle.stmt_check.specs.Refusals.{◌⊳◌, marked_refusal, refusal_if_none, name_refusal, refusal_if}
use Rattle.stmt_check.specs.declared.actions.ResolveStop.{ResolveStop}
use Rattle.stmt_check.specs.Results.{Checks}

-- a name is among these
abbrev pub is_among : List ℕ → List (List ℕ) → Bool
is_among name names = list_any (λ other. same_name other name) names

-- a name is that of one of these columns
abbrev pub is_column : List ℕ → List Column → Bool
is_column name cols = list_any (λ c. same_name c.name name) cols

-- the columns of a table, in order after the earlier ones: none is named twice, and there aren't too many
abbrev pub columns_refusal : ℕ → ℕ → List Column → List Column → Option Refusal
columns_refusal pos count before [] = None
columns_refusal pos count before (c ∷ cs) =
    refusal_if pos name_taken (is_column c.name before) ⊳ marked_refusal pos too_many count (nat_le most_columns (length before))
    ⊳ columns_refusal pos count (before ++ c ∷ []) cs

-- CREATE TABLE
abbrev pub table_refusal : ℕ → Roster → List ℕ → List Column → Option Refusal
table_refusal pos roster name cols =
    name_refusal pos roster name (length roster.tables) ⊳ columns_refusal pos (length cols) [] cols

-- an interval is from 1 to 2 ^ 50
abbrev pub is_interval : ℤ → Bool
is_interval n = int_le (nonneg 1) n && int_le n max_interval

-- the column and the interval of create_hypertable
abbrev pub hyper_refusal : ℕ → List Column → List ℕ → ℤ → Option Refusal
hyper_refusal pos cols col interval =
    refusal_if_none pos no_column (column_from col 0 cols) ⊳ refusal_if pos bad_width (not (is_interval interval))

-- the declared place of the time column, or the refusal of create_hypertable
abbrev pub ChecksHyper : ℕ → List Column → List ℕ → ℤ → Result ℕ ResolveStop → Type 0
ChecksHyper pos cols col interval result =
    Checks (hyper_refusal pos cols col interval) (unwrap_or (column_from col 0 cols) 0) result
