-- Columns by their names.
use Rattle.std.specs.Prelude.{ℕ, ◌+◌, ◌==◌, nat_lt, if◌then◌else◌, List, [], ◌∷◌, Option, Some, None, option_map}
use Rattle.ts_model.specs.declared.tables.Hyper.{Hyper}
use Rattle.ts_model.specs.declared.tables.TableInfo.{TableInfo}
use Rattle.ts_model.specs.declared.views.ViewDef.{ViewDef}
use Rattle.ts_schema.specs.declared.columns.Column.{Column}
use Rattle.ts_model.specs.Roster.{same_name}

-- the place, counted from k, of the first of these names that equals this one
abbrev pub place_from : List ℕ → ℕ → List (List ℕ) → Option ℕ
place_from name k [] = None
place_from name k (n ∷ ns) = if same_name n name then Some k else place_from name (k + 1) ns

-- the place, counted from k, of the first column with this name
abbrev pub column_from : List ℕ → ℕ → List Column → Option ℕ
column_from name k [] = None
column_from name k (c ∷ cs) = if same_name c.name name then Some k else column_from name (k + 1) cs

-- the number of a hypertable's column by its declared place, if the time column has the place `at`: the time
-- column is number 0, and the others count from 1 in declared order
abbrev pub hyper_number : ℕ → ℕ → ℕ
hyper_number at place = if place == at then 0 else if nat_lt place at then place + 1 else place

-- the number of a column by its declared place
abbrev pub number_of : Option Hyper → ℕ → ℕ
number_of None place = place
number_of (Some hyper) place = hyper_number hyper.at place

-- the number of a table's column by its name
abbrev pub column_of : TableInfo → List ℕ → Option ℕ
column_of info name = option_map (number_of info.hyper) (column_from name 0 info.def.cols)

-- the place of an aggregate's output column by its name; the bucket is number 0
abbrev pub view_column_of : ViewDef → List ℕ → Option ℕ
view_column_of def name = place_from name 0 def.names
