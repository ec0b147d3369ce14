-- The cells of a row, read as values.
use Rattle.std.specs.Prelude.{Bool, List}
use Rattle.std.specs.List.{list_all}
use Rattle.ts_num.specs.declared.values.Datum.{Datum}
use Rattle.ts_schema.specs.Conditions.{compares}
use Rattle.ts_schema.specs.declared.conditions.Test.{Test}
use Rattle.ts_model.specs.Results.{cell_at}

-- the cells pass a test on the cell at its place
abbrev pub passes_test : List Datum → Test → Bool
passes_test cells t = compares t.cmp (cell_at cells t.col) t.num

-- and every test
abbrev pub cells_pass : List Test → List Datum → Bool
cells_pass tests cells = list_all (passes_test cells) tests
