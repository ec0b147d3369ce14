-- The rows that a table shows are all its rows.
use Rattle.std.proofs.Common.{◌≡◌, ◌∙◌, refl, sym, ap, subst, true, List, [], ◌∷◌, filter, length, Option, None, Some, arith}
use Rattle.std.specs.List.{list_all}
use Rattle.std.specs.Option.{option_and_then}
use Rattle.std.proofs.lemmas.Bool.{true≢false}
use Rattle.std.proofs.lemmas.List.{length-map}
use Rattle.ts_schema.specs.Conditions.{passes_all}
use Rattle.ts_schema.specs.declared.rows.Row.{Row}
use Rattle.ts_model.specs.declared.tables.Hyper.{Hyper}
use Rattle.ts_model.specs.declared.tables.TableDef.{TableDef}
use Rattle.ts_model.specs.declared.tables.TableInfo.{TableInfo}
use Rattle.ts_model.specs.Allowed.{all_consistent}
use Rattle.ts_model.specs.Answers.{answer, all_columns, passing_rows}
use Rattle.ts_model.specs.History.{History, position}
use Rattle.ts_model.specs.Laws.{fits_table}
use Rattle.ts_model.specs.Roster.{of_hyper, of_table, roster, table_of}
use Rattle.ts_model.specs.Rows.{rows}
use Rattle.ts_model.specs.Sound.{row_fits}
use Rattle.ts_model.proofs.FitLaws.{rows_fit_tables}
use Rattle.ts_model.proofs.HistoryLaws.{prefix_end}
use Rattle.demo_run.specs.Sums.{all_rows}

-- each row matches an empty list of tests
all_pass : (xs : List Row) → filter (λ row. passes_all row []) xs ≡ xs
all_pass [] = refl
all_pass (x ∷ xs) = ap (λ rest. x ∷ rest) (all_pass xs)

-- only a hypertable has rows
by_hyper : (def : TableDef) (o : Option Hyper) (xs : List Row) → list_all (λ row. of_hyper (λ d hyper. row_fits d hyper row) def o) xs ≡ true → length (passing_rows xs [] o) ≡ length xs
by_hyper def None [] fit = refl
by_hyper def None (x ∷ xs) fit = absurd (true≢false (sym fit))
by_hyper def (Some hyper) xs fit = length-map _ (all_columns hyper.at) ∙ ap length (all_pass xs)

by_table : (o : Option TableInfo) (xs : List Row) → list_all (λ row. of_table (λ def hyper. row_fits def hyper row) o) xs ≡ true → length (passing_rows xs [] (option_and_then (λ info. info.hyper) o)) ≡ length xs
by_table None [] fit = refl
by_table None (x ∷ xs) fit = absurd (true≢false (sym fit))
by_table (Some info) xs fit = by_hyper info.def info.hyper xs fit

rows_fit : (h : History) → all_consistent h ≡ true → list_all (fits_table (roster h) 0) (rows 0 h) ≡ true
rows_fit h consistent = subst (λ g. list_all (fits_table (roster h) 0) (rows 0 g) ≡ true) (prefix_end h (position h) (omega arith)) (rows_fit_tables.rows 0 h (position h) consistent)

pub shown_are_rows : (h : History) → all_consistent h ≡ true → length (answer all_rows h).rows ≡ length (rows 0 h)
shown_are_rows h consistent = by_table (table_of (roster h) 0) (rows 0 h) (rows_fit h consistent)
