-- The rows of a hypertable fit a grouping by calendar buckets.
use Rattle.std.proofs.Common.{◌≡◌, ℕ, ◌<◌, Bool, true, false, cond, List, [], ◌∷◌, length, map, filter, Option, Some, None, sym, refl, ap, ◌∙◌, subst, arith}
use Rattle.std.specs.Prelude.{nat_lt, option_and_then, option_map, unwrap_or}
use Rattle.std.specs.List.{AllByRecursion, list_all}
use Rattle.std.proofs.lemmas.Bool.{and_from, and_parts, ltb-true}
use Rattle.ts_schema.specs.Conditions.{passes_all}
use Rattle.ts_schema.specs.declared.conditions.Test.{Test}
use Rattle.ts_schema.specs.declared.rows.Row.{Row}
use Rattle.ts_model.specs.declared.queries.Answer.{Answer}
use Rattle.ts_model.specs.declared.queries.Query.{Query}
use Rattle.ts_model.specs.declared.queries.Query.TheVariants.{Rows}
use Rattle.ts_model.specs.declared.tables.Hyper.{Hyper}
use Rattle.ts_model.specs.declared.tables.TableDef.{TableDef}
use Rattle.ts_model.specs.declared.tables.TableInfo.{TableInfo}
use Rattle.ts_model.specs.declared.events.Event.TheVariants.{Table as TableEvent}
use Rattle.ts_model.specs.declared.views.Fold.{Fold}
use Rattle.ts_model.specs.Allowed.{all_consistent}
use Rattle.ts_model.specs.Answers.{all_columns, answer, can_ask, columns_are_there, passing_rows}
use Rattle.ts_model.specs.History.{History, position}
use Rattle.ts_model.specs.Roster.{no_relations, of_hyper, of_table, roster, table_of}
use Rattle.ts_model.specs.Rows.{rows}
use Rattle.ts_model.specs.Sound.{row_fits, sound_in}
use Rattle.ts_model.specs.Laws.{fits_table, is_hyper_sound}
use Rattle.ts_model.proofs.FitLaws.{rows_fit_tables}
use Rattle.ts_model.proofs.HistoryLaws.{prefix_end}
use Rattle.ts_model.proofs.SoundLaws.{rosters_are_sound}
use Rattle.cal_bucket.specs.declared.plans.CalPlan.{CalPlan}
use Rattle.cal_bucket.specs.Rows.{ShowARow}
use Rattle.cal_bucket.proofs.RowLaws.{fitting_rows_are_shown}
use Rattle.stmt_check.specs.Sound.{IsCalendar}
use Rattle.ts_sessions.specs.Deeds.{AsksCalendar}
use Rattle.ts_sessions.specs.Step.{calendar_plan, unit_of}

-- if all rows pass a test, so do the rows that a filter keeps
left_fit : (test keeps : Row → Bool) (xs : List Row) → list_all test xs ≡ true → list_all test (filter keeps xs) ≡ true
left_fit test keeps [] e = refl
left_fit test keeps (x ∷ xs) e =
    let parts = and_parts (test x) (list_all test xs) e in
    elim (keeps x) as (λ b. list_all test (cond b (x ∷ filter keeps xs) (filter keeps xs)) ≡ true) [
      | true ↦ and_from (test x) (list_all test (filter keeps xs)) parts.0 (left_fit test keeps xs parts.1)
      | false ↦ left_fit test keeps xs parts.1
    ]

-- ---- tests

-- if a table has the columns of a grouping, it has those of its tests
tests_of_hyper : (fold : Fold) (def : TableDef) (o : Option Hyper) → of_hyper (λ d hyper. columns_are_there (length d.cols) fold) def o ≡ true → of_hyper (λ d hyper. list_all (λ test. nat_lt test.col (length d.cols)) fold.tests) def o ≡ true
tests_of_hyper fold def None e = e
tests_of_hyper fold def (Some hyper) e = (and_parts _ (list_all (λ test. nat_lt test.col (length def.cols)) fold.tests) e).1

tests_of_table : (fold : Fold) (o : Option TableInfo) → of_table (λ d hyper. columns_are_there (length d.cols) fold) o ≡ true → of_table (λ d hyper. list_all (λ test. nat_lt test.col (length d.cols)) fold.tests) o ≡ true
tests_of_table fold None e = e
tests_of_table fold (Some info) e = tests_of_hyper fold info.def info.hyper e

pub rows_asked : (h : History) (table number : ℕ) (unit : List ℕ) (at : ℕ) (fold : Fold) → IsCalendar h table number unit at fold → can_ask (roster h) (Rows table fold.tests) ≡ true
rows_asked h table number unit at fold is = tests_of_table fold (table_of (roster h) table) is.query

-- what an action asks for
abbrev pub calendar_of : ℕ → List ℕ → ℕ → Fold → CalPlan
calendar_of number unit at fold = record { number = number; unit = unit_of unit; at = at; fold = fold }

pub calendar_asked : (h : History) (table number : ℕ) (unit : List ℕ) (at : ℕ) (fold : Fold) → IsCalendar h table number unit at fold
    → AsksCalendar (roster h) (calendar_of number unit at fold) (calendar_plan table (calendar_of number unit at fold)).query
calendar_asked h table number unit at fold is = record { table = table; asks = refl; number = is.in_range; columns = is.columns; place = is.place }

-- ---- rows

-- the rows of a table that fit it, each with all its columns
hyper_shows : (h : History) (t at : ℕ) (tests : List Test) (info : TableInfo) (o : Option Hyper) → is_hyper_sound info o ≡ true → option_map (λ hyper. hyper.at) o ≡ Some at → list_all (λ row. of_hyper (λ d hyper. row_fits d hyper row) info.def o) (rows t h) ≡ true → AllByRecursion (ShowARow at) (passing_rows (rows t h) tests o)
hyper_shows h t at tests info None s p f = absurd (cc p)
hyper_shows h t at tests info (Some hyper) s p f =
    let bound : hyper.at < length info.def.cols = ltb-true _ _ (and_parts (nat_lt hyper.at (length info.def.cols)) _ (and_parts _ _ s).0).0 in
    let passing = filter (λ row. passes_all row tests) (rows t h) in
    let same : hyper.at ≡ at = ap (λ o. unwrap_or o 0) p in
    subst (λ x. AllByRecursion (ShowARow x) (map (all_columns hyper.at) passing)) same
    (fitting_rows_are_shown info.def hyper passing bound (left_fit (row_fits info.def hyper) (λ row. passes_all row tests) (rows t h) f))

table_shows : (h : History) (t at : ℕ) (tests : List Test) (o : Option TableInfo) → all_consistent h ≡ true → table_of (roster h) t ≡ o → option_map (λ hyper. hyper.at) (option_and_then (λ info. info.hyper) o) ≡ Some at → list_all (λ row. of_table (λ d hyper. row_fits d hyper row) o) (rows t h) ≡ true → AllByRecursion (ShowARow at) (passing_rows (rows t h) tests (option_and_then (λ info. info.hyper) o))
table_shows h t at tests None ok e p f = absurd (cc p)
table_shows h t at tests (Some info) ok e p f =
    let sound = and_parts (sound_in no_relations (TableEvent info.def)) (is_hyper_sound info info.hyper) ((rosters_are_sound h ok).tables t info e) in
    hyper_shows h t at tests info info.hyper sound.1 p f

pub calendar_fits : (h : History) (cal : CalPlan) (query : Query) (a : Answer) → all_consistent h ≡ true → AsksCalendar (roster h) cal query → a ≡ answer query h → AllByRecursion (ShowARow cal.at) a.rows
calendar_fits h cal query a ok asks e =
    let t = asks.table in
    let fit : list_all (fits_table (roster h) t) (rows t h) ≡ true = subst (λ g. list_all (fits_table (roster h) t) (rows t g) ≡ true) (prefix_end h (position h) (omega arith)) (rows_fit_tables.rows t h (position h) ok) in
    subst (λ x. AllByRecursion (ShowARow cal.at) x.rows) (sym (e ∙ ap (λ q. answer q h) asks.asks))
    (table_shows h t cal.at cal.fold.tests (table_of (roster h) t) ok refl asks.place fit)
