-- A statement's first refusal, and what it requests if there is none.
use Rattle.std.specs.Prelude.{◌≡◌, ℕ, ℤ, pos as nonneg, true, false, List, [], ◌∷◌, length, slice_index_or, Option, Some, None, unwrap_or, ⊤, IsTrue, ◌<◌, ◌^◌, Result}
use Rattle.std.specs.List.{AllByRecursion}
use Rattle.ts_model.specs.declared.events.Op.TheVariants as ops
use Rattle.ts_model.specs.declared.outcomes.Refusal.{Refusal}
use Rattle.ts_model.specs.declared.queries.Query.{Query}
use Rattle.ts_model.specs.declared.queries.Query.TheVariants as queries
use Rattle.ts_model.specs.declared.rosters.Roster.{Roster}
use Rattle.ts_model.specs.declared.tables.Hyper.{Hyper}
use Rattle.ts_model.specs.declared.tables.TableInfo.{TableInfo}
use Rattle.ts_model.specs.declared.views.ViewDef.{ViewDef}
use Rattle.ts_schema.specs.declared.rows.Row.{Row}
use Rattle.ts_catalog.specs.Columns.{column_from}
use Rattle.ts_catalog.specs.Relations.{CanBeNumbered, found_in}
use Rattle.ts_catalog.specs.declared.relations.Found.{Found}
use Rattle.ts_catalog.specs.declared.relations.Found.TheVariants as found
use Rattle.stmt_syntax.specs.declared.statements.NamedTest.{NamedTest}
use Rattle.stmt_syntax.specs.declared.statements.Stmt.{Stmt}
use Rattle.stmt_syntax.specs.declared.statements.Stmt.TheVariants as stmts
use Rattle.stmt_check.specs.declared.actions.Action.{Action}
use Rattle.stmt_check.specs.declared.actions.Action.TheVariants as actions
use Rattle.stmt_check.specs.declared.actions.Checked.{Checked}
use Rattle.stmt_check.specs.declared.actions.Checked.TheVariants as checked
use Rattle.stmt_check.specs.Folds.{calendar_of, calendar_refusal, fold_of, fold_refusal, unit_count, output_names, tests_of, tests_refusal}
use Rattle.stmt_check.specs.Queries.{bound_refusal, drop_test, starts_of, starts_refusal}
use Rattle.stmt_check.specs.Refusals.{◌⊳◌, hypertable_refusal, name_refusal, number_of, plain_refusal, query_refusal, view_refusal}
use Rattle.stmt_check.specs.Rows.{insert_refusal, inserted_rows}
use Rattle.stmt_check.specs.Tables.{hyper_refusal, is_interval, table_refusal}
use Rattle.stmt_check.specs.declared.actions.ResolveStop.{ResolveStop}
use Rattle.stmt_check.specs.Results.{Checks}

-- a table without columns
abbrev pub no_table : TableInfo
no_table = record { def = record { name = []; cols = [] }; hyper = None }

-- an aggregate without columns
abbrev pub no_view : ViewDef
no_view =
    record {
      name = [];
      table = 0;
      fold = record { width = record { step = nonneg 1; shift = nonneg 0 }; keys = []; aggs = []; tests = [] };
      names = [];
      only = false;
    }

-- the table that was found
abbrev pub table_at : Roster → Found → TableInfo
table_at roster f = slice_index_or roster.tables (number_of f) no_table

-- the aggregate that was found
abbrev pub view_at : Roster → Found → ViewDef
view_at roster f = slice_index_or roster.views (number_of f) no_view

-- the declared place of a hypertable's time column
abbrev pub time_of : Option Hyper → ℕ
time_of None = 0
time_of (Some h) = h.at

-- the interval of a hypertable's chunks
abbrev pub interval_of : Option Hyper → ℤ
interval_of None = nonneg 1
interval_of (Some h) = h.interval

-- the tests of SELECT * on what was found
abbrev pub rows_query_refusal : ℕ → Roster → Found → List NamedTest → Option Refusal
rows_query_refusal pos roster found.None tests = None
rows_query_refusal pos roster (found.Plain n) tests = None
rows_query_refusal pos roster (found.Hyper n) tests = tests_refusal pos (table_at roster (found.Hyper n)) tests
rows_query_refusal pos roster (found.View n) tests = starts_refusal pos (view_at roster (found.View n)) tests

-- the refusals of a statement's names and values, by what the name of its relation refers to
abbrev pub refusal_of : ℕ → Roster → Stmt → Option Refusal
refusal_of pos roster (stmts.Table name cols) = table_refusal pos roster name cols
refusal_of pos roster (stmts.Hyper table col interval) =
    plain_refusal pos (found_in roster table)
    ⊳ hyper_refusal pos (table_at roster (found_in roster table)).def.cols col interval
refusal_of pos roster (stmts.View name only filled fold) =
    name_refusal pos roster name (length roster.views) ⊳ hypertable_refusal pos (found_in roster fold.table)
    ⊳ fold_refusal pos true (table_at roster (found_in roster fold.table)) fold
refusal_of pos roster (stmts.Mode view only) = view_refusal pos (found_in roster view)
refusal_of pos roster (stmts.Insert table cols rows) =
    hypertable_refusal pos (found_in roster table)
    ⊳ insert_refusal pos (time_of (table_at roster (found_in roster table)).hyper)
    (table_at roster (found_in roster table)).def.cols cols rows
refusal_of pos roster (stmts.Delete table tests) =
    hypertable_refusal pos (found_in roster table) ⊳ tests_refusal pos (table_at roster (found_in roster table)) tests
refusal_of pos roster (stmts.Drop table below) =
    hypertable_refusal pos (found_in roster table) ⊳ bound_refusal pos (Some below)
refusal_of pos roster (stmts.Refresh view lo hi) =
    view_refusal pos (found_in roster view) ⊳ bound_refusal pos lo ⊳ bound_refusal pos hi
refusal_of pos roster (stmts.Cut view lo hi) =
    view_refusal pos (found_in roster view) ⊳ bound_refusal pos lo ⊳ bound_refusal pos hi
refusal_of pos roster (stmts.Snap cut) = None
refusal_of pos roster (stmts.Finish cut) = None
refusal_of pos roster stmts.Begin = None
refusal_of pos roster stmts.BeginRead = None
refusal_of pos roster stmts.Commit = None
refusal_of pos roster stmts.Rollback = None
refusal_of pos roster (stmts.Buckets fold) =
    hypertable_refusal pos (found_in roster fold.table)
    ⊳ fold_refusal pos false (table_at roster (found_in roster fold.table)) fold
refusal_of pos roster (stmts.Calendar number unit fold) =
    hypertable_refusal pos (found_in roster fold.table)
    ⊳ calendar_refusal pos (table_at roster (found_in roster fold.table)) number unit fold
refusal_of pos roster (stmts.Rows table tests) =
    query_refusal pos (found_in roster table) ⊳ rows_query_refusal pos roster (found_in roster table) tests

-- the query of SELECT * on what was found
abbrev pub rows_query : Roster → Found → List NamedTest → Query
rows_query roster found.None tests = queries.Rows 0 []
rows_query roster (found.Plain n) tests = queries.Rows n []
rows_query roster (found.Hyper n) tests = queries.Rows n (tests_of (table_at roster (found.Hyper n)) tests)
rows_query roster (found.View n) tests = queries.Aggregate n (starts_of tests)

-- the rows of an INSERT into a hypertable
abbrev pub rows_into : TableInfo → Option (List (List ℕ)) → List (List (Option ℤ)) → List Row
rows_into info cols rows = inserted_rows (time_of info.hyper) info.def.cols cols rows

-- the request of a statement, with its names resolved
abbrev pub action_of : Roster → Stmt → Action
action_of roster (stmts.Table name cols) = actions.Table (record { name = name; cols = cols })
action_of roster (stmts.Hyper table col interval) =
    actions.Hyper (number_of (found_in roster table))
    (record { at = unwrap_or (column_from col 0 (table_at roster (found_in roster table)).def.cols) 0; interval = interval })
action_of roster (stmts.View name only filled fold) =
    actions.View (record {
      name = name;
      table = number_of (found_in roster fold.table);
      fold = fold_of (table_at roster (found_in roster fold.table)) fold;
      names = output_names fold;
      only = only;
    }) filled
action_of roster (stmts.Mode view only) = actions.Mode (number_of (found_in roster view)) only
action_of roster (stmts.Insert table cols rows) =
    actions.Change
    (ops.Insert (number_of (found_in roster table)) (rows_into (table_at roster (found_in roster table)) cols rows))
action_of roster (stmts.Delete table tests) =
    actions.Change
    (ops.Delete (number_of (found_in roster table)) (tests_of (table_at roster (found_in roster table)) tests))
action_of roster (stmts.Drop table below) =
    actions.Change
    (ops.Delete (number_of (found_in roster table)) (drop_test (interval_of (table_at roster (found_in roster table)).hyper) below ∷ []))
action_of roster (stmts.Refresh view lo hi) = actions.Refresh (number_of (found_in roster view)) lo hi
action_of roster (stmts.Cut view lo hi) = actions.Cut (number_of (found_in roster view)) lo hi
action_of roster (stmts.Snap cut) = actions.Snap cut
action_of roster (stmts.Finish cut) = actions.Finish cut
action_of roster stmts.Begin = actions.Begin
action_of roster stmts.BeginRead = actions.BeginRead
action_of roster stmts.Commit = actions.Commit
action_of roster stmts.Rollback = actions.Rollback
action_of roster (stmts.Buckets fold) =
    actions.Ask
    (queries.Buckets (number_of (found_in roster fold.table)) (fold_of (table_at roster (found_in roster fold.table)) fold))
action_of roster (stmts.Calendar number unit fold) =
    actions.Calendar (number_of (found_in roster fold.table)) (unwrap_or (unit_count number) 0) unit
    (time_of (table_at roster (found_in roster fold.table)).hyper)
    (calendar_of (table_at roster (found_in roster fold.table)) fold)
action_of roster (stmts.Rows table tests) = actions.Ask (rows_query roster (found_in roster table) tests)

-- a statement is resolved: its request if nothing is refused, and otherwise the first refusal
abbrev pub Resolves : ℕ → Roster → Stmt → Result Action ResolveStop → Type 0
Resolves pos roster stmt result = Checks (refusal_of pos roster stmt) (action_of roster stmt) result

-- the check of a statement: the action if nothing is refused, and otherwise the first refusal
abbrev pub IsChecked : ℕ → Roster → Stmt → Checked → Type 0
IsChecked pos roster stmt (checked.Ready action) =
    (refusal_of pos roster stmt ≡ None) × (action ≡ action_of roster stmt)
IsChecked pos roster stmt (checked.Refused r) = refusal_of pos roster stmt ≡ Some r
IsChecked pos roster stmt checked.NoMemory = ⊤

-- 32 bits suffice to number all relations and their columns, and intervals are in range
pub record IsNumbered (roster : Roster) : Type 0 where
  pub relations : CanBeNumbered roster
  pub columns : AllByRecursion (λ t. length t.def.cols < 2 ^ 32) roster.tables
  pub intervals : AllByRecursion (λ t. IsTrue (is_interval (interval_of t.hyper))) roster.tables
  pub outputs : AllByRecursion (λ v. length v.names < 2 ^ 32) roster.views
