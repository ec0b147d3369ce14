-- The request of a statement to an aggregate: a plan, or the first refusal, or nothing if it isn't a roll-up.
use Rattle.std.specs.Prelude.{◌≡◌, ℕ, List, map, slice_index_or, Option, Some, None, unwrap_or, Result, Ok, Err, ⊤}
use Rattle.ts_schema.specs.declared.conditions.Test.{Test}
use Rattle.ts_model.specs.declared.outcomes.Refusal.{Refusal}
use Rattle.ts_model.specs.declared.rosters.Roster.{Roster}
use Rattle.ts_model.specs.declared.views.ViewDef.{ViewDef}
use Rattle.ts_catalog.specs.Relations.{found_in}
use Rattle.ts_catalog.specs.declared.relations.Found.{Found}
use Rattle.ts_catalog.specs.declared.relations.Found.TheVariants as found
use Rattle.stmt_syntax.specs.declared.statements.NamedAgg.{NamedAgg}
use Rattle.stmt_syntax.specs.declared.statements.NamedFold.{NamedFold}
use Rattle.stmt_syntax.specs.declared.statements.NamedTest.{NamedTest}
use Rattle.stmt_syntax.specs.declared.statements.Stmt.{Stmt}
use Rattle.stmt_syntax.specs.declared.statements.Stmt.TheVariants as stmts
use Rattle.stmt_check.specs.Check.{no_view}
use Rattle.stmt_check.specs.Folds.{width_of}
use Rattle.hier_agg.specs.Refusals.{agg_named, key_named, upper_refusal}
use Rattle.hier_agg.specs.declared.plans.UpperPlan.{UpperPlan}
use Rattle.hier_agg.specs.declared.reads.UpperRead.{UpperRead}
use Rattle.hier_agg.specs.declared.reads.UpperRead.TheVariants as reads
use Rattle.hier_agg.specs.declared.stops.PlanStop.{PlanStop}
use Rattle.hier_agg.specs.declared.stops.PlanStop.TheVariants as stops

-- ---- the plan

-- the number of a key by its name
abbrev pub key_number : ViewDef → List ℕ → ℕ
key_number def name = unwrap_or (key_named def name) 0

-- the number of a function's column
abbrev pub argument_of : ViewDef → Option (List ℕ) → ℕ
argument_of def None = 0
argument_of def (Some name) = unwrap_or (agg_named def name) 0

-- the numbers of the functions' columns
abbrev pub arguments_of : ViewDef → List NamedAgg → List ℕ
arguments_of def aggs = map (λ a. argument_of def a.col) aggs

-- a test with the number of its key
abbrev pub test_of : ViewDef → NamedTest → Test
test_of def t = record { col = key_number def t.col; cmp = t.cmp; num = t.num }

-- the plan of a roll-up over aggregate number n
abbrev pub plan_of : ℕ → ViewDef → NamedFold → UpperPlan
plan_of n def f = record {
  view = n;
  width = width_of f;
  keys = map (key_number def) f.keys;
  cols = arguments_of def f.aggs;
  tests = map (test_of def) f.tests;
}

-- ---- the read

-- the aggregate with this number
abbrev pub view_numbered : Roster → ℕ → ViewDef
view_numbered roster n = slice_index_or roster.views n no_view

-- the first refusal, or the plan if there is none
abbrev pub read_as : Option Refusal → UpperPlan → UpperRead
read_as None plan = reads.Plan plan
read_as (Some r) plan = reads.Refused r

-- the request of a fold over what was found: it is a roll-up if that is an aggregate
abbrev pub fold_read : ℕ → Roster → NamedFold → Found → UpperRead
fold_read pos roster f found.None = reads.NotUpper
fold_read pos roster f (found.Plain n) = reads.NotUpper
fold_read pos roster f (found.Hyper n) = reads.NotUpper
fold_read pos roster f (found.View n) =
    read_as (upper_refusal pos (view_numbered roster n) f) (plan_of n (view_numbered roster n) f)

-- the request of a statement: only SELECT time_bucket can be a roll-up
abbrev pub upper_read : ℕ → Roster → Stmt → UpperRead
upper_read pos roster (stmts.Table name cols) = reads.NotUpper
upper_read pos roster (stmts.Hyper table col interval) = reads.NotUpper
upper_read pos roster (stmts.View name only filled fold) = reads.NotUpper
upper_read pos roster (stmts.Mode view only) = reads.NotUpper
upper_read pos roster (stmts.Insert table cols rows) = reads.NotUpper
upper_read pos roster (stmts.Delete table tests) = reads.NotUpper
upper_read pos roster (stmts.Drop table below) = reads.NotUpper
upper_read pos roster (stmts.Refresh view lo hi) = reads.NotUpper
upper_read pos roster (stmts.Cut view lo hi) = reads.NotUpper
upper_read pos roster (stmts.Snap cut) = reads.NotUpper
upper_read pos roster (stmts.Finish cut) = reads.NotUpper
upper_read pos roster stmts.Begin = reads.NotUpper
upper_read pos roster stmts.BeginRead = reads.NotUpper
upper_read pos roster stmts.Commit = reads.NotUpper
upper_read pos roster stmts.Rollback = reads.NotUpper
upper_read pos roster (stmts.Buckets fold) = fold_read pos roster fold (found_in roster fold.table)
upper_read pos roster (stmts.Calendar number unit fold) = reads.NotUpper
upper_read pos roster (stmts.Rows table tests) = reads.NotUpper

-- this was read, or memory ran out
abbrev pub IsRead : UpperRead → UpperRead → Type 0
IsRead read (reads.Plan plan) = read ≡ reads.Plan plan
IsRead read (reads.Refused r) = read ≡ reads.Refused r
IsRead read reads.NotUpper = read ≡ reads.NotUpper
IsRead read reads.NoMemory = ⊤

-- ---- parts of it

-- a part with this first refusal, if any, and this value
abbrev pub Checks : {T : Type 0} → Option Refusal → T → Result T PlanStop → Type 0
Checks refusal value (Ok v) = (refusal ≡ None) × (v ≡ value)
Checks refusal value (Err (stops.Refused r)) = refusal ≡ Some r
Checks refusal value (Err stops.NoMemory) = ⊤
