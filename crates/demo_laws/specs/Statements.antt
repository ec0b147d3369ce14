-- Which statement each line of a demonstration is, and what it asks for.
use Rattle.std.specs.Prelude.{ℕ, ◌*◌, ◌%◌, ℤ, pos, ◌-ℤ◌, false, List, [], ◌∷◌, map, Option, Some, None, codes}
use Rattle.std.specs.List.{range_with_len}
use Rattle.ts_num.specs.declared.values.Fun.TheVariants as fun
use Rattle.ts_model.specs.declared.rosters.Roster.{Roster}
use Rattle.ts_model.specs.Roster.{no_relations}
use Rattle.stmt_syntax.specs.declared.statements.NamedFold.{NamedFold}
use Rattle.stmt_syntax.specs.declared.statements.Stmt.{Stmt}
use Rattle.stmt_syntax.specs.declared.statements.Stmt.TheVariants as stmts
use Rattle.stmt_check.specs.declared.actions.Action.{Action}
use Rattle.stmt_check.specs.declared.actions.Action.TheVariants as actions
use Rattle.demo_script.specs.Demo.{number_of, time_of, value_of}
use Rattle.demo_script.specs.declared.lines.Line.{Line}
use Rattle.demo_script.specs.declared.lines.Line.TheVariants as lines
use Rattle.demo_laws.specs.Acts.{demo_table, demo_hyper, demo_view, roster_of_table, roster_of_hypertable, demo_roster, insert_act, refresh_act, answer_act, late_act}

-- ---- statements

-- the values of a row: its time, its device and its value
abbrev pub values_with : ℤ → ℕ → ℕ → List (Option ℤ)
values_with time device value = Some time ∷ Some (pos device) ∷ Some (pos value) ∷ []

-- the values of the row at a place of a round
abbrev pub values_at : ℕ → ℕ → ℕ → List (Option ℤ)
values_at demo round place =
    let number = number_of round place in
    values_with (time_of number place) (number % 8) (value_of demo number)

-- the values of consecutive rows of a round
unfoldable pub values_of : ℕ → ℕ → ℕ → ℕ → List (List (Option ℤ))
values_of demo round first count = map (values_at demo round) (range_with_len first count)

-- what the aggregate folds
abbrev pub named_fold : NamedFold
named_fold = record {
  step = pos 100;
  shift = pos 0;
  at = codes "time";
  name = Some (codes "bucket");
  keys = codes "dev" ∷ [];
  aggs =
      record { fun = fun.CountAll; col = None; name = None }
      ∷ record { fun = fun.Sum; col = Some (codes "val"); name = None } ∷ [];
  table = codes "m";
  tests = [];
}

-- the statement of a line
abbrev pub stmt_of : ℕ → Line → Stmt
stmt_of demo lines.Table = stmts.Table demo_table.name demo_table.cols
stmt_of demo lines.Hypertable = stmts.Hyper (codes "m") (codes "time") (pos 5000)
stmt_of demo lines.Aggregate = stmts.View (codes "m100") false false named_fold
stmt_of demo (lines.Insert round part) = stmts.Insert (codes "m") None (values_of demo round (100 * part) 100)
stmt_of demo (lines.Refresh round) =
    stmts.Refresh (codes "m100") (Some (pos (5000 * round) -ℤ pos 5000)) (Some (pos (5000 * round)))
stmt_of demo lines.Answer = stmts.Rows (codes "m100") []
stmt_of demo lines.LateRow = stmts.Insert (codes "m") None (values_with (pos 1000) 0 (demo % 1000) ∷ [])

-- ---- actions

-- the roster that a line finds
abbrev pub roster_before : Line → Roster
roster_before lines.Table = no_relations
roster_before lines.Hypertable = roster_of_table
roster_before lines.Aggregate = roster_of_hypertable
roster_before (lines.Insert round part) = demo_roster
roster_before (lines.Refresh round) = demo_roster
roster_before lines.Answer = demo_roster
roster_before lines.LateRow = demo_roster

-- what a line asks for
abbrev pub act_of : ℕ → Line → Action
act_of demo lines.Table = actions.Table demo_table
act_of demo lines.Hypertable = actions.Hyper 0 demo_hyper
act_of demo lines.Aggregate = actions.View demo_view false
act_of demo (lines.Insert round part) = insert_act demo round part
act_of demo (lines.Refresh round) = refresh_act round
act_of demo lines.Answer = answer_act
act_of demo lines.LateRow = late_act demo
