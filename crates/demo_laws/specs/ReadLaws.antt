-- The laws, each in one sentence.
use Rattle.std.specs.Prelude.{◌≡◌, ℕ, suc, ◌≤◌, ◌<◌, false}
use Rattle.ts_model.specs.History.{History, start, position}
use Rattle.ts_model.specs.Limits.{last_position}
use Rattle.stmt_check.specs.declared.actions.Action.TheVariants as actions
use Rattle.ts_sessions.specs.Script.{session_semantics}
use Rattle.script_run.specs.Runs.{has_fault, history_of, reads_of}
use Rattle.demo_script.specs.Demo.{demo_lines}
use Rattle.demo_laws.specs.Acts.{demo_table, demo_hyper, demo_view, insert_act, refresh_act, answer_act, late_act}
use Rattle.demo_laws.specs.Histories.{after_table, after_hypertable, after_view, after_part, before_refresh, history_after_rounds, after_late_row, demo_history}
use Rattle.demo_laws.specs.Turns.{PerformsAction, refresh_reads}

-- lines that create a table or an aggregate read no row
pub record DefinitionsReadNothing : Type 0 where
  pub table : PerformsAction start (actions.Table demo_table) after_table 0
  pub hypertable : PerformsAction after_table (actions.Hyper 0 demo_hyper) after_hypertable 0
  pub view : PerformsAction after_hypertable (actions.View demo_view false) after_view 0

-- inserts read no row, over any history that isn't full
pub record InsertsReadNothing : Type 0 where
  pub parts : (demo round part : ℕ) (h : History) → position h < last_position
      → PerformsAction h (insert_act demo round part) (after_part demo round part h) 0
  pub late : (demo : ℕ) (h : History) → position h < last_position → PerformsAction h (late_act demo) (after_late_row demo h) 0

-- the refresh of a round reads the rows in the chunk of the round before, if the history can hold the round's events
abbrev pub RefreshesReadAChunk : Type 0
RefreshesReadAChunk = (demo round : ℕ) → position (history_after_rounds demo (suc round)) ≤ last_position
    → PerformsAction (before_refresh demo round) (refresh_act round) (history_after_rounds demo (suc round)) (refresh_reads round)

-- a query reads the rows of the last round that came in time, and so does the one after the late row
pub record QueriesReadARound : Type 0 where
  pub rounds : (demo round : ℕ) → round < 40
      → PerformsAction (history_after_rounds demo (suc round)) answer_act (history_after_rounds demo (suc round)) 490
  pub last : (demo : ℕ) → PerformsAction (demo_history demo) answer_act (demo_history demo) 490

-- ---- whole demonstrations

-- a demonstration reads 39,600 stored rows, no reply to it is a FAULT, and this is the history at the end
pub record ComesTo (demo : ℕ) : Type 0 where
  pub reads : reads_of session_semantics start (demo_lines demo) ≡ 39600
  pub fault : has_fault session_semantics start (demo_lines demo) ≡ false
  pub history : history_of session_semantics start (demo_lines demo) ≡ demo_history demo

-- the same for every demonstration
abbrev pub DemonstrationsReadTheSame : Type 0
DemonstrationsReadTheSame = (demo : ℕ) → ComesTo demo
