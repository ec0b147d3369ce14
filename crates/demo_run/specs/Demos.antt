-- Demonstrations.
use Rattle.std.specs.Prelude.{ℕ, Bool, List}
use Rattle.ts_schema.specs.Counts.{raised_by}
use Rattle.ts_model.specs.History.{History, start}
use Rattle.result_text.specs.Summaries.{summary_text}
use Rattle.ts_sessions.specs.Script.{session_semantics}
use Rattle.script_run.specs.Runs.{has_fault, history_of, reads_of}
use Rattle.demo_script.specs.Demo.{demo_lines}
use Rattle.demo_run.specs.Sums.{summary_of}

-- the history that the lines of a demonstration create from an empty one
abbrev pub history_of_demo : ℕ → History
history_of_demo number = history_of session_semantics start (demo_lines number)

-- how many stored rows their answers and refreshes read, in a count of 64 bits
abbrev pub reads_of_demo : ℕ → ℕ
reads_of_demo number = raised_by (reads_of session_semantics start (demo_lines number)) 0

-- whether one of the replies to them is a FAULT
abbrev pub is_refused_demo : ℕ → Bool
is_refused_demo number = has_fault session_semantics start (demo_lines number)

-- the text of the summary of a demonstration
abbrev pub demo_summary : ℕ → List ℕ
demo_summary number = summary_text (summary_of number (history_of_demo number) (reads_of_demo number))
