-- What a script did that was run to its end.
use Rattle.std.specs.Prelude.{◌≡◌, ℕ, Bool, true, false, List}
use Rattle.ts_schema.specs.Counts.{raised_by}
use Rattle.ts_model.specs.History.{History}
use Rattle.ts_sessions.specs.Script.{session_semantics}
use Rattle.script_run.specs.Runs.{history_of, reads_of}
use Rattle.script_run.specs.declared.ends.RunEnd.{RunEnd}
use Rattle.script_run.specs.declared.ends.RunEnd.TheVariants.{Done, Refused}

-- a run with this end was run to the end of its input
abbrev pub is_whole : RunEnd → Bool
is_whole Done = true
is_whole Refused = true
is_whole other = false

-- the lines of a script led from one history to another, and read this many stored rows
pub record RanLines (h : History) (lines : List (List ℕ)) (read : ℕ) (new : History) : Type 0 where
  pub history : new ≡ history_of session_semantics h lines
  pub reads : read ≡ raised_by (reads_of session_semantics h lines) 0
