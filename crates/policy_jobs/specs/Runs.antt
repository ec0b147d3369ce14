-- What contracts see of statements that are run in order.
use Rattle.std.specs.Prelude.{◌≡◌, ℕ, ◌≤◌, Bool, true, ◌||◌, List, ◌++◌, length, Result, Ok, Err, ⊤}
use Rattle.ts_schema.specs.declared.memory.NoMemory.{NoMemory}
use Rattle.ts_model.specs.States.{State}
use Rattle.stmt_syntax.specs.Limits.{longest_line}
use Rattle.stmt_reader.specs.Reading.{statement}
use Rattle.stmt_tokens.specs.Streams.{stream}
use Rattle.ts_sessions.specs.Actors.{ReadsEvent}
use Rattle.ts_sessions.specs.Places.{Turn}
use Rattle.ts_sessions.specs.Procedures.{Procedure}
use Rattle.ts_sessions.specs.Sessions.{Reports}
use Rattle.ts_sessions.specs.Walks.{Breaks}
use Rattle.ts_sessions.specs.declared.replies.Reply.{Reply}
use Rattle.ts_sessions.specs.declared.replies.StepEnd.{StepEnd}
use Rattle.ts_sessions.specs.declared.replies.StepEnd.TheVariants as steps
use Rattle.policy_jobs.specs.declared.runs.TickOutcome.{TickOutcome}

-- a text is short enough, and a statement that appends an event
pub record IsRunnable (text : List ℕ) : Type 0 where
  pub short : length text ≤ longest_line
  pub event : ReadsEvent (statement (stream text 0))

-- a run has reported a procedure so far, with an I/O error of its disk or without, or it ran out of memory
abbrev pub RunsTo :
    {P : Type 0} → Bool → State → Procedure (Turn P) → List ℕ → Result TickOutcome NoMemory → State → P → ℕ → ℕ → Type 0
RunsTo alone old procedure name (Ok run) new places before after =
    Reports alone run.failed old procedure name run.reply new places before after
RunsTo alone old procedure name (Err e) new places before after = Breaks alone old procedure new × (before ≤ after)

-- a reply and then another
pub record IsBehind (first then whole : Reply) : Type 0 where
  pub text : whole.text ≡ first.text ++ then.text
  pub fault : whole.fault ≡ (first.fault || then.fault)
  pub events : whole.events ≡ first.events ++ then.events

-- a run, and the outcome of one more statement
abbrev pub GoesOnBy : TickOutcome → StepEnd → Result TickOutcome NoMemory → Type 0
GoesOnBy run (steps.Reply r) (Ok next) = IsBehind run.reply r next.reply × (next.failed ≡ run.failed)
GoesOnBy run (steps.DiskFault r) (Ok next) = IsBehind run.reply r next.reply × (next.failed ≡ true)
GoesOnBy run steps.NoMemory (Ok next) = ⊥
GoesOnBy run end (Err e) = ⊤
