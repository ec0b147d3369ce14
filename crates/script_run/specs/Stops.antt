-- Why a script stops at a line, and what it has done of the line.
use Rattle.std.specs.Prelude.{◌≡◌, ℕ, ◌≤◌, Bool, true, false, List, Option, Result, Ok, Err}
use Rattle.ts_io.specs.Whole.{AppendsPart}
use Rattle.ts_schema.specs.Counts.{raised_by}
use Rattle.ts_model.specs.States.{State}
use Rattle.ts_sessions.specs.declared.replies.Reply.{Reply as ReplyMade}
use Rattle.ts_sessions.specs.declared.replies.StepEnd.{StepEnd}
use Rattle.ts_sessions.specs.declared.replies.StepEnd.TheVariants as steps
use Rattle.ts_sessions.specs.Script.{LineResult, ScriptState}
use Rattle.script_run.specs.declared.scripts.ScriptStop.{ScriptStop}
use Rattle.script_run.specs.declared.scripts.ScriptStop.TheVariants.{WriteFault, DiskFault, NoMemory}
use Rattle.script_run.specs.RunStates.{IsBetween, FailedBetween}

-- the reply to a line that ended like this, or why it has none. The flag says whether the store then has stopped
abbrev pub reply_or_stop : Bool → StepEnd → Result ReplyMade ScriptStop
reply_or_stop still (steps.Reply r) = Ok r
reply_or_stop still (steps.DiskFault r) = Err DiskFault
reply_or_stop true steps.NoMemory = Err DiskFault
reply_or_stop false steps.NoMemory = Err NoMemory

-- a line was executed, and a part of its reply written
pub record ReplyCut {P : Type 0} (line_result : LineResult P) (script_state : ScriptState P)
    (old new : Option (List ℕ)) (before after : ℕ) : Type 0 where
  pub reached : script_state ≡ line_result.script_state
  pub wrote : AppendsPart old new line_result.text
  pub counted : after ≡ raised_by line_result.reads before

-- the disk failed at an event of a line, and nothing of its reply was written
pub record EventFailed {P : Type 0} (line_result : LineResult P) (old new : State)
    (written_before written : Option (List ℕ)) (before after : ℕ) : Type 0 where
  pub failed : FailedBetween old.history line_result.script_state.history new
  pub wrote : written ≡ written_before
  pub counted : before ≤ after

-- a line ran out of memory, and nothing of its reply was written
pub record LineGivenUp {P : Type 0} (line_result : LineResult P) (old new : State)
    (written_before written : Option (List ℕ)) (before after : ℕ) : Type 0 where
  pub between : IsBetween old.history line_result.script_state.history new
  pub wrote : written ≡ written_before
  pub counted : before ≤ after

-- what a script has done of a line with this outcome, if it stops at the line
abbrev pub LineCut :
    {P : Type 0} → ScriptStop → LineResult P → State → State → ScriptState P → Option (List ℕ) → Option (List ℕ) → ℕ → ℕ
    → Type 0
LineCut WriteFault line_result old new script_state written_before written before after =
    ReplyCut line_result script_state written_before written before after
LineCut DiskFault line_result old new script_state written_before written before after =
    EventFailed line_result old new written_before written before after
LineCut NoMemory line_result old new script_state written_before written before after =
    LineGivenUp line_result old new written_before written before after

-- what a script has written of the refusal of a line, if it stops at the line
abbrev pub RefusalCut : ScriptStop → Option (List ℕ) → Option (List ℕ) → List ℕ → Type 0
RefusalCut WriteFault old new text = AppendsPart old new text
RefusalCut DiskFault old new text = ⊥
RefusalCut NoMemory old new text = new ≡ old

-- ---- faults

-- the sink failed
abbrev pub is_write_stop : ScriptStop → Bool
is_write_stop WriteFault = true
is_write_stop other = false

-- the disk failed at an event
abbrev pub is_disk_stop : ScriptStop → Bool
is_disk_stop DiskFault = true
is_disk_stop other = false

-- whether a script stopped for this kind of reason
abbrev pub stops_by : {A : Type 0} → (ScriptStop → Bool) → Result A ScriptStop → Bool
stops_by test (Ok a) = false
stops_by test (Err stop) = test stop
