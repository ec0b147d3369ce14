-- The outcome of a line of a script.
use Rattle.std.specs.Prelude.{◌≡◌, ℕ, ◌≤◌, Bool, true, false, ◌||◌, ◌⊎◌, List, Option, Result, Ok, Err, ⊤}
use Rattle.std.specs.Io.KnownBytes.{Appends}
use Rattle.ts_schema.specs.Counts.{raised_by}
use Rattle.ts_schema.specs.declared.memory.NoMemory.{NoMemory as NoMemoryLeft}
use Rattle.ts_model.specs.States.{State}
use Rattle.ts_sessions.specs.declared.replies.Reply.{Reply as ReplyMade}
use Rattle.ts_sessions.specs.declared.replies.StepEnd.{StepEnd}
use Rattle.ts_sessions.specs.declared.replies.StepEnd.TheVariants.{Reply, DiskFault, NoMemory}
use Rattle.ts_sessions.specs.Script.{LineResult, ScriptState}
use Rattle.script_run.specs.RunStates.{WentOn, IsBetween, FailedBetween}

-- a reply with this text; the flag says whether it is a FAULT
pub record RepliesWith (text : List ℕ) (fault : Bool) (reply : ReplyMade) : Type 0 where
  pub text_is : reply.text ≡ text
  pub fault_is : reply.fault ≡ fault

-- a line had its outcome, and the store hasn't stopped
pub record LineAnswered {P : Type 0} (line_result : LineResult P) (reply : ReplyMade) (old new : State)
    (script_state : ScriptState P) (before after : ℕ) : Type 0 where
  pub replied : RepliesWith line_result.text line_result.fault reply
  pub reached : script_state ≡ line_result.script_state
  pub went : WentOn false old new
  pub counted : after ≡ raised_by line_result.reads before

-- the disk failed at an event of a line with this outcome
pub record LineFailed {P : Type 0} (line_result : LineResult P) (old new : State) (before after : ℕ) : Type 0 where
  pub failed : FailedBetween old.history line_result.script_state.history new
  pub went : WentOn true old new
  pub counted : before ≤ after

-- a line with this outcome ran out of memory
pub record LineBroken {P : Type 0} (line_result : LineResult P) (old new : State) (before after : ℕ) : Type 0 where
  pub between : IsBetween old.history line_result.script_state.history new
  pub went : WentOn false old new
  pub counted : before ≤ after

-- how a line with this outcome ended. If it ran out of memory, the disk may have failed before
abbrev pub LineExecuted : {P : Type 0} → StepEnd → LineResult P → State → State → ScriptState P → ℕ → ℕ → Type 0
LineExecuted (Reply r) line_result old new script_state before after =
    LineAnswered line_result r old new script_state before after
LineExecuted (DiskFault r) line_result old new script_state before after = LineFailed line_result old new before after
LineExecuted NoMemory line_result old new script_state before after =
    LineBroken line_result old new before after ⊎ LineFailed line_result old new before after

-- this is the reply, unless memory ran out
abbrev pub Replies : List ℕ → Bool → Result ReplyMade NoMemoryLeft → Type 0
Replies text fault (Ok r) = RepliesWith text fault r
Replies text fault (Err e) = ⊤

-- the end of a line with this reply
abbrev pub ends_with : Result ReplyMade NoMemoryLeft → StepEnd
ends_with (Ok r) = Reply r
ends_with (Err e) = NoMemory

-- a line with this outcome was executed, and its whole reply written
pub record LineWritten {P : Type 0} (line_result : LineResult P) (script_state : ScriptState P)
    (old new : Option (List ℕ)) (was is : Bool) (before after : ℕ) : Type 0 where
  pub reached : script_state ≡ line_result.script_state
  pub wrote : Appends old new line_result.text
  pub refused : is ≡ (was || line_result.fault)
  pub counted : after ≡ raised_by line_result.reads before
