-- How a run ends, and what it has done by then.
use Rattle.std.specs.Prelude.{◌≡◌, ℕ, suc, ◌<◌, ◌≤◌, Bool, true, false, List, [], ◌∷◌, ◌++◌, Option, length, take}
use Rattle.std.specs.Io.KnownBytes.{Appends, IsAtEnd}
use Rattle.ts_schema.specs.Counts.{raised_by}
use Rattle.ts_io.specs.Lines.{lines_within}
use Rattle.ts_io.specs.declared.limits.TheConstants.{INPUT_LIMIT}
use Rattle.ts_model.specs.History.{History}
use Rattle.ts_model.specs.States.{State}
use Rattle.ts_sessions.specs.Script.{Semantics, LineResult, ScriptState, executes, output, is_refused, reads_in, final_script_state, opening_script_state}
use Rattle.script_run.specs.declared.ends.RunEnd.{RunEnd}
use Rattle.script_run.specs.declared.ends.RunEnd.TheVariants.{Done, Refused, ReadFault, WriteFault, DiskFault, NoMemory, InputLong}
use Rattle.script_run.specs.RunStates.{IsBetween, FailedBetween}

-- the lines of an input that are executed: those that end within the limit
abbrev pub executed_lines : List ℕ → List (List ℕ)
executed_lines input = lines_within INPUT_LIMIT input

-- ---- a script over a history, whose lines count from 1

-- the state of the script after its lines
abbrev pub script_state_after : {P : Type 0} → Semantics P → History → List (List ℕ) → ScriptState P
script_state_after semantics h lines = final_script_state semantics (opening_script_state h) 1 lines

-- the history after its lines
abbrev pub history_of : {P : Type 0} → Semantics P → History → List (List ℕ) → History
history_of semantics h lines = (script_state_after semantics h lines).history

-- the text of its replies
abbrev pub output_of : {P : Type 0} → Semantics P → History → List (List ℕ) → List ℕ
output_of semantics h lines = output semantics (opening_script_state h) 1 lines

-- whether one of its replies is a FAULT
abbrev pub has_fault : {P : Type 0} → Semantics P → History → List (List ℕ) → Bool
has_fault semantics h lines = is_refused semantics (opening_script_state h) 1 lines

-- how many stored rows it reads
abbrev pub reads_of : {P : Type 0} → Semantics P → History → List (List ℕ) → ℕ
reads_of semantics h lines = reads_in semantics (opening_script_state h) 1 lines

-- the result of a line after these lines
abbrev pub result_after : {P : Type 0} → Semantics P → History → List (List ℕ) → List ℕ → LineResult P
result_after semantics h lines line =
    executes semantics (script_state_after semantics h lines) (suc (length lines)) line

-- ---- what a run leaves

-- the state of the store, the bytes written before and after, and the count of rows read before and after
pub record Left : Type 0 where
  pub store : State
  pub written_before : Option (List ℕ)
  pub written : Option (List ℕ)
  pub read_before : ℕ
  pub read : ℕ

-- the input is within its limit, and was read to its end
pub record ReadWhole (input : List ℕ) (rest : Option (List ℕ)) : Type 0 where
  pub within : length input ≤ INPUT_LIMIT
  pub at_end : IsAtEnd rest

-- all lines were executed, and their replies written
pub record Executed {P : Type 0} (semantics : Semantics P) (h : History) (lines : List (List ℕ))
    (left : Left) : Type 0 where
  pub history : left.store.history ≡ history_of semantics h lines
  pub wrote : Appends left.written_before left.written (output_of semantics h lines)
  pub counted : left.read ≡ raised_by (reads_of semantics h lines) left.read_before

-- some first lines were executed and their replies written, and the others not executed
pub record StoppedBefore {P : Type 0} (semantics : Semantics P) (h : History) (lines : List (List ℕ))
    (left : Left) : Type 0 where
  pub done : List (List ℕ)
  pub rest : List (List ℕ)
  pub split : lines ≡ done ++ rest
  pub executed_first : Executed semantics h done left

-- the replies to some first lines were written, and the next line was executed, with a part of its reply written
pub record StoppedWriting {P : Type 0} (semantics : Semantics P) (h : History) (lines : List (List ℕ))
    (left : Left) : Type 0 where
  pub done : List (List ℕ)
  pub line : List ℕ
  pub rest : List (List ℕ)
  pub part : List ℕ
  pub todo : List ℕ
  pub split : lines ≡ done ++ line ∷ rest
  pub reply : (result_after semantics h done line).text ≡ part ++ todo
  pub wrote : Appends left.written_before left.written (output_of semantics h done ++ part)
  pub history : left.store.history ≡ history_of semantics h (done ++ line ∷ [])
  pub counted : left.read ≡ raised_by (reads_of semantics h (done ++ line ∷ [])) left.read_before

-- the replies to some first lines were written. The disk failed at an event of the next one, and nothing of its reply
-- was written
pub record StoppedAtEvent {P : Type 0} (semantics : Semantics P) (h : History) (lines : List (List ℕ))
    (left : Left) : Type 0 where
  pub done : List (List ℕ)
  pub line : List ℕ
  pub rest : List (List ℕ)
  pub split : lines ≡ done ++ line ∷ rest
  pub wrote : Appends left.written_before left.written (output_of semantics h done)
  pub failed : FailedBetween (history_of semantics h done) (history_of semantics h (done ++ line ∷ [])) left.store
  pub counted : raised_by (reads_of semantics h done) left.read_before ≤ left.read

-- the replies to some first lines were written, and nothing of the next one's, whose first events may exist
pub record StoppedWithin {P : Type 0} (semantics : Semantics P) (h : History) (lines : List (List ℕ))
    (left : Left) : Type 0 where
  pub done : List (List ℕ)
  pub rest : List (List ℕ)
  pub split : lines ≡ done ++ rest
  pub wrote : Appends left.written_before left.written (output_of semantics h done)
  pub between : IsBetween (history_of semantics h done) (history_of semantics h (done ++ take 1 rest)) left.store
  pub counted : raised_by (reads_of semantics h done) left.read_before ≤ left.read

-- what a run with this end has read of an input, executed of its lines, and written of their replies
abbrev pub Ran : {P : Type 0} → RunEnd → Semantics P → History → List ℕ → Option (List ℕ) → Left → Type 0
Ran Done semantics h input rest left =
    ReadWhole input rest × Executed semantics h (executed_lines input) left
    × (has_fault semantics h (executed_lines input) ≡ false)
Ran Refused semantics h input rest left =
    ReadWhole input rest × Executed semantics h (executed_lines input) left
    × (has_fault semantics h (executed_lines input) ≡ true)
Ran ReadFault semantics h input rest left = StoppedBefore semantics h (executed_lines input) left
Ran WriteFault semantics h input rest left = StoppedWriting semantics h (executed_lines input) left
Ran DiskFault semantics h input rest left = StoppedAtEvent semantics h (executed_lines input) left
Ran NoMemory semantics h input rest left = StoppedWithin semantics h (executed_lines input) left
Ran InputLong semantics h input rest left = (INPUT_LIMIT < length input) × Executed semantics h (executed_lines input) left

-- ---- faults

-- the source failed
abbrev pub is_read_fault : RunEnd → Bool
is_read_fault ReadFault = true
is_read_fault other = false

-- the sink failed
abbrev pub is_write_fault : RunEnd → Bool
is_write_fault WriteFault = true
is_write_fault other = false

-- the disk failed at an event
abbrev pub is_disk_fault : RunEnd → Bool
is_disk_fault DiskFault = true
is_disk_fault other = false
