-- What a call that runs an input by a worker for each session has written and kept, by how it ended.
use Rattle.std.specs.Prelude.{◌≡◌, ◌⊎◌, ℕ, ◌<◌, ◌^◌, Bool, true, false, List, Option, length, ⊤, IfSome, IsSomeAnd, IsTrue}
use Rattle.std.specs.Io.KnownBytes.{Appends}
use Rattle.ts_io.specs.Faults.{Counted}
use Rattle.ts_io.specs.Whole.{AppendsPart}
use Rattle.ts_io.specs.declared.limits.TheConstants.{INPUT_LIMIT}
use Rattle.ts_model.specs.History.{History, position}
use Rattle.ts_model.specs.States.{State, stands_still}
use Rattle.ts_top.specs.Scripts.{block_in, first_places, program_replies, program_semantics}
use Rattle.ts_store.specs.Images.{IsBetween, StandsForEither, latest}
use Rattle.ts_store.specs.Stands.{Stands}
use Rattle.script_run.specs.Runs.{ReadWhole}
use Rattle.par_lines.specs.Sorted.{sorted_lines}
use Rattle.par_run.specs.Crews.{LinesRan, LinesRanAsFar}
use Rattle.par_run.specs.Outputs.{Output, transcript_in}
use Rattle.par_run.specs.declared.ends.ParStop.{ParStop}
use Rattle.par_run.specs.declared.ends.ParStop.TheVariants as stops
use Rattle.transcript.specs.Ascii.{is_ascii_transcript}
use Rattle.transcript.specs.Text.{transcript_text}
use Rattle.transcript.specs.declared.transcripts.Transcript.{Transcript}
use Rattle.audit_laws.specs.Laws.{ExplainedUnlessPolicies}
use Rattle.ts_top.specs.declared.parallel.Replies.{Replies}
use Rattle.ts_top.specs.declared.parallel.Replies.TheVariants.{Plain, Json}
use Rattle.ts_top.specs.declared.parallel.RunReplies.{RunReplies}
use Rattle.ts_top.specs.declared.endings.Status.{Status}
use Rattle.ts_top.specs.declared.endings.Status.TheVariants.{Done, Refused, BadWords, ReadFault, WriteFault, DiskFault, Damaged, NoMemory, InputLong}
use Rattle.ts_top.specs.Endings.{is_disk_fault, is_write_fault, status_answered}
use Rattle.ts_top.specs.Outcomes.{Outside, Holds, IsDamaged, NotBegun, Over, OverScript, Untouched}

-- ---- the text that the call prints

-- the replies of a run, as an output
abbrev pub output_in : RunReplies → Output
output_in r = record { text = r.text; fault = r.fault; sessions = r.sessions }

-- this was written of the text of a transcript, which is ASCII and begins at a position of 64 bits
pub record IsTranscribed (Wrote : List ℕ → Type 0) (t : Transcript) : Type 0 where
  pub wrote : Wrote (transcript_text t)
  pub ascii : IsTrue (is_ascii_transcript t)
  pub start : t.start < 2 ^ 64

-- this was written of a run that began at a position and left a history: its refusals and replies, or its transcript.
-- The history explains the transcript, unless a line is a statement on policies
abbrev pub IsPrinted : Replies → (List ℕ → Type 0) → ℕ → History → Output → Type 0
IsPrinted Plain Wrote start all out = Wrote out.text
IsPrinted Json Wrote start all out =
    IsTranscribed Wrote (transcript_in start out) × ExplainedUnlessPolicies all (transcript_in start out)

-- ---- what the call did

-- no statement ran over a history, and nothing was printed
pub record NothingRan (told : Type 0) (left : List ℕ → Type 0) (h : History) (unprinted : Type 0)
    (file : Option (List ℕ)) : Type 0 where
  pub printed_nothing : unprinted
  pub holds : told → Holds file h
  pub images : (c : List ℕ) → left c → Stands c h

-- memory ran out while workers ran: nothing was printed. Sessions ran until memory ran out, read this many stored rows,
-- and left a state. The journal represents its history, or that and the event at which the disk failed
pub record GaveUp (told : Type 0) (left : List ℕ → Type 0) (h : History) (input : List ℕ) (reads : ℕ)
    (unprinted : Type 0) (file : Option (List ℕ)) : Type 0 where
  pub printed_nothing : unprinted
  pub state : State
  pub ran : LinesRanAsFar block_in program_semantics.does first_places h (sorted_lines input) state reads
  pub holds : told → IsSomeAnd file (StandsForEither state.history (latest state.history state.failed))
  pub images : (c : List ℕ) → left c → IsBetween h state.history state.failed c

-- over a history, a worker for each session ran the lines of an input. They read this many stored rows, and left a
-- state and an output. This was written of the output, by the history that they left. The journal represents that
-- history, or that and the event at which the disk failed
pub record ByWorkers (told : Type 0) (left : List ℕ → Type 0) (h : History) (input : List ℕ) (reads : ℕ)
    (stopped : Bool) (Faulted : Bool → Type 0) (Wrote : History → Output → Type 0)
    (file : Option (List ℕ)) : Type 0 where
  pub state : State
  pub out : Output
  pub ran : LinesRan program_replies first_places h (sorted_lines input) state out reads
  pub stops : stands_still state ≡ stopped
  pub faulted : Faulted out.fault
  pub wrote : Wrote state.history out
  pub holds : told → IsSomeAnd file (StandsForEither state.history (latest state.history state.failed))
  pub images : (c : List ℕ) → left c → IsBetween h state.history state.failed c

-- a reply may be a FAULT or not
abbrev pub Any : Bool → Type 0
Any fault = ⊤

-- the whole text was printed, or a part of it if the sink failed
abbrev pub PrintedUnless : Type 0 → Option (List ℕ) → Option (List ℕ) → List ℕ → Type 0
PrintedUnless sink_failed before written text =
    Appends before written text ⊎ (sink_failed × AppendsPart before written text)

-- after a disk fault the replies are printed, and a transcript isn't
abbrev pub IsPrintedAfterFault : Replies → Type 0 → Option (List ℕ) → Option (List ℕ) → Output → Type 0
IsPrintedAfterFault Plain sink_failed before written out = PrintedUnless sink_failed before written out.text
IsPrintedAfterFault Json sink_failed before written out = written ≡ before

-- what the run of an input by workers has done over a history, by how it ended. It read this many rows, the sink had
-- and has these bytes, and reads give this file
abbrev pub InputTo :
    Replies → Status → Type 0 → (List ℕ → Type 0) → Type 0 → History → List ℕ → ℕ → Option (List ℕ)
    → Option (List ℕ) → Option (List ℕ) → Type 0
InputTo replies Done told left sink_failed h input reads before written file =
    ByWorkers told left h input reads false (λ fault. fault ≡ false)
    (IsPrinted replies (Appends before written) (position h)) file
InputTo replies Refused told left sink_failed h input reads before written file =
    ByWorkers told left h input reads false (λ fault. fault ≡ true)
    (IsPrinted replies (Appends before written) (position h)) file
InputTo replies WriteFault told left sink_failed h input reads before written file =
    ByWorkers told left h input reads false Any (IsPrinted replies (AppendsPart before written) (position h)) file
InputTo replies DiskFault told left sink_failed h input reads before written file =
    ByWorkers told left h input reads true Any (λ all. IsPrintedAfterFault replies sink_failed before written) file
InputTo replies NoMemory told left sink_failed h input reads before written file =
    GaveUp told left h input reads (written ≡ before) file
InputTo replies other told left sink_failed h input reads before written file = ⊥

-- the whole input was read, and its run did this
abbrev pub InputRan : Replies → Status → Type 0 → (List ℕ → Type 0) → Type 0 → Outside → Type 0
InputRan replies status told left sink_failed o =
    OverScript o
    (λ h input. ReadWhole input o.rest
    × InputTo replies status told left sink_failed h input o.reads o.written_before o.written o.file)

-- no statement ran over the opening history, and no stored row was read
abbrev pub RanNothing : Type 0 → (List ℕ → Type 0) → Outside → Type 0
RanNothing told left o =
    Over o (λ h. NothingRan told left h (o.written ≡ o.written_before) o.file) × (o.reads ≡ 0)

-- what a parallel run with this end has done
abbrev pub ParTo :
    Replies → Status → Type 0 → (List ℕ → Type 0) → Type 0 → Type 0 → Type 0 → Type 0 → Outside → Type 0
ParTo replies Done told left sink_failed unread unprinted kept o = InputRan replies Done told left sink_failed o
ParTo replies Refused told left sink_failed unread unprinted kept o = InputRan replies Refused told left sink_failed o
ParTo replies BadWords told left sink_failed unread unprinted kept o = ⊥
ParTo replies ReadFault told left sink_failed unread unprinted kept o = RanNothing told left o
ParTo replies WriteFault told left sink_failed unread unprinted kept o = InputRan replies WriteFault told left sink_failed o
ParTo replies DiskFault told left sink_failed unread unprinted kept o =
    NotBegun told left unread unprinted kept o ⊎ InputRan replies DiskFault told left sink_failed o
ParTo replies (Damaged at) told left sink_failed unread unprinted kept o =
    Untouched unread unprinted kept o × IsDamaged at o
ParTo replies NoMemory told left sink_failed unread unprinted kept o =
    Untouched unread unprinted kept o ⊎ RanNothing told left o ⊎ InputRan replies NoMemory told left sink_failed o
ParTo replies InputLong told left sink_failed unread unprinted kept o =
    RanNothing told left o × IfSome o.input (λ input. INPUT_LIMIT < length input)

-- ---- printing

-- the text of a parallel run's replies was printed, or a part of it if the sink failed, and the call ended like this
abbrev pub PrintsReplies :
    ParStop → Bool → List ℕ → Status → Type 0 → Option (List ℕ) → Option (List ℕ) → Type 0
PrintsReplies stops.Done fault text status sink_failed before written =
    ((status ≡ status_answered fault) × Appends before written text)
    ⊎ ((status ≡ WriteFault) × AppendsPart before written text)
PrintsReplies stops.DiskFault fault text status sink_failed before written =
    (status ≡ DiskFault) × PrintedUnless sink_failed before written text
PrintsReplies stops.NoMemory fault text status sink_failed before written =
    (status ≡ NoMemory) × (written ≡ before)

-- the transcript of a parallel run was printed, or a part of it if the sink failed, and the call ended like this
abbrev pub PrintsTranscript : ParStop → Bool → Transcript → Status → Option (List ℕ) → Option (List ℕ) → Type 0
PrintsTranscript stops.Done fault t status before written =
    ((status ≡ status_answered fault) × IsTranscribed (Appends before written) t)
    ⊎ ((status ≡ WriteFault) × IsTranscribed (AppendsPart before written) t)
PrintsTranscript stops.DiskFault fault t status before written = (status ≡ DiskFault) × (written ≡ before)
PrintsTranscript stops.NoMemory fault t status before written = (status ≡ NoMemory) × (written ≡ before)

-- the same for either form
abbrev pub Prints :
    Replies → ParStop → ℕ → Output → Status → Type 0 → Option (List ℕ) → Option (List ℕ) → Type 0
Prints Plain stop start out status sink_failed before written =
    PrintsReplies stop out.fault out.text status sink_failed before written
Prints Json stop start out status sink_failed before written =
    PrintsTranscript stop out.fault (transcript_in start out) status before written

-- ---- counts of faults

-- the count of the sink's faults rises if the call ends with a write fault, and otherwise stays. There is one
-- exception: after a disk fault of a parallel run its replies are printed, and the sink may fail then
abbrev pub CountedAfterDisk : Status → ℕ → ℕ → Type 0
CountedAfterDisk DiskFault before now = (failed : Bool) × Counted before now failed
CountedAfterDisk status before now = Counted before now (is_write_fault status)

-- the same for either form
abbrev pub CountedAfterPrinting : Replies → Status → ℕ → ℕ → Type 0
CountedAfterPrinting Plain status before now = CountedAfterDisk status before now
CountedAfterPrinting Json status before now = Counted before now (is_write_fault status)

-- the count of the disk's faults rises if the call ends with a disk fault, and otherwise stays. There is one exception:
-- if memory ran out while workers ran, the disk may have failed before
abbrev pub CountedAfterWorkers : Status → ℕ → ℕ → Type 0
CountedAfterWorkers NoMemory before now = (failed : Bool) × Counted before now failed
CountedAfterWorkers status before now = Counted before now (is_disk_fault status)
