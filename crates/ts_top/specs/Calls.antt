-- What the top call has done, by its command.
use Rattle.std.specs.Prelude.{◌≡◌, ◌≤◌, ℕ, Bool, false, List, Option, None, Some, ⊤}
use Rattle.std.specs.Io.KnownBytes.{Appends}
use Rattle.ts_io.specs.Faults.{Counted}
use Rattle.ts_io.specs.Whole.{AppendsPart}
use Rattle.demo_run.specs.Demos.{demo_summary, is_refused_demo, reads_of_demo}
use Rattle.ts_top.specs.declared.commands.Command.{Command}
use Rattle.ts_top.specs.declared.commands.Command.TheVariants.{Run, Par, ParJson, Demo, Print, Checkpoint, Audit}
use Rattle.ts_top.specs.declared.endings.Status.{Status}
use Rattle.ts_top.specs.declared.endings.Status.TheVariants.{Done, BadWords, WriteFault, NoMemory}
use Rattle.ts_top.specs.Audits.{AuditTo}
use Rattle.ts_top.specs.Checkpoints.{CheckpointTo}
use Rattle.ts_top.specs.Endings.{is_disk_fault, is_write_fault}
use Rattle.ts_top.specs.Logs.{text_of}
use Rattle.ts_top.specs.Outcomes.{Outside, PrintedTo, RanTo, Untouched}
use Rattle.ts_top.specs.declared.parallel.Replies.TheVariants.{Plain, Json}
use Rattle.ts_top.specs.Parallel.{CountedAfterPrinting, CountedAfterWorkers, ParTo}

-- the demonstration with a number has printed its summary, or a part of it. No reply to its script is a FAULT, and it
-- has read as many stored rows as all others
pub record DemoShown (demo : ℕ) (Wrote : List ℕ → Type 0) (o : Outside) : Type 0 where
  pub wrote : Wrote (demo_summary demo)
  pub answered : is_refused_demo demo ≡ false
  pub counted : o.reads ≡ reads_of_demo demo
  pub alike : o.reads ≡ 39600

-- what the demonstration with a number has done, by how it ended. If memory ran out, it printed nothing, and read at
-- most as many stored rows as it does otherwise
abbrev pub DemoTo : ℕ → Status → Type 0 → Outside → Type 0
DemoTo demo Done unprinted o = DemoShown demo (Appends o.written_before o.written) o
DemoTo demo WriteFault unprinted o = DemoShown demo (AppendsPart o.written_before o.written) o
DemoTo demo NoMemory unprinted o = unprinted × (o.reads ≤ reads_of_demo demo)
DemoTo demo other unprinted o = ⊥

-- what a call with this command has done. A call that prints, and the demonstration, read no input and leave the disk
-- as it was; a checkpoint reads no input. `unasked` says that the disk is exactly the one that the caller gave
abbrev pub Outcome :
    Command → Status → Type 0 → (List ℕ → Type 0) → Type 0 → Type 0 → Type 0 → Type 0 → Type 0 → Outside → Type 0
Outcome Run status told left sink_failed unread unprinted kept unasked o =
    RanTo status told left unread unprinted kept o
Outcome Par status told left sink_failed unread unprinted kept unasked o =
    ParTo Plain status told left sink_failed unread unprinted kept o
Outcome ParJson status told left sink_failed unread unprinted kept unasked o =
    ParTo Json status told left sink_failed unread unprinted kept o
Outcome (Demo demo) status told left sink_failed unread unprinted kept unasked o =
    unread × kept × DemoTo demo status unprinted o
Outcome (Print text) status told left sink_failed unread unprinted kept unasked o =
    unread × kept × (o.reads ≡ 0) × PrintedTo (text_of text) status unprinted o
Outcome Checkpoint status told left sink_failed unread unprinted kept unasked o =
    unread × (o.reads ≡ 0) × CheckpointTo status told left unprinted kept o
Outcome Audit status told left sink_failed unread unprinted kept unasked o =
    kept × (o.reads ≡ 0) × AuditTo status unprinted unasked o

-- what a call with these words has done. If they name no command, it has done nothing
abbrev pub OutcomeOf :
    Option Command → Status → Type 0 → (List ℕ → Type 0) → Type 0 → Type 0 → Type 0 → Type 0 → Type 0 → Outside
    → Type 0
OutcomeOf None status told left sink_failed unread unprinted kept unasked o =
    (status ≡ BadWords) × Untouched unread unprinted kept o
OutcomeOf (Some command) status told left sink_failed unread unprinted kept unasked o =
    Outcome command status told left sink_failed unread unprinted kept unasked o

-- P is true if the command writes to the journal
abbrev pub IfWrites : Option Command → Type 0 → Type 0
IfWrites None P = ⊤
IfWrites (Some Run) P = P
IfWrites (Some Par) P = P
IfWrites (Some ParJson) P = P
IfWrites (Some (Demo demo)) P = ⊤
IfWrites (Some (Print text)) P = ⊤
IfWrites (Some Checkpoint) P = P
IfWrites (Some Audit) P = ⊤

-- P is true if the command runs the demonstration
abbrev pub IfDemo : Option Command → Type 0 → Type 0
IfDemo None P = ⊤
IfDemo (Some Run) P = ⊤
IfDemo (Some Par) P = ⊤
IfDemo (Some ParJson) P = ⊤
IfDemo (Some (Demo demo)) P = P
IfDemo (Some (Print text)) P = ⊤
IfDemo (Some Checkpoint) P = ⊤
IfDemo (Some Audit) P = ⊤

-- the count of the sink's faults rises if the call ends with a write fault, and otherwise stays, with the exception in
-- Parallel
abbrev pub SinkCounted : Option Command → Status → ℕ → ℕ → Type 0
SinkCounted None status before now = Counted before now (is_write_fault status)
SinkCounted (Some Run) status before now = Counted before now (is_write_fault status)
SinkCounted (Some Par) status before now = CountedAfterPrinting Plain status before now
SinkCounted (Some ParJson) status before now = CountedAfterPrinting Json status before now
SinkCounted (Some (Demo demo)) status before now = Counted before now (is_write_fault status)
SinkCounted (Some (Print text)) status before now = Counted before now (is_write_fault status)
SinkCounted (Some Checkpoint) status before now = Counted before now (is_write_fault status)
SinkCounted (Some Audit) status before now = Counted before now (is_write_fault status)

-- the count of the disk's faults rises if the call ends with a disk fault, and otherwise stays, with the exception in
-- Parallel
abbrev pub DiskCounted : Option Command → Status → ℕ → ℕ → Type 0
DiskCounted None status before now = Counted before now (is_disk_fault status)
DiskCounted (Some Run) status before now = Counted before now (is_disk_fault status)
DiskCounted (Some Par) status before now = CountedAfterWorkers status before now
DiskCounted (Some ParJson) status before now = CountedAfterWorkers status before now
DiskCounted (Some (Demo demo)) status before now = Counted before now (is_disk_fault status)
DiskCounted (Some (Print text)) status before now = Counted before now (is_disk_fault status)
DiskCounted (Some Checkpoint) status before now = Counted before now (is_disk_fault status)
DiskCounted (Some Audit) status before now = Counted before now (is_disk_fault status)
