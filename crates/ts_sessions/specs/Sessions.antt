-- How contracts describe the ends of calls and statements, and the result of a line.
use Rattle.std.specs.Prelude.{◌≡◌, ℕ, ◌+◌, ◌≤◌, Bool, true, false, List, [], ◌∷◌, ◌++◌, Option, Some, None, Result, Ok, Err, ⊤, IfOk, IfSome}
use Rattle.ts_schema.specs.Counts.{raised_by}
use Rattle.ts_schema.specs.declared.memory.NoMemory.{NoMemory}
use Rattle.ts_model.specs.declared.events.Op.{Op}
use Rattle.ts_model.specs.declared.outcomes.Refusal.{Refusal}
use Rattle.ts_model.specs.History.{History}
use Rattle.ts_model.specs.States.{State}
use Rattle.stmt_check.specs.Sound.{IsOperation}
use Rattle.result_text.specs.declared.replies.Said.{Said}
use Rattle.ts_sessions.specs.declared.changes.Change.{Change}
use Rattle.ts_sessions.specs.declared.changes.Change.TheVariants as changes
use Rattle.ts_sessions.specs.declared.changes.Completion.{Completion}
use Rattle.ts_sessions.specs.declared.refreshes.SnapOutcome.{SnapOutcome}
use Rattle.ts_sessions.specs.declared.refreshes.SnapOutcome.TheVariants as snapped
use Rattle.ts_sessions.specs.declared.call_outcomes.Attempt.{Attempt}
use Rattle.ts_sessions.specs.declared.call_outcomes.Attempt.TheVariants as tried
use Rattle.ts_sessions.specs.declared.replies.Reply.{Reply as ReplyMade}
use Rattle.ts_sessions.specs.declared.replies.StepEnd.{StepEnd}
use Rattle.ts_sessions.specs.declared.replies.StepEnd.TheVariants as steps
use Rattle.ts_sessions.specs.Procedures.{Procedure}
use Rattle.ts_sessions.specs.Walks.{Walks, Breaks}
use Rattle.ts_sessions.specs.Places.{Block, none, writing, reading, Places, Turn, enters, cuts, holds, gives_up}
use Rattle.ts_sessions.specs.Held.{block_of, bytes_queued, most_queued, HoldsBlock, IsJobOf, HoldsOf}
use Rattle.ts_sessions.specs.Made.{made_in}
use Rattle.ts_sessions.specs.Script.{text_of, has_fault}
use Rattle.stmt_reader.specs.declared.faults.Fault.{Fault}
use Rattle.stmt_syntax.specs.declared.statements.Stmt.{Stmt}
use Rattle.stmt_syntax.specs.declared.statements.Stmt.TheVariants as stmts
use Rattle.stmt_reader.specs.Reading.{statement}
use Rattle.stmt_tokens.specs.Streams.{Stream, stream}
use Rattle.ts_sessions.specs.Step.{Taken, refresh_meant, snapshot_taken, takes_snapshot}
use Rattle.ts_model.specs.declared.snapshots.Shown.{Ghosts as Shown}
use Rattle.ts_sessions.specs.declared.sessions.Session.{Session}
use Rattle.ts_model.specs.declared.backends.Backend.{Ghosts as Backend}

-- ---- calls of a store

-- the outcome of a call
abbrev pub result_of : {A : Type 0} → Attempt A → Result A Refusal
result_of (tried.Done a) = Ok a
result_of (tried.Refused r) = Err r
result_of (tried.Failed r) = Err r

-- the disk failed in a call
abbrev pub has_failed : {A : Type 0} → Attempt A → Bool
has_failed (tried.Done a) = false
has_failed (tried.Refused r) = false
has_failed (tried.Failed r) = true

-- a call ended with the walk of its procedure, or ran out of memory
abbrev pub Tries :
    {A : Type 0} → Bool → State → Procedure (Result A Refusal) → Result (Attempt A) NoMemory → State → Type 0
Tries alone old procedure (Ok t) new = Walks alone (has_failed t) old procedure new (result_of t)
Tries alone old procedure (Err e) new = Breaks alone old procedure new

-- the outcome of a snapshot for a refresh that read this many rows
abbrev pub taken_as : {J : Type 0} → ℕ → SnapOutcome J → Result Taken Refusal
taken_as read (snapped.Taken at job) = Ok (record { at = at; reads = read })
taken_as read (snapped.Refused r) = Err r

-- how many rows a snapshot read: none if the refresh wasn't pending
abbrev pub read_by : {J : Type 0} → ℕ → SnapOutcome J → ℕ
read_by read (snapped.Taken at job) = read
read_by read (snapped.Refused r) = 0

-- the job of a snapshot fits the history, and is that of a snapshot for this refresh
abbrev pub FitsSnapped : {T J : Type 0} → Shown T J → ℕ → History → SnapOutcome J → Type 0
FitsSnapped shown c h (snapped.Taken at job) = IsJobOf shown c at h job
FitsSnapped shown c h (snapped.Refused r) = ⊤

-- this is the outcome of a snapshot of a history for a refresh; the rows read were counted
pub record IsTakenAs {J : Type 0} (h : History) (c : ℕ) (s : SnapOutcome J) (before after : ℕ) : Type 0 where
  pub read : ℕ
  pub is : taken_as read s ≡ snapshot_taken c h
  pub counted : after ≡ raised_by (read_by read s) before

-- the same, or it ran out of memory
abbrev pub TakenAs : {J : Type 0} → History → ℕ → Result (SnapOutcome J) NoMemory → ℕ → ℕ → Type 0
TakenAs h c (Ok s) before after = IsTakenAs h c s before after
TakenAs h c (Err e) before after = before ≤ after

-- a snapshot was taken for a refresh, or the refresh isn't pending; the rows read were counted
pub record Snaps {J : Type 0} (alone : Bool) (old : State) (c : ℕ) (s : SnapOutcome J) (new : State)
    (before after : ℕ) : Type 0 where
  pub read : ℕ
  pub walks : Walks alone false old (takes_snapshot c) new (taken_as read s)
  pub counted : after ≡ raised_by (read_by read s) before

-- a snapshot for a refresh ended like this, or ran out of memory
abbrev pub SnapEnds : {J : Type 0} → Bool → State → ℕ → Result (SnapOutcome J) NoMemory → State → ℕ → ℕ → Type 0
SnapEnds alone old c (Ok s) new before after = Snaps alone old c s new before after
SnapEnds alone old c (Err e) new before after = Breaks alone old (takes_snapshot c) new × (before ≤ after)

-- ---- statements

-- a block with one more queued operation
abbrev pub queued_on : Op → ℕ → Block → Block
queued_on op more none = none
queued_on op more (writing ops bytes) = writing (ops ++ op ∷ []) (bytes + more)
queued_on op more (reading at) = reading at

-- the state of a session after a change
abbrev pub places_after : {T J : Type 0} → Change T J → Places → Places
places_after changes.Nothing p = p
places_after (changes.Cuts c) p = cuts c p
places_after (changes.Holds c at job) p = holds c at p
places_after (changes.GivesUp c) p = gives_up c p
places_after (changes.Enters b) p = enters (block_of b) p
places_after (changes.Queues op more) p = enters (queued_on op more p.block) p

-- a change fits the history. An operation that will be queued has a text of this many bytes
abbrev pub ChangeHolds : {T J : Type 0} → Shown T J → ℕ → Change T J → History → Type 0
ChangeHolds shown bytes (changes.Holds c at job) h = IsJobOf shown c at h job
ChangeHolds shown bytes (changes.Enters b) h = HoldsBlock shown.stands b h × (bytes_queued (block_of b) ≡ 0)
ChangeHolds shown bytes (changes.Queues op more) h = IsOperation h more op × (more ≡ bytes)
ChangeHolds shown bytes other h = ⊤

-- what a statement brings to its session fits the history, unless the statement ran out of memory
abbrev pub Brings : {T J : Type 0} → Shown T J → ℕ → Result (Completion T J) NoMemory → History → Type 0
Brings shown bytes result h = IfOk result (λ t. ChangeHolds shown bytes t.change h)

-- a session that fits the state of its store still fits after a change that fits
abbrev pub HoldsAfter : {T J : Type 0} → Shown T J → Change T J → Session T J → Session T J → Type 0
HoldsAfter shown change old new =
    (s : State) (bytes : ℕ) → HoldsOf shown old s → ChangeHolds shown bytes change s.history → HoldsOf shown new s

-- a queue can hold what a change adds to it
abbrev pub ChangeFits : {T J : Type 0} → Change T J → Block → Type 0
ChangeFits (changes.Queues op more) b = bytes_queued b + more ≤ most_queued
ChangeFits other b = ⊤

-- the result of a statement that began with this session state and read this many rows
abbrev pub turn_of : {T J : Type 0} → Places → ℕ → Completion T J → Turn Places
turn_of p read t = record { places = places_after t.change p; said = t.said; reads = read }

-- a statement ended with the walk of its procedure, or ran out of memory
abbrev pub EndsAt :
    {T J : Type 0} → Bool → State → Procedure (Turn Places) → Places → ℕ → Result (Completion T J) NoMemory → State
    → Type 0
EndsAt alone old procedure p read (Ok t) new = Walks alone t.failed old procedure new (turn_of p read t)
EndsAt alone old procedure p read (Err e) new = Breaks alone old procedure new

-- the rows read were counted; out of memory, the count has not fallen
abbrev pub Counts : {A : Type 0} → Result A NoMemory → ℕ → ℕ → ℕ → Type 0
Counts (Ok a) read before after = after ≡ raised_by read before
Counts (Err e) read before after = before ≤ after

-- a statement ended like this, and the rows that it read were counted
pub record Ends {T J : Type 0} (alone : Bool) (old : State) (procedure : Procedure (Turn Places)) (p : Places)
    (result : Result (Completion T J) NoMemory) (new : State) (before after : ℕ) : Type 0 where
  pub read : ℕ
  pub ends : EndsAt alone old procedure p read result new
  pub counted : Counts result read before after

-- a statement of a session with this state did this on a store, and read no stored row
abbrev pub Does :
    {B T J : Type 0} → Backend B T J → B → Procedure (Turn Places) → Places → Result (Completion T J) NoMemory → B
    → Type 0
Does b old procedure p result new = EndsAt b.alone (b.state old) procedure p 0 result (b.state new)

-- the same for a statement that may read rows, which were counted
abbrev pub DoesReading :
    {B T J : Type 0} → Backend B T J → B → Procedure (Turn Places) → Places → Result (Completion T J) NoMemory → B → ℕ
    → ℕ → Type 0
DoesReading b old procedure p result new before after =
    Ends b.alone (b.state old) procedure p result (b.state new) before after

-- a statement completed with these lines and this change; the flag says whether the disk failed
abbrev pub Completes : {T J : Type 0} → List Said → Change T J → Bool → Result (Completion T J) NoMemory → Type 0
Completes said change failed (Ok t) = (t.said ≡ said) × (t.change ≡ change) × (t.failed ≡ failed)
Completes said change failed (Err e) = ⊤

-- ---- lines

-- the reply reports the walk of the line's procedure: its text, the numbers of the events that were appended, which it
-- names, and the rows read. The flag says whether the disk failed
pub record Reports {P : Type 0} (alone failed : Bool) (old : State) (procedure : Procedure (Turn P)) (name : List ℕ)
    (reply : ReplyMade) (new : State) (places : P) (before after : ℕ) : Type 0 where
  -- the lines of the reply, and how many rows were read
  pub said : List Said
  pub read : ℕ
  pub walks : Walks alone failed old procedure new (record { places = places; said = said; reads = read })
  pub text : reply.text ≡ text_of name said
  pub fault : reply.fault ≡ has_fault said
  pub names : reply.events ≡ made_in said
  pub made : new.made ≡ old.made ++ reply.events
  pub counted : after ≡ raised_by read before

-- a line of the session with a name did this procedure. Its reply reports the procedure, with or without a disk fault,
-- or the line ran out of memory
abbrev pub Stepped : {P : Type 0} → Bool → State → Procedure (Turn P) → List ℕ → StepEnd → State → P → ℕ → ℕ → Type 0
Stepped alone old procedure name (steps.Reply r) new places before after =
    Reports alone false old procedure name r new places before after
Stepped alone old procedure name (steps.DiskFault r) new places before after =
    Reports alone true old procedure name r new places before after
Stepped alone old procedure name steps.NoMemory new places before after =
    Breaks alone old procedure new × (before ≤ after)

-- a reply with the text of these lines, the numbers that they name, and whether one of them is a FAULT
pub record IsReply (name : List ℕ) (said : List Said) (r : ReplyMade) : Type 0 where
  pub text : r.text ≡ text_of name said
  pub fault : r.fault ≡ has_fault said
  pub names : r.events ≡ made_in said

-- these lines are the reply, with or without a disk fault, unless the call ran out of memory
abbrev pub AnswersSo : List ℕ → List Said → Bool → StepEnd → Type 0
AnswersSo name said failed (steps.Reply r) = (failed ≡ false) × IsReply name said r
AnswersSo name said failed (steps.DiskFault r) = (failed ≡ true) × IsReply name said r
AnswersSo name said failed steps.NoMemory = ⊤

-- this is the reply, with or without a disk fault
abbrev pub IsReplied : Bool → ReplyMade → StepEnd → Type 0
IsReplied failed r (steps.Reply q) = (failed ≡ false) × (q ≡ r)
IsReplied failed r (steps.DiskFault q) = (failed ≡ true) × (q ≡ r)
IsReplied failed r steps.NoMemory = ⊥

-- P is true if the line ran out of memory
abbrev pub IfNoMemory : StepEnd → Type 0 → Type 0
IfNoMemory (steps.Reply r) P = ⊤
IfNoMemory (steps.DiskFault r) P = ⊤
IfNoMemory steps.NoMemory P = P

-- P is true unless the line ran out of memory
abbrev pub IfAnswered : StepEnd → Type 0 → Type 0
IfAnswered (steps.Reply r) P = P
IfAnswered (steps.DiskFault r) P = P
IfAnswered steps.NoMemory P = ⊤

-- the session state without the snapshot that was given up, if there was one
abbrev pub without : Option ℕ → Places → Places
without None p = p
without (Some c) p = gives_up c p

-- the session state is as before, or without the snapshot for the refresh that the statement names to finish
pub record Spares (meant : Option ℕ) (old new : Places) : Type 0 where
  pub gone : Option ℕ
  pub only : IfSome gone (λ cut. meant ≡ Some cut)
  pub same : new ≡ without gone old

-- the refresh that a statement names to finish, if there is one
abbrev pub finish_meant : Places → Stmt → Option ℕ
finish_meant p (stmts.Finish number) = refresh_meant p number
finish_meant p other = None

abbrev pub finish_read : Places → Result (Stmt × Stream) Fault → Option ℕ
finish_read p (Ok read) = finish_meant p read.0
finish_read p (Err fault) = None

-- the refresh that a line names to finish. Its statement begins after the first `skip` bytes of the text
abbrev pub finish_in : Places → List ℕ → ℕ → Option ℕ
finish_in p text skip = finish_read p (statement (stream text skip))
