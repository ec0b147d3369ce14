-- The parts of the replay of a statement over a whole history.
use Rattle.std.specs.Prelude.{◌≡◌, ℕ, ◌≤◌, ◌<◌, false, ◌&&◌, nat_le, cond, List, [], ◌∷◌, Option, Some, None, Result, Ok, Err, ⊤}
use Rattle.ts_schema.specs.declared.memory.NoMemory.{NoMemory}
use Rattle.ts_model.specs.declared.events.Event.{Event}
use Rattle.ts_model.specs.declared.outcomes.Refusal.{Refusal}
use Rattle.ts_model.specs.declared.snapshots.Shown.{Ghosts as Shown}
use Rattle.ts_model.specs.History.{History, position, prefix}
use Rattle.ts_model.specs.States.{State}
use Rattle.ts_model.specs.Calls.{Act}
use Rattle.result_text.specs.declared.replies.Said.{Said}
use Rattle.ts_sessions.specs.declared.deeds.Deed.{Deed}
use Rattle.ts_sessions.specs.declared.deeds.Deed.TheVariants as deeds
use Rattle.ts_sessions.specs.declared.deeds.Next.{Next}
use Rattle.ts_sessions.specs.declared.deeds.Next.TheVariants as nexts
use Rattle.audit_past.specs.declared.deed_replays.OutcomeAt.{OutcomeAt}
use Rattle.audit_past.specs.declared.deed_replays.StatementOutcome.{StatementOutcome}
use Rattle.audit_past.specs.declared.deed_replays.StepOutcome.{StepOutcome}
use Rattle.ts_sessions.specs.Calls.{OutcomeFits, left_after, meets_left}
use Rattle.ts_sessions.specs.Deeds.{EndFits, IsAsked, Joins, with_line, left_next, rest_next, said_once}
use Rattle.ts_sessions.specs.Places.{Block, Places, Turn}
use Rattle.ts_sessions.specs.Procedures.{Procedure, sees, adds, ends, followed_by, tries_at}
use Rattle.ts_sessions.specs.Sessions.{IsReply, places_after, turn_of}
use Rattle.audit_looks.specs.Replay.{Told, Tells}
use Rattle.stmt_syntax.specs.declared.statements.Stmt.{Stmt}
use Rattle.audit_past.specs.declared.lines.ReplayedLine.{ReplayedLine}
use Rattle.ts_model.specs.Roster.{roster}
use Rattle.stmt_check.specs.declared.actions.Action.{Action}
use Rattle.stmt_check.specs.declared.actions.Action.TheVariants as actions
use Rattle.stmt_check.specs.Check.{action_of, refusal_of}
use Rattle.result_text.specs.declared.replies.Said.TheVariants as said
use Rattle.ts_sessions.specs.declared.changes.Change.TheVariants as changes
use Rattle.ts_sessions.specs.declared.name_checks.Resolved.{Resolved}
use Rattle.ts_sessions.specs.declared.name_checks.Resolved.TheVariants as meant
use Rattle.ts_sessions.specs.ResolvedNames.{answered_line}

-- ---- read positions

-- the next printed read position, if it isn't before the last one and lies within the history
abbrev pub next_look : History → ℕ → List ℕ → Option ℕ
next_look all at [] = None
next_look all at (p ∷ ps) = cond (nat_le at p && nat_le p (position all)) (Some p) None

-- the read positions after it
abbrev pub later_looks : List ℕ → List ℕ
later_looks [] = []
later_looks (p ∷ ps) = ps

-- the rest of a procedure after its first read, of this history
abbrev pub after_look : {A : Type 0} → History → Procedure A → Procedure A
after_look h (sees shown f) = f h
after_look h (adds e next stopped) = adds e next stopped
after_look h (ends a) = ends a

-- ---- store calls

-- the aggregate to refresh exists
abbrev pub AsksThere : {T J : Type 0} → Deed T J → History → Type 0
AsksThere (deeds.Cut asked then) h = IsAsked h asked
AsksThere other h = ⊤

-- ---- calls

-- the rest after a call with this effect at a history, by its outcome
abbrev pub does_at : {A B : Type 0} → History → (History → Act A) → (Result A Refusal → Procedure B) → Procedure B
does_at h act k = followed_by (tries_at h (act h)) k

-- ---- outcomes

-- a state with only a history
abbrev pub state_of : History → State
state_of h = record {
  history = h;
  failed = None;
  faults = 0;
  made = [];
  origin = record { faults = 0; opening = h; moment = 0 };
}

-- the next step fits a history that was replayed up to a position. The requested aggregate exists, and what the
-- statement brings to its session fits the whole history. Its text has this many bytes
abbrev pub NextStands : {T J : Type 0} → Shown T J → ℕ → History → ℕ → Next T J → Type 0
NextStands shown bytes all at (nexts.Deed d) = AsksThere d (prefix all at)
NextStands shown bytes all at (nexts.End t) = EndFits shown bytes t (state_of all)

-- a replay of a procedure, by these read positions, has each outcome of a replay of the rest from the position after
-- its first steps
pub record TellsBy {A : Type 0} (all : History) (at : ℕ) (procedure : Procedure A) (ps : List ℕ) (to : ℕ)
    (left : Procedure A) (qs : List ℕ) : Type 0 where
  pub given : List (ℕ × Event) → List (ℕ × Event)
  pub tells : (so_far : List (ℕ × Event)) (r : Option (Told A))
      → Tells all to (given so_far) left qs r → Tells all at so_far procedure ps r

-- the history doesn't explain a procedure
abbrev pub TellsNothing : {A : Type 0} → History → ℕ → Procedure A → List ℕ → Type 0
TellsNothing all at procedure ps = (so_far : List (ℕ × Event)) → Tells all at so_far procedure ps None

-- a call at a position of the history had this outcome, which leaves the rest of a procedure
pub record IsMet {T J : Type 0} (shown : Shown T J) (all : History) (at before : ℕ)
    (procedure : Places → ℕ → Procedure (Turn Places)) (m : OutcomeAt T) : Type 0 where
  pub tells : (p : Places) (read : ℕ) (ps : List ℕ) → TellsBy all at (procedure p read) ps m.at
      (with_line m.said (left_after p read (prefix all m.at) m.outcome)) ps
  pub fits : OutcomeFits shown (prefix all m.at) m.outcome
  pub left_so : meets_left m.outcome ≤ before
  pub low : at ≤ m.at
  pub high : m.at ≤ position all

-- the same, or the history doesn't explain it
abbrev pub MeetsAt :
    {T J : Type 0} → Shown T J → History → ℕ → ℕ → (Places → ℕ → Procedure (Turn Places)) → Option (OutcomeAt T) → Type 0
MeetsAt shown all at before procedure (Some m) = IsMet shown all at before procedure m
MeetsAt shown all at before procedure None = (p : Places) (read : ℕ) (ps : List ℕ) → TellsNothing all at (procedure p read) ps

-- a store call at a position had this outcome, and fewer store calls are left than before
pub record IsWent {T J : Type 0} (shown : Shown T J) (all : History) (at before : ℕ)
    (procedure : Places → ℕ → Procedure (Turn Places)) (w : StepOutcome T J) : Type 0 where
  pub read_then : ℕ → ℕ
  pub tells : (p : Places) (read : ℕ) (ps : List ℕ) → TellsBy all at (procedure p read) ps w.at
      (with_line w.said (rest_next p (read_then read) w.next)) ps
  pub stands : (bytes : ℕ) → NextStands shown bytes all w.at w.next
  pub low : at ≤ w.at
  pub high : w.at ≤ position all
  pub shorter : left_next w.next < before

-- the same, or the history doesn't explain it
abbrev pub GoesTo :
    {T J : Type 0} → Shown T J → History → ℕ → ℕ → (Places → ℕ → Procedure (Turn Places))
    → Result (Option (StepOutcome T J)) NoMemory → Type 0
GoesTo shown all at before procedure (Ok (Some w)) = IsWent shown all at before procedure w
GoesTo shown all at before procedure (Ok None) =
    (p : Places) (read : ℕ) (ps : List ℕ) → TellsNothing all at (procedure p read) ps
GoesTo shown all at before procedure (Err e) = ⊤

-- a statement of a session with this state had this outcome. Its text has this many bytes
pub record IsReached {T J : Type 0} (shown : Shown T J) (bytes : ℕ) (all : History) (at : ℕ)
    (procedure : Procedure (Turn Places)) (ps : List ℕ) (p : Places) (r : StatementOutcome T J) : Type 0 where
  pub total : ℕ
  pub given : List (ℕ × Event) → List (ℕ × Event)
  pub tells : (so_far : List (ℕ × Event)) → Tells all at so_far procedure ps
      (Some (record { last = r.last; given = given so_far; end = turn_of p total r.completion }))
  pub stands : EndFits shown bytes r.completion (state_of all)
  pub low : at ≤ r.last
  pub high : r.last ≤ position all

-- the same, or the history doesn't explain it
abbrev pub ReachesTo :
    {T J : Type 0} → Shown T J → ℕ → History → ℕ → Procedure (Turn Places) → List ℕ → Places
    → Result (Option (StatementOutcome T J)) NoMemory → Type 0
ReachesTo shown bytes all at procedure ps p (Ok (Some r)) = IsReached shown bytes all at procedure ps p r
ReachesTo shown bytes all at procedure ps p (Ok None) = TellsNothing all at procedure ps
ReachesTo shown bytes all at procedure ps p (Err e) = ⊤

-- the outcome of a statement, after an earlier line of the reply
abbrev pub LedTo :
    {T J : Type 0} → Option Said → Option (StatementOutcome T J) → Result (Option (StatementOutcome T J)) NoMemory → Type 0
LedTo said None (Ok o) = o ≡ None
LedTo said (Some r) (Ok (Some q)) = Joins said false r.completion (Ok q.completion) × (q.last ≡ r.last)
LedTo said (Some r) (Ok None) = ⊥
LedTo said o (Err e) = ⊤

-- ---- statements and lines

-- the outcome of a statement that ends here, or None
abbrev pub ended_of : {T J : Type 0} → Next T J → ℕ → Option (StatementOutcome T J)
ended_of (nexts.Deed d) last = None
ended_of (nexts.End t) last = Some (record { completion = t; last = last })

-- the outcome of a statement whose names are refused at a position, or None
abbrev pub refused_to : {T J : Type 0} → Option Refusal → ℕ → Option (StatementOutcome T J)
refused_to None look = None
refused_to (Some q) look = ended_of (said_once (said.Fault q) changes.Nothing) look

-- the same at its read position, if it has a printed one
abbrev pub refused_at : {T J : Type 0} → History → Stmt → Option ℕ → Option (StatementOutcome T J)
refused_at all stmt None = None
refused_at all stmt (Some look) =
    refused_to (refusal_of (position (prefix all look)) (roster (prefix all look)) stmt) look

-- an operation from a text of this many bytes is queued. No other action is
abbrev pub queued_operation : {T J : Type 0} → Action → ℕ → Next T J
queued_operation (actions.Change op) bytes = said_once said.Queued (changes.Queues op bytes)
queued_operation other bytes = said_once said.Queued changes.Nothing

-- the outcome of a statement, unless this refuses it
abbrev pub unless_refused : {T J : Type 0} → Option Refusal → Next T J → ℕ → Option (StatementOutcome T J)
unless_refused None next last = ended_of next last
unless_refused (Some q) next last = None

-- a change that is queued by the names at the end of a history
abbrev pub waits_at : {T J : Type 0} → History → ℕ → ℕ → Stmt → Option (StatementOutcome T J)
waits_at all at bytes stmt =
    unless_refused (refusal_of (position all) (roster all) stmt) (queued_operation (action_of (roster all) stmt) bytes) at

-- the reply to a query in a block
abbrev pub shown_as : {T J : Type 0} → Block → History → Resolved T J → Next T J
shown_as b h (meant.Refused q) = said_once (said.Fault q) changes.Nothing
shown_as b h (meant.Shows plan) = said_once (answered_line b h plan) changes.Nothing
shown_as b h other = said_once said.Queued changes.Nothing

-- a line of the session with a name has this reply, and leaves this session state
pub record IsToldLine (all : History) (at : ℕ) (procedure : Procedure (Turn Places)) (ps : List ℕ) (name : List ℕ)
    (places : Places) (line : ReplayedLine) : Type 0 where
  pub said : List Said
  pub read : ℕ
  pub given : List (ℕ × Event)
  pub tells : Tells all at [] procedure ps
      (Some (record { last = line.last; given = given; end = record { places = places; said = said; reads = read } }))
  pub reply : IsReply name said line.reply
  pub low : at ≤ line.last
  pub high : line.last ≤ position all

-- the same, or the history doesn't explain it
abbrev pub LineTells :
    History → ℕ → Procedure (Turn Places) → List ℕ → List ℕ → Places → Result (Option ReplayedLine) NoMemory → Type 0
LineTells all at procedure ps name places (Ok (Some line)) = IsToldLine all at procedure ps name places line
LineTells all at procedure ps name places (Ok None) = Tells all at [] procedure ps None
LineTells all at procedure ps name places (Err e) = ⊤

-- the reply to a line by its outcome, and the session state after it
abbrev pub RepliesTo :
    {T J : Type 0} → List ℕ → StatementOutcome T J → Places → Places → Result ReplayedLine NoMemory → Type 0
RepliesTo name r old new (Ok line) =
    IsReply name r.completion.said line.reply × (line.last ≡ r.last) × (new ≡ places_after r.completion.change old)
RepliesTo name r old new (Err e) = ⊤
