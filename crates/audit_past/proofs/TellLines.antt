-- Lines over a whole history.
use Rattle.std.proofs.Common.{◌≡◌, ℕ, ◌+◌, ◌≤◌, false, List, [], ◌∷◌, Option, Some, None, sym, refl, ap, ◌∙◌, subst, arith}
use Rattle.std.specs.Prelude.{Result, Ok, Err, IfOk}
use Rattle.ts_schema.specs.declared.memory.NoMemory.{NoMemory}
use Rattle.ts_model.specs.declared.outcomes.Refusal.{Refusal}
use Rattle.ts_model.specs.declared.snapshots.Shown.{Ghosts as Shown}
use Rattle.ts_model.specs.History.{History, position}
use Rattle.result_text.specs.declared.replies.Said.TheVariants as said
use Rattle.stmt_reader.specs.Answers.{IsRead}
use Rattle.stmt_tokens.specs.Streams.{Stream}
use Rattle.stmt_reader.specs.declared.faults.Fault.{Fault}
use Rattle.stmt_syntax.specs.declared.statements.Stmt.{Stmt}
use Rattle.ts_sessions.specs.Replies.{replies}
use Rattle.ts_sessions.specs.Step.{as_read, block_refusal, kind_of, misread, named_here, unless}
use Rattle.ts_sessions.specs.declared.changes.Change.TheVariants as changes
use Rattle.audit_past.specs.declared.deed_replays.StatementOutcome.{StatementOutcome}
use Rattle.ts_sessions.specs.declared.sessions.Session.{Session}
use Rattle.audit_past.specs.declared.lines.ReplayedLine.{ReplayedLine}
use Rattle.ts_sessions.specs.Deeds.{said_once}
use Rattle.ts_sessions.specs.Held.{Carries, bytes_queued, waiting_bytes}
use Rattle.ts_sessions.specs.Places.{Places, Turn, refuses}
use Rattle.ts_sessions.specs.Procedures.{Procedure, ends}
use Rattle.audit_past.specs.ReplaySteps.{IsReached, IsToldLine, ReachesTo, RepliesTo, ended_of}
use Rattle.audit_looks.specs.Replay.{Tells}
use Rattle.ts_sessions.proofs.HoldLaws.{change_queues}
use Rattle.ts_sessions.proofs.SessionLaws.{carried_places}
use Rattle.audit_past.proofs.TellStatements.{ends_told, reaches_as}

-- a statement that ended
pub reached_is : {T J : Type 0} (shown : Shown T J) (bytes : ℕ) (all : History) (at : ℕ) (procedure : Procedure (Turn Places)) (ps : List ℕ) (p : Places) (o : Option (StatementOutcome T J)) (r : StatementOutcome T J) → o ≡ Some r → ReachesTo shown bytes all at procedure ps p (Ok o) → IsReached shown bytes all at procedure ps p r
reached_is {T} {J} shown bytes all at procedure ps p o r e k = subst (λ (x : Option (StatementOutcome T J)). ReachesTo shown bytes all at procedure ps p (Ok x)) e k

-- or that the history doesn't explain
pub nothing_told : {T J : Type 0} (shown : Shown T J) (bytes : ℕ) (all : History) (at : ℕ) (procedure : Procedure (Turn Places)) (ps : List ℕ) (p : Places) (o : Option (StatementOutcome T J)) → o ≡ None → ReachesTo shown bytes all at procedure ps p (Ok o) → Tells all at [] procedure ps None
nothing_told {T} {J} shown bytes all at procedure ps p o e k = (subst (λ (x : Option (StatementOutcome T J)). ReachesTo shown bytes all at procedure ps p (Ok x)) e k) []

-- its reply, and the session state then
pub line_told : {T J : Type 0} (shown : Shown T J) (bytes : ℕ) (all : History) (at : ℕ) (procedure : Procedure (Turn Places)) (ps : List ℕ) (p q : Places) (r : StatementOutcome T J) (name : List ℕ) (line : ReplayedLine) → IsReached shown bytes all at procedure ps p r → RepliesTo name r p q (Ok line) → IsToldLine all at procedure ps name q line
line_told shown bytes all at procedure ps p q r name line i k = record {
  said = r.completion.said;
  read = i.total;
  given = i.given [];
  tells =
      subst (λ n. Tells all at [] procedure ps (Some (record { last = n; given = i.given []; end = record { places = q; said = r.completion.said; reads = i.total } }))) (sym k.1)
      (subst (λ x. Tells all at [] procedure ps (Some (record { last = r.last; given = i.given []; end = record { places = x; said = r.completion.said; reads = i.total } }))) (sym k.2) (i.tells []));
  reply = k.0;
  low = subst (λ n. at ≤ n) (sym k.1) i.low;
  high = subst (λ n. n ≤ position all) (sym k.1) i.high;
}

-- the queue grows by at most the bytes of the text
pub queue_told : {T J : Type 0} (shown : Shown T J) (bytes : ℕ) (all : History) (at : ℕ) (procedure : Procedure (Turn Places)) (ps : List ℕ) (p q : Places) (r : StatementOutcome T J) (name : List ℕ) (line : ReplayedLine) → IsReached shown bytes all at procedure ps p r → RepliesTo name r p q (Ok line) → bytes_queued q.block ≤ bytes_queued p.block + bytes
queue_told shown bytes all at procedure ps p q r name line i k = subst (λ (x : Places). bytes_queued x.block ≤ bytes_queued p.block + bytes) (sym k.2) (change_queues shown bytes all r.completion.change p i.stands.change)

pub queue_kept : {T J : Type 0} (s t : Session T J) (bytes : ℕ) → Carries s t → waiting_bytes t ≤ waiting_bytes s + bytes
queue_kept s t bytes k = let same : waiting_bytes t ≡ waiting_bytes s = ap (λ (x : Places). bytes_queued x.block) (carried_places s t k) in omega (arith, same)

-- a line that is refused before any name was resolved
pub refused_told : {T J : Type 0} (shown : Shown T J) (bytes : ℕ) (all : History) (at : ℕ) (ps : List ℕ) (p : Places) (procedure : Procedure (Turn Places)) (q : Refusal) (result : Result (Option (StatementOutcome T J)) NoMemory) → at ≤ position all → procedure ≡ ends (refuses p q) → IfOk result (λ o. o ≡ ended_of (said_once (said.Fault q) changes.Nothing) at) → ReachesTo shown bytes all at procedure ps p result
refused_told {T} {J} shown bytes all at ps p procedure q (Ok o) le e w =
    reaches_as shown bytes all at procedure (ends (refuses p q)) ps p (Ok o) e
    (subst (λ (x : Option (StatementOutcome T J)). ReachesTo shown bytes all at (ends (refuses p q)) ps p (Ok x)) (sym w)
    (ends_told shown bytes all at ps p 0 (said_once (said.Fault q) changes.Nothing) (record { said = said.Fault q ∷ []; change = changes.Nothing; failed = false }) le refl (record { change = tt; stands = refl })))
refused_told shown bytes all at ps p procedure q (Err x) le e w = tt

-- a line that its block refuses
pub line_barred : (p : Places) (bytes : ℕ) (stmt : Stmt) (q : Refusal) (read : Result (Stmt × Stream) Fault) → IsRead stmt read → block_refusal p.block (kind_of stmt) ≡ Some q → as_read p (replies p bytes) read ≡ ends (refuses p q)
line_barred p bytes stmt q (Ok read) e i = ap (replies p bytes) e ∙ ap (λ o. unless p o (named_here p bytes stmt)) i
line_barred p bytes stmt q (Err f) e i = absurd e

-- a line that can't be read
pub line_misread : (p : Places) (bytes : ℕ) (f : Fault) (q : Refusal) (read : Result (Stmt × Stream) Fault) → read ≡ Err f → q ≡ misread f → as_read p (replies p bytes) read ≡ ends (refuses p q)
line_misread p bytes f q read e i = ap (as_read p (replies p bytes)) e ∙ ap (λ x. ends (refuses p x)) (sym i)
