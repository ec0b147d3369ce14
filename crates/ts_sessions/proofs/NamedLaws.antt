-- What a statement asks of an aggregate: one with an event asks nothing of it.
use Rattle.std.proofs.Common.{◌≡◌, ℕ, Bool, true, false, cond, Option, Some, None, sym, refl, ap, subst}
use Rattle.std.specs.Prelude.{Result, Ok, Err}
use Rattle.std.proofs.lemmas.Bool.{true≢false}
use Rattle.ts_model.specs.declared.outcomes.Refusal.{Refusal}
use Rattle.ts_model.specs.declared.rosters.Roster.{Roster}
use Rattle.ts_model.specs.History.{History, position}
use Rattle.ts_model.specs.Roster.{roster}
use Rattle.stmt_reader.specs.declared.faults.Fault.{Fault}
use Rattle.stmt_syntax.specs.declared.statements.Stmt.{Stmt}
use Rattle.stmt_syntax.specs.declared.statements.Stmt.TheVariants as stmts
use Rattle.stmt_tokens.specs.Streams.{Stream}
use Rattle.stmt_check.specs.Check.{action_of, refusal_of}
use Rattle.hier_agg.specs.declared.reads.UpperRead.{UpperRead}
use Rattle.hier_agg.specs.declared.reads.UpperRead.TheVariants as uppers
use Rattle.hier_agg.specs.Reads.{upper_read}
use Rattle.ts_sessions.specs.declared.kinds.StatementKind.{StatementKind}
use Rattle.ts_sessions.specs.declared.queries.Plan.{Plan}
use Rattle.ts_sessions.specs.Places.{Block, none, reading, writing, Places, Turn, refuses}
use Rattle.ts_sessions.specs.Procedures.{Procedure, ends}
use Rattle.ts_sessions.specs.Step.{acts, answers, as_read, kind_of, looks_twice, makes_event, misread, turn_of_names, named_as, named_first, named_here, performs, roll_up_plan, unless}

-- a statement with an event isn't a roll-up
pub not_upper : (pos : ℕ) (r : Roster) (stmt : Stmt) → makes_event (kind_of stmt) ≡ true → upper_read pos r stmt ≡ uppers.NotUpper
not_upper pos r (stmts.Table name cols) e = refl
not_upper pos r (stmts.Hyper table col interval) e = refl
not_upper pos r (stmts.View name only filled fold) e = refl
not_upper pos r (stmts.Mode view only) e = refl
not_upper pos r (stmts.Insert table cols rows) e = refl
not_upper pos r (stmts.Delete table tests) e = refl
not_upper pos r (stmts.Drop table below) e = refl
not_upper pos r (stmts.Refresh view lo hi) e = refl
not_upper pos r (stmts.Cut view lo hi) e = refl
not_upper pos r (stmts.Snap cut) e = refl
not_upper pos r (stmts.Finish cut) e = refl
not_upper pos r stmts.Begin e = refl
not_upper pos r stmts.BeginRead e = refl
not_upper pos r stmts.Commit e = refl
not_upper pos r stmts.Rollback e = refl
not_upper pos r (stmts.Buckets fold) e = absurd (true≢false (sym e))
not_upper pos r (stmts.Calendar number unit fold) e = refl
not_upper pos r (stmts.Rows table tests) e = refl

-- so it is checked
pub event_named : (p : Places) (bytes : ℕ) (h : History) (stmt : Stmt) → makes_event (kind_of stmt) ≡ true → turn_of_names p bytes stmt h ≡ unless p (refusal_of (position h) (roster h) stmt) (acts p bytes h (action_of (roster h) stmt))
event_named p bytes h stmt e = ap (named_as p bytes h stmt) (not_upper (position h) (roster h) stmt e)

-- ---- what is true of the parts of a procedure is true of it

-- a procedure, unless it is refused
pub unless_holds : (C : Procedure (Turn Places) → Type 0) (p : Places) (o : Option Refusal) (procedure : Procedure (Turn Places)) → ((r : Refusal) → o ≡ Some r → C (ends (refuses p r))) → (o ≡ None → C procedure) → C (unless p o procedure)
unless_holds C p (Some r) procedure refused passed = refused r refl
unless_holds C p None procedure refused passed = passed refl

-- a statement that was read
pub read_holds : (C : Procedure (Turn Places) → Type 0) (p : Places) (does : Stmt → Procedure (Turn Places)) (read : Result (Stmt × Stream) Fault) → ((f : Fault) → C (ends (refuses p (misread f)))) → ((stmt : Stmt) → C (does stmt)) → C (as_read p does read)
read_holds C p does (Ok read) misread statement = statement read.0
read_holds C p does (Err f) misread statement = misread f

-- a statement that reads twice is outside a block and appends an event
pub twice_outside : (b : Block) (kind : StatementKind) → looks_twice b kind ≡ true → (b ≡ none) × (makes_event kind ≡ true)
twice_outside none kind e = (refl, e)
twice_outside (writing ops n) kind e = absurd (true≢false (sym e))
twice_outside (reading at) kind e = absurd (true≢false (sym e))

pub once_outside : (b : Block) (kind : StatementKind) → looks_twice b kind ≡ false → b ≡ none → makes_event kind ≡ false
once_outside b kind e outside = subst (λ x. looks_twice x kind ≡ false) outside e

pub looks_once : (b : Block) (kind : StatementKind) → makes_event kind ≡ false → looks_twice b kind ≡ false
looks_once none kind e = e
looks_once (writing ops n) kind e = refl
looks_once (reading at) kind e = refl

-- a statement that a block lets pass
pub performs_holds : (C : Procedure (Turn Places) → Type 0) (p : Places) (bytes : ℕ) (stmt : Stmt) → (looks_twice p.block (kind_of stmt) ≡ true → C (named_first p bytes stmt)) → (looks_twice p.block (kind_of stmt) ≡ false → C (named_here p bytes stmt)) → C (performs p bytes stmt)
performs_holds C p bytes stmt first here = by (looks_twice p.block (kind_of stmt)) refl
  where
    by : (twice : Bool) → looks_twice p.block (kind_of stmt) ≡ twice → C (cond twice (named_first p bytes stmt) (named_here p bytes stmt))
    by true e = first e
    by false e = here e

-- a statement whose names are resolved: a roll-up is refused or answered, and any other is refused or acts
module _ (C : Procedure (Turn Places) → Type 0) (p : Places) (bytes : ℕ) (h : History) (stmt : Stmt) (rolled : (r : Refusal) → upper_read (position h) (roster h) stmt ≡ uppers.Refused r → C (ends (refuses p r))) (shown : (plan : Plan) → C (ends (answers p h plan))) (refused : (r : Refusal) → refusal_of (position h) (roster h) stmt ≡ Some r → C (ends (refuses p r))) (passed : refusal_of (position h) (roster h) stmt ≡ None → C (acts p bytes h (action_of (roster h) stmt))) where
  checked_holds : C (unless p (refusal_of (position h) (roster h) stmt) (acts p bytes h (action_of (roster h) stmt)))
  checked_holds = unless_holds C p (refusal_of (position h) (roster h) stmt) (acts p bytes h (action_of (roster h) stmt)) refused passed

  asked_holds : (u : UpperRead) → upper_read (position h) (roster h) stmt ≡ u → C (named_as p bytes h stmt u)
  asked_holds (uppers.Plan plan) e = shown (roll_up_plan plan)
  asked_holds (uppers.Refused r) e = rolled r e
  asked_holds uppers.NotUpper e = checked_holds
  asked_holds uppers.NoMemory e = checked_holds

  pub named_holds : C (turn_of_names p bytes stmt h)
  named_holds = asked_holds (upper_read (position h) (roster h) stmt) refl
