-- Laws of lines, each in one sentence.
use Rattle.std.specs.Prelude.{◌≡◌, ℕ, zero, suc, ◌≤◌, Bool, true, false, List, [], ◌∷◌, length, None, IsTrue}
use Rattle.ts_model.specs.declared.events.Op.{Op}
use Rattle.ts_model.specs.declared.queries.Answer.{Answer}
use Rattle.ts_model.specs.Allowed.{all_allowed}
use Rattle.ts_model.specs.Answers.{with_queue}
use Rattle.ts_model.specs.History.{History, position, Begins}
use Rattle.ts_model.specs.Roster.{roster, same_name}
use Rattle.ts_model.specs.States.{State}
use Rattle.stmt_syntax.specs.declared.statements.Stmt.{Stmt}
use Rattle.stmt_check.specs.Check.{action_of, refusal_of}
use Rattle.result_text.specs.declared.replies.Said.{Said}
use Rattle.result_text.specs.declared.replies.Said.TheVariants as said
use Rattle.ts_sessions.specs.declared.kinds.StatementKind.TheVariants as kinds
use Rattle.ts_sessions.specs.declared.queries.Plan.{Plan}
use Rattle.ts_sessions.specs.Made.{made_in}
use Rattle.ts_sessions.specs.Places.{Block, none, writing, reading, Places, Turn, enters}
use Rattle.ts_sessions.specs.Procedures.{Procedure, sees, adds, ends}
use Rattle.ts_sessions.specs.Replies.{reply_to}
use Rattle.ts_sessions.specs.Script.{LineResult, ScriptState, executes_as, places_of, session_semantics, with_places}
use Rattle.ts_sessions.specs.Steady.{Steady}
use Rattle.ts_sessions.specs.Step.{acts, answers, kind_of, makes_event, on_hypertables, turn_of_names, passes_block, step}
use Rattle.ts_sessions.specs.Walks.{Walks, history_after, end_of_walk}

-- the names of a statement with an event passed the checks once. Later its action does what the statement does with its
-- names resolved then
abbrev pub NamesStay : Type 0
NamesStay =
    (p : Places) (bytes : ℕ) (stmt : Stmt) (g h : History) → Begins g h → all_allowed h ≡ true
    → makes_event (kind_of stmt) ≡ true → refusal_of (position g) (roster g) stmt ≡ None
    → acts p bytes h (action_of (roster g) stmt) ≡ turn_of_names p bytes stmt h

-- a step is what the reply to its line says. This is true over a store that others change, if the history that it left
-- is allowed, and over a store that nobody else uses
pub record StepsAreReplies : Type 0 where
  pub walks :
      (alone failed : Bool) (old : State) (p : Places) (text : List ℕ) (skip : ℕ) (new : State) (y : Turn Places)
      → all_allowed new.history ≡ true → Walks alone failed old (step p text skip) new y
      → Walks alone failed old (reply_to p text skip) new y
  pub history : (p : Places) (text : List ℕ) (skip : ℕ) (h : History)
      → history_after (reply_to p text skip) h ≡ history_after (step p text skip) h
  pub end :
      (p : Places) (text : List ℕ) (skip : ℕ) (h : History)
      → end_of_walk (reply_to p text skip) h ≡ end_of_walk (step p text skip) h

-- a block had begun by the end of a history: all operations of a write block are on hypertables there, and a read block
-- began at its position or before
abbrev pub BegunBy : Block → History → Type 0
BegunBy none h = Unit {0}
BegunBy (writing ops bytes) h = IsTrue (on_hypertables (roster h) ops)
BegunBy (reading began) h = began ≤ position h

-- what the reply to a line says is steady from each history on at which the block of its session had begun
abbrev pub RepliesAreSteady : Type 0
RepliesAreSteady =
    (p : Places) (text : List ℕ) (skip : ℕ) (base : History) → BegunBy p.block base
    → Steady false base (reply_to p text skip)

-- a procedure appends at most this many events
abbrev pub AtMost : {A : Type 0} → ℕ → Procedure A → Type 0
AtMost n (sees shown f) = (h : History) → AtMost n (f h)
AtMost zero (adds e next stop) = ⊥
AtMost (suc n) (adds e next stop) = AtMost n next × AtMost n stop
AtMost n (ends a) = Unit {0}

-- a line of a session appends at most three events
abbrev pub LinesMakeFewEvents : Type 0
LinesMakeFewEvents =
    (alone failed : Bool) (old : State) (p : Places) (text : List ℕ) (skip : ℕ) (new : State) (y : Turn Places)
    → Walks alone failed old (step p text skip) new y → length (made_in y.said) ≤ 3

-- ---- queues

-- the answers among lines
abbrev pub answers_in : List Said → List Answer
answers_in [] = []
answers_in (said.Answered answer pos queue min ∷ lines) = answer ∷ answers_in lines
answers_in (s ∷ lines) = answers_in lines

-- two turns show the same answers, and read as many rows
pub record ShowAlike (y z : Turn Places) : Type 0 where
  pub answers : answers_in y.said ≡ answers_in z.said
  pub reads : y.reads ≡ z.reads

-- a query in a write block, by any plan, shows what it shows outside directly after a commit of the queue
abbrev pub QueriesShowTheQueue : Type 0
QueriesShowTheQueue =
    (p : Places) (h : History) (ops : List Op) (bytes : ℕ) (plan : Plan)
    → ShowAlike (answers (enters (writing ops bytes) p) h plan) (answers (enters none p) (with_queue ops h) plan)

-- in a write block only COMMIT appends events
abbrev pub OnlyCommitsMakeEvents : Type 0
OnlyCommitsMakeEvents =
    (p : Places) (ops : List Op) (queued bytes : ℕ) (stmt : Stmt) → (kind_of stmt ≡ kinds.Commits → ⊥)
    → AtMost 0 (passes_block (enters (writing ops queued) p) bytes stmt)

-- a line of the session with a name, in a script where another session has this state
abbrev pub beside : ScriptState Places → List ℕ → Places → List ℕ → List ℕ → ℕ → LineResult Places
beside s other p name text skip =
    executes_as session_semantics (record s { sessions = with_places other p s.sessions }) name text skip
    (places_of name (with_places other p s.sessions))

-- the reply to a line is the same whatever another session has queued
abbrev pub OthersSeeNoQueue : Type 0
OthersSeeNoQueue =
    (s : ScriptState Places) (other name text : List ℕ) (skip : ℕ) (p q : Places) → same_name other name ≡ false
    → (beside s other p name text skip).text ≡ (beside s other q name text skip).text
