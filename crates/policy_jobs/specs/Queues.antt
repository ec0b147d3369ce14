-- Laws of what is queued in the write block of a session with policies, each in one sentence.
use Rattle.std.specs.Prelude.{◌≡◌, ℕ, ◌≤◌, ℤ, false, List, length, take, Option, Some, None, Ok}
use Rattle.std.specs.List.{AllByRecursion}
use Rattle.ts_model.specs.declared.events.Op.{Op}
use Rattle.ts_model.specs.declared.queries.Answer.{Answer}
use Rattle.ts_model.specs.Answers.{with_queue}
use Rattle.ts_model.specs.History.{position}
use Rattle.stmt_reader.specs.Reading.{statement}
use Rattle.stmt_syntax.specs.declared.statements.Stmt.{Stmt}
use Rattle.stmt_syntax.specs.Limits.{longest_line}
use Rattle.stmt_tokens.specs.Lines.{line_kind, session_name}
use Rattle.stmt_tokens.specs.Streams.{Stream, stream}
use Rattle.stmt_tokens.specs.declared.lines.LineKind.TheVariants.{Stmt as LineOf}
use Rattle.result_text.specs.Replies.{reply_text}
use Rattle.result_text.specs.declared.replies.Said.TheVariants as said
use Rattle.ts_sessions.specs.declared.kinds.StatementKind.TheVariants.{Asks}
use Rattle.ts_sessions.specs.Places.{Block, Places, enters, none, writing}
use Rattle.ts_sessions.specs.Script.{LineResult, ScriptState, executes, places_of}
use Rattle.ts_sessions.specs.Step.{kind_of}
use Rattle.policy_jobs.specs.Laws.{OthersSeeNoPlaces, is_line_of, policy_sessions, with_session}
use Rattle.policy_jobs.specs.Turns.{PolicyPlaces}

-- the places of a session in a block, with the same policies
abbrev pub in_block : Block → PolicyPlaces Places → PolicyPlaces Places
in_block b p = record p { inner = enters b p.inner }

-- a script in which the queue of a session was just committed
abbrev pub after_commit :
    ScriptState (PolicyPlaces Places) → List ℕ → PolicyPlaces Places → List Op → ScriptState (PolicyPlaces Places)
after_commit s name p ops = with_session (record s { history = with_queue ops s.history }) name (in_block none p)

-- ---- the session itself

-- a line of the session with a name is a query
pub record IsQueryLine (name line : List ℕ) : Type 0 where
  pub len : ℕ
  pub skip : ℕ
  pub end : ℕ
  pub kind : line_kind line ≡ LineOf len skip end
  pub session : session_name line len skip ≡ name
  pub short : length line ≤ longest_line
  pub stmt : Stmt
  pub left : Stream
  pub read : statement (stream (take end line) skip) ≡ Ok (stmt, left)
  pub asks : kind_of stmt ≡ Asks

-- a line was answered in a write block and outside, with the same rows and stale ranges. The replies differ only in
-- their positions, and in the count of what is queued
pub record AnswersAlike (name : List ℕ) (queued at later : ℕ)
    (inside after : LineResult (PolicyPlaces Places)) : Type 0 where
  pub answer : Answer
  pub min : ℤ
  pub inside_text : inside.text ≡ reply_text name (said.Answered answer at (Some queued) min)
  pub after_text : after.text ≡ reply_text name (said.Answered answer later None min)

-- a line was answered alike, or refused both times, and as many stored rows were read
pub record ShowsAlike (name : List ℕ) (queued at later : ℕ)
    (inside after : LineResult (PolicyPlaces Places)) : Type 0 where
  pub fault : inside.fault ≡ after.fault
  pub reads : inside.reads ≡ after.reads
  pub answered : inside.fault ≡ false → AnswersAlike name queued at later inside after

-- a query of a session in a write block shows what the same line shows directly after a commit of the queue
abbrev pub QueriesShowTheQueue : Type 0
QueriesShowTheQueue =
    (s : ScriptState (PolicyPlaces Places)) (n : ℕ) (name line : List ℕ) (p : PolicyPlaces Places) (ops : List Op)
    (bytes : ℕ)
    → IsQueryLine name line → places_of name s.sessions ≡ Some (in_block (writing ops bytes) p)
    → ShowsAlike name (length ops) (position s.history) (position (with_queue ops s.history))
    (executes policy_sessions s n line) (executes policy_sessions (after_commit s name p ops) n line)

-- ---- others

-- what lines of other sessions write, and which rows they read, is the same whatever a session has queued
abbrev pub OthersSeeNoQueue : Type 0
OthersSeeNoQueue =
    (other : List ℕ) (p : PolicyPlaces Places) (ops : List Op) (bytes : ℕ) (s : ScriptState (PolicyPlaces Places))
    (n : ℕ) (lines : List (List ℕ))
    → AllByRecursion (λ line. is_line_of other line ≡ false) lines → places_of other s.sessions ≡ Some p
    → OthersSeeNoPlaces policy_sessions other p (in_block (writing ops bytes) p) s n lines
