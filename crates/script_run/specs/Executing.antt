-- What the sessions of a script need for a line, and what they leave after it.
use Rattle.std.specs.Prelude.{◌≡◌, ℕ, ◌+◌, ◌<◌, ◌≤◌, ◌^◌, Bool, false, List, IsTrue}
use Rattle.std.specs.Global.{Vec}
use Rattle.ts_model.specs.declared.backends.Backend.{Ghosts as Backend}
use Rattle.ts_model.specs.States.{State, stands_still}
use Rattle.stmt_syntax.specs.Limits.{longest_line}
use Rattle.ts_sessions.specs.declared.actors.Actor.{Ghosts as Actor}
use Rattle.ts_sessions.specs.declared.replies.StepEnd.{StepEnd}
use Rattle.ts_sessions.specs.Held.{most_queued}
use Rattle.ts_sessions.specs.Script.{LineResult}
use Rattle.ts_sessions.specs.Sessions.{IfAnswered}
use Rattle.script_run.specs.LineEnds.{LineExecuted}
use Rattle.script_run.specs.Sessions.{AreSessions, script_over, waiting_in}

-- sessions can execute a line of this many bytes. Nobody else uses their store, which hasn't stopped. Their queues can
-- hold the operations, and this many rows were read before
pub record AreReady {A T J : Type 0} (actors : Actor A T J) (alone : Bool) (s : State) (entries : List (Vec ℕ × A))
    (bytes read : ℕ) : Type 0 where
  pub by_itself : IsTrue alone
  pub going : stands_still s ≡ false
  pub counts : read < 2 ^ 64
  pub short : bytes ≤ longest_line
  pub sessions : AreSessions actors s entries
  pub room : waiting_in actors.waiting entries + bytes ≤ most_queued

-- the sessions executed the line, which had its outcome. What they hold fits the state of their store, and the texts of
-- their queues grew by at most the bytes of the line
pub record HaveTaken {A T J B U K : Type 0} (actors : Actor A T J) (backend : Backend B U K) (old : B)
    (entries : List (Vec ℕ × A)) (bytes : ℕ) (line_result : LineResult actors.Places) (end : StepEnd) (new : B)
    (entries_then : List (Vec ℕ × A)) (before after : ℕ) : Type 0 where
  pub executed :
      LineExecuted end line_result (backend.state old) (backend.state new)
      (script_over actors.places (backend.state new) entries_then) before after
  pub sessions : IfAnswered end (AreSessions actors (backend.state new) entries_then)
  pub waiting : waiting_in actors.waiting entries_then ≤ waiting_in actors.waiting entries + bytes
  pub kin : backend.kin new ≡ backend.kin old
