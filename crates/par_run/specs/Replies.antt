-- The replies of a session so far, and how it executes its next line.
use Rattle.std.specs.Prelude.{◌≡◌, ℕ, Bool, ◌||◌, List, [], ◌∷◌, ◌++◌, Option, Some, None}
use Rattle.ts_model.specs.States.{State}
use Rattle.ts_sessions.specs.declared.replies.Reply.{Reply as ReplyMade}
use Rattle.ts_sessions.specs.declared.replies.StepEnd.{StepEnd}
use Rattle.ts_sessions.specs.declared.replies.StepEnd.TheVariants as steps
use Rattle.ts_sessions.specs.Places.{Block, Turn}
use Rattle.ts_sessions.specs.Procedures.{Procedure}
use Rattle.ts_sessions.specs.Script.{SessionLine}
use Rattle.par_laws.specs.Parallel.{SessionReplies, SessionExecutedTo}
use Rattle.par_run.specs.declared.replies.Replies.{Replies}

-- the reply of a step, unless it ran out of memory
abbrev pub reply_in : StepEnd → Option ReplyMade
reply_in (steps.Reply r) = Some r
reply_in (steps.DiskFault r) = Some r
reply_in steps.NoMemory = None

-- a line and its reply were kept, as the last
pub record Keeps (line : List ℕ) (reply : ReplyMade) (old new : Replies) : Type 0 where
  pub exchanges : new.exchanges.items ≡ old.exchanges.items ++ record { line = line; reply = reply.text } ∷ []
  pub fault : new.fault ≡ (old.fault || reply.fault)

-- the same for a line and the reply of its step
abbrev pub KeepsEnd : List ℕ → StepEnd → Replies → Replies → Type 0
KeepsEnd line (steps.Reply r) old new = Keeps line r old new
KeepsEnd line (steps.DiskFault r) old new = Keeps line r old new
KeepsEnd line steps.NoMemory old new = ⊥

-- the lines and replies of the session with a name, if these replies were kept and this many stored rows read
abbrev pub replies_said : List ℕ → Replies → ℕ → SessionReplies
replies_said name replies reads = record {
  name = name;
  exchanges = replies.exchanges.items;
  fault = replies.fault;
  reads = reads;
}

-- what lines do by the state of their session, the block in a session state, and the state of each session at its first
-- line
module _ {P : Type 0} (within : P → Block) (does : P → List ℕ → ℕ → Procedure (Turn P)) (first : P) where
  -- whatever lines a session with a name had executed from a state on, it has executed one more line
  abbrev pub ExecutesNext :
      Bool → List ℕ → SessionLine → State → P → SessionReplies → State → P → SessionReplies → Type 0
  ExecutesNext alone name line old p before new q after = (lines : List SessionLine) (s : State)
      → SessionExecutedTo within does first alone (record { name = name; lines = lines }) s before old p
      → SessionExecutedTo within does first alone (record { name = name; lines = lines ++ line ∷ [] }) s after new q
