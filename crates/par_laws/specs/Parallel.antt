-- The results of sessions that ran on one store: one alone, then others in parallel, then one alone.
use Rattle.std.specs.Prelude.{◌≡◌, ℕ, Bool, List, [], ◌∷◌, Option, sum_by}
use Rattle.std.specs.List.{list_any}
use Rattle.ts_schema.specs.Counts.{raised_by}
use Rattle.ts_model.specs.History.{History, position, Begins}
use Rattle.ts_model.specs.States.{State, stop_of}
use Rattle.ts_sessions.specs.Actors.{HadBegun}
use Rattle.ts_sessions.specs.Places.{Block, Turn}
use Rattle.ts_sessions.specs.Procedures.{Procedure}
use Rattle.ts_sessions.specs.Script.{SessionLine, SessionScript, has_fault, text_of}
use Rattle.transcript.specs.declared.transcripts.Exchange.{Exchange}
use Rattle.par_laws.specs.Named.{RepliesNameEvents}
use Rattle.par_laws.specs.Phases.{ExecutedTo, Executed, Phase}
use Rattle.par_laws.specs.Stopped.{RepliesStopAt}

-- the lines of a session and its replies: its name, each line with its reply, and whether one of the replies is a
-- FAULT. The count of stored rows that they read has 64 bits and saturates
pub record SessionReplies : Type 0 where
  pub name : List ℕ
  pub exchanges : List Exchange
  pub fault : Bool
  pub reads : ℕ

-- ---- one session

-- the lines of a session
abbrev pub lines_in : SessionScript → List SessionLine
lines_in session = session.lines

-- the state of a session after its turn
abbrev pub places_after : {P : Type 0} → Turn P → P
places_after turn = turn.places

-- a line of the session with a name, with the text of its reply
abbrev pub exchange_of : {P : Type 0} → List ℕ → SessionLine → Turn P → Exchange
exchange_of name line turn = record { line = line.text; reply = text_of name turn.said }

-- its lines, each with its reply
abbrev pub exchanges_of : {P : Type 0} → List ℕ → List SessionLine → List (Turn P) → List Exchange
exchanges_of name [] turns = []
exchanges_of name (line ∷ lines) [] = []
exchanges_of name (line ∷ lines) (turn ∷ turns) = exchange_of name line turn ∷ exchanges_of name lines turns

-- the replies of a session are the results of its lines
pub record AreReplies {P : Type 0} (session : SessionScript) (replies : SessionReplies)
    (turns : List (Turn P)) : Type 0 where
  pub name : replies.name ≡ session.name
  pub exchanges : replies.exchanges ≡ exchanges_of session.name session.lines turns
  pub fault : replies.fault ≡ list_any (λ turn. has_fault turn.said) turns
  pub reads : replies.reads ≡ raised_by (sum_by (λ turn. turn.reads) turns) 0

-- what lines do by the state of their session, the block in a session state, and the state of each session at its first
-- line
module _ {P : Type 0} (within : P → Block) (does : P → List ℕ → ℕ → Procedure (Turn P)) (p : P) where
  -- a session that had begun at its first line executed these lines from a state on, which left a store state and its
  -- session state
  abbrev pub SessionExecutedTo : Bool → SessionScript → State → SessionReplies → State → P → Type 0
  SessionExecutedTo alone session s replies t q =
      ExecutedTo lines_in AreReplies does places_after (HadBegun within) alone p session s replies t q

  -- the same, with any session state at the end
  abbrev pub SessionExecuted : Bool → SessionScript → State → SessionReplies → State → Type 0
  SessionExecuted alone session s replies t =
      Executed lines_in AreReplies does places_after (HadBegun within) alone p session s replies t

-- ---- several sessions

-- the replies to lines by the state of their session, and the state of each session at its first line
module _ {P : Type 0} (reply : P → List ℕ → ℕ → Procedure (Turn P)) (p : P) where
  -- over a whole history, which stopped at `stop` if it did, sessions ran in a phase between two positions: their lines
  -- are answered there. A reply is E24 only if the store had stopped, with that position, and each names the events of
  -- its line
  pub record SessionsRan (all : History) (stop : Option ℕ) (from to : ℕ) (sessions : List SessionScript)
      (replies : List SessionReplies) : Type 0 where
    pub phase : Phase lines_in AreReplies reply places_after all stop from to p sessions replies
    pub stops : RepliesStopAt stop phase.answers
    pub named : RepliesNameEvents phase.answers

  -- over an opening history first the sessions of `setup` ran, then `others` in parallel, then those of `final`, with
  -- these replies. They left a state, and all are answered over the one history that was left, with the phases in order
  pub record RanInParallel (opening : History) (setup others final : List SessionScript) (new : State)
      (before between after : List SessionReplies) : Type 0 where
    -- the positions at which `setup` ended, and at which `others` did
    pub first : ℕ
    pub second : ℕ
    pub begins : Begins opening new.history
    pub setup_ran : SessionsRan new.history (stop_of new) (position opening) first setup before
    pub others_ran : SessionsRan new.history (stop_of new) first second others between
    pub final_ran : SessionsRan new.history (stop_of new) second (position new.history) final after
