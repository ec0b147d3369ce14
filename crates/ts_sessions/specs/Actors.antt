-- What the replies of an actor say about what its lines do.
use Rattle.std.specs.Prelude.{◌≡◌, ◌≤◌, ℕ, Bool, true, List, [], ◌++◌, Option, Result, Ok, Err}
use Rattle.ts_model.specs.declared.events.Event.{Event}
use Rattle.ts_model.specs.Allowed.{all_allowed}
use Rattle.ts_model.specs.History.{History, position, Begins}
use Rattle.ts_model.specs.States.{State, stop_of}
use Rattle.stmt_reader.specs.declared.faults.Fault.{Fault}
use Rattle.stmt_syntax.specs.declared.statements.Stmt.{Stmt}
use Rattle.stmt_reader.specs.Reading.{statement}
use Rattle.stmt_tokens.specs.Streams.{Stream, stream}
use Rattle.ts_sessions.specs.Gives.{Gives, StopsLater, numbers}
use Rattle.ts_sessions.specs.LineLaws.{BegunBy}
use Rattle.ts_sessions.specs.Named.{RepliesNameTheirEvents}
use Rattle.ts_sessions.specs.Places.{Block, none, Turn}
use Rattle.ts_sessions.specs.Procedures.{Procedure}
use Rattle.ts_sessions.specs.Step.{kind_of, makes_event}
use Rattle.ts_sessions.specs.Stopped.{OnlyStopsAreReported}
use Rattle.ts_sessions.specs.Walks.{Walks}

-- over a whole history, which stopped at `stop` if it did, a procedure gives its walk between two states. Its session
-- had last read at `at`, and its events are those that were appended
pub record IsGivenOver {A : Type 0} (all : History) (stop : Option ℕ) (old new : State) (at : ℕ)
    (procedure : Procedure A) (y : A) : Type 0 where
  pub looks : List (Option ℕ)
  pub last : ℕ
  pub given : List (ℕ × Event)
  pub gives : Gives all stop at [] procedure looks last given y
  pub made : new.made ≡ old.made ++ numbers given
  pub within : last ≤ position new.history

-- the text is a statement that appends an event
abbrev pub ReadsEvent : Result (Stmt × Stream) Fault → Type 0
ReadsEvent (Ok read) = makes_event (kind_of read.0) ≡ true
ReadsEvent (Err fault) = ⊥

-- a session state, by its block
module _ {P : Type 0} (within : P → Block) where
  -- the block had begun by the end of the history
  abbrev pub HadBegun : P → History → Type 0
  HadBegun p h = BegunBy (within p) h

  -- what lines do
  module _ (does : P → List ℕ → ℕ → Procedure (Turn P)) where
    -- the block after a line had begun by the end of the history that gives the line
    abbrev pub BlocksBegin : Type 0
    BlocksBegin =
        (alone failed : Bool) (old : State) (p : P) (text : List ℕ) (skip : ℕ) (new : State) (y : Turn P)
        → HadBegun p old.history → Walks alone failed old (does p text skip) new y → HadBegun y.places new.history

    -- a line with an event leaves its session outside a block, if it was outside
    abbrev pub StaysOutside : Type 0
    StaysOutside =
        (alone failed : Bool) (old : State) (p : P) (text : List ℕ) (skip : ℕ) (new : State) (y : Turn P)
        → within p ≡ none → ReadsEvent (statement (stream text skip)) → Walks alone failed old (does p text skip) new y
        → within y.places ≡ none

    -- and the replies to them
    module _ (reply : P → List ℕ → ℕ → Procedure (Turn P)) where
      -- the reply to a line gives the walk of the line over each longer allowed history, even if the store stopped
      -- later
      abbrev pub LinesAreAnswered : Type 0
      LinesAreAnswered =
          (alone failed : Bool) (all : History) (stop : Option ℕ) (at : ℕ) (old : State) (p : P) (text : List ℕ)
          (skip : ℕ) (new : State) (y : Turn P)
          → HadBegun p old.history → at ≤ position old.history → all_allowed all ≡ true → Begins new.history all
          → StopsLater (stop_of new) stop → Walks alone failed old (does p text skip) new y
          → IsGivenOver all stop old new at (reply p text skip) y

      -- the replies report what the lines did. They are E24 only at stops, and name the events that were appended
      pub record TellsReplies : Type 0 where
        pub answered : LinesAreAnswered
        pub began : BlocksBegin
        pub stops : OnlyStopsAreReported reply
        pub named : RepliesNameTheirEvents reply
