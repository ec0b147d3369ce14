-- The laws, each in one sentence.
use Rattle.std.specs.Prelude.{◌≡◌, ℕ, Bool, true, false, List, Option}
use Rattle.ts_model.specs.Allowed.{all_allowed}
use Rattle.ts_model.specs.History.{History, Begins}
use Rattle.ts_model.specs.States.{State, stop_of}
use Rattle.ts_sessions.specs.Actors.{TellsReplies}
use Rattle.ts_sessions.specs.Gives.{AreEvents, StopsLater}
use Rattle.ts_sessions.specs.Places.{Block, Turn}
use Rattle.ts_sessions.specs.Procedures.{Procedure}
use Rattle.ts_sessions.specs.Script.{SessionLine, SessionScript}
use Rattle.ts_sessions.specs.Steady.{Steady}
use Rattle.ts_sessions.specs.Walks.{Walks}
use Rattle.shared_store.specs.Stores.{Shared}
use Rattle.par_laws.specs.Answered.{LineAnswer, looks_of, given_by, last_in, NeverFall, Answered, IsAnswered}
use Rattle.par_laws.specs.Calls.{RanOverStore}
use Rattle.par_laws.specs.Parallel.{SessionReplies, RanInParallel}
use Rattle.par_laws.specs.Walked.{Walked}

-- ---- lines

module _ {P A : Type 0} (does reply : P → List ℕ → ℕ → Procedure A) where
  -- a walk of a line is a walk of its reply, if the history that it left is allowed
  abbrev pub WalksAreReplies : Type 0
  WalksAreReplies =
      (alone failed : Bool) (old : State) (p : P) (text : List ℕ) (skip : ℕ) (new : State) (y : A)
      → all_allowed new.history ≡ true → Walks alone failed old (does p text skip) new y
      → Walks alone failed old (reply p text skip) new y

-- the replies to all lines are steady from a history on
abbrev pub AreSteady : {P A : Type 0} → (P → List ℕ → ℕ → Procedure A) → P → History → Type 0
AreSteady reply p base = (text : List ℕ) (skip : ℕ) → Steady false base (reply p text skip)

-- lines walked in order, while others changed the store too, are answered by their replies over each longer history
-- that is allowed. The store may have stopped later
abbrev pub WalkedLinesAreAnswered : (P A : Type 0) → Type 0
WalkedLinesAreAnswered P A =
    (does reply : P → List ℕ → ℕ → Procedure A) (next : A → P) (alone : Bool) (all : History) (later : Option ℕ)
    (s : State) (p : P) (lines : List SessionLine) (ys : List A) (new : State) (q : P)
    → WalksAreReplies does reply → all_allowed all ≡ true → Begins new.history all → StopsLater (stop_of new) later
    → Walked does next (AreSteady reply) alone s p lines ys new q → IsAnswered reply next all later s new p lines ys

-- the printed read positions of a session never fall from one line to the next
abbrev pub LooksNeverFall : (P A : Type 0) → Type 0
LooksNeverFall P A =
    (reply : P → List ℕ → ℕ → Procedure A) (next : A → P) (all : History) (stop : Option ℕ) (at : ℕ) (p : P)
    (lines : List SessionLine) (answers : List (LineAnswer A))
    → Answered reply next all stop at p lines answers → NeverFall at (looks_of answers) (last_in at answers)

-- the events of a session's lines are those of the history with their numbers, in their order
abbrev pub AnswersGiveEvents : (P A : Type 0) → Type 0
AnswersGiveEvents P A =
    (reply : P → List ℕ → ℕ → Procedure A) (next : A → P) (all : History) (stop : Option ℕ) (at : ℕ) (p : P)
    (lines : List SessionLine) (answers : List (LineAnswer A))
    → Answered reply next all stop at p lines answers → AreEvents all at (given_by answers) (last_in at answers)

-- ---- sessions

-- sessions that ran on one store, some in parallel, result in what their lines mean over the one history that was left
abbrev pub ParallelRunsHaveOneHistory : (P W : Type 0) {B : Type 0} → Bool → (B → State) → Type 0
ParallelRunsHaveOneHistory P W {B} alone state =
    (within : P → Block) (does reply : P → List ℕ → ℕ → Procedure (Turn P)) (p : P) (session_of : W → SessionScript)
    (replies_of : W → SessionReplies) (ran_out : W → Bool) (store : Shared B) (setup others final : List SessionScript)
    (new : State) (before between after : List SessionReplies)
    → TellsReplies within does reply
    → RanOverStore within does p session_of replies_of ran_out state store alone setup others final new before between
    after
    → RanInParallel reply p (state store.opened.value).history setup others final new before between after
