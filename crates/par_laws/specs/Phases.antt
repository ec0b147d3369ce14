-- Phases: sessions whose lines are answered between two positions of one whole history.
use Rattle.std.specs.Prelude.{◌≤◌, ℕ, Bool, List, [], ◌∷◌, ◌++◌, Option, IsPermutation}
use Rattle.ts_model.specs.History.{History}
use Rattle.ts_model.specs.States.{State}
use Rattle.turn_lock.specs.Positions.{positions_between}
use Rattle.ts_sessions.specs.Procedures.{Procedure}
use Rattle.ts_sessions.specs.Script.{SessionLine}
use Rattle.par_laws.specs.Walked.{Walked}
use Rattle.par_laws.specs.Answered.{LineAnswer, ends_of, numbers_of, last_in, Answered}

-- the numbers of the events of several sessions
abbrev pub all_numbers : {A : Type 0} → List (List (LineAnswer A)) → List ℕ
all_numbers [] = []
all_numbers (answers ∷ others) = numbers_of answers ++ all_numbers others

-- sessions by their lines, and their replies by the results of these
module _ {V W P A : Type 0} (lines_of : V → List SessionLine) (AreReplies : V → W → List A → Type 0) where
  -- a session executed its lines from a state on, which left a store state and a session state. Its replies are the
  -- results of the lines
  pub record ExecutedTo (does : P → List ℕ → ℕ → Procedure A) (next : A → P) (Fits : P → History → Type 0)
      (alone : Bool) (p : P) (session : V) (s : State) (replies : W) (t : State) (q : P) : Type 0 where
    pub turns : List A
    pub walked : Walked does next Fits alone s p (lines_of session) turns t q
    pub replied : AreReplies session replies turns

  -- the same, with any session state at the end
  pub record Executed (does : P → List ℕ → ℕ → Procedure A) (next : A → P) (Fits : P → History → Type 0)
      (alone : Bool) (p : P) (session : V) (s : State) (replies : W) (t : State) : Type 0 where
    pub places : P
    pub to : ExecutedTo does next Fits alone p session s replies t places

  module _ (reply : P → List ℕ → ℕ → Procedure A) (next : A → P) where
    -- the lines of one session are answered over a whole history from one position on, and up to another
    pub record Explained (all : History) (stop : Option ℕ) (from to : ℕ) (p : P) (session : V) (replies : W)
        (answers : List (LineAnswer A)) : Type 0 where
      pub answered : Answered reply next all stop from p (lines_of session) answers
      pub within : last_in from answers ≤ to
      pub replied : AreReplies session replies (ends_of answers)

    -- the same for several sessions
    abbrev pub AllExplained : History → Option ℕ → ℕ → ℕ → P → List V → List W → List (List (LineAnswer A)) → Type 0
    AllExplained all stop from to p [] [] [] = Unit {0}
    AllExplained all stop from to p [] [] (answers ∷ others) = ⊥
    AllExplained all stop from to p [] (replies ∷ more) others = ⊥
    AllExplained all stop from to p (session ∷ sessions) [] others = ⊥
    AllExplained all stop from to p (session ∷ sessions) (replies ∷ more) [] = ⊥
    AllExplained all stop from to p (session ∷ sessions) (replies ∷ more) (answers ∷ others) =
        Explained all stop from to p session replies answers × AllExplained all stop from to p sessions more others

    -- a phase between two positions: sessions whose lines are answered from the one on and up to the other. The
    -- numbers of their events are all positions between, each once
    pub record Phase (all : History) (stop : Option ℕ) (from to : ℕ) (p : P) (sessions : List V)
        (replies : List W) : Type 0 where
      pub order : from ≤ to
      pub answers : List (List (LineAnswer A))
      pub explained : AllExplained all stop from to p sessions replies answers
      pub numbers : IsPermutation (all_numbers answers) (positions_between from to)
