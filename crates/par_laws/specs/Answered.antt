-- The results of a session's lines over a whole history.
use Rattle.std.specs.Prelude.{◌≡◌, ◌≤◌, ℕ, List, [], ◌∷◌, ◌++◌, map, Option}
use Rattle.ts_model.specs.declared.events.Event.{Event}
use Rattle.ts_model.specs.History.{History, position}
use Rattle.ts_model.specs.States.{State}
use Rattle.ts_sessions.specs.Procedures.{Procedure}
use Rattle.ts_sessions.specs.Gives.{Gives, numbers, printed_looks}
use Rattle.ts_sessions.specs.Script.{SessionLine}

-- the result of a line: its reads, each with its position if that is printed; its last printed read position or event;
-- its events, each with its number; and its value at the end
pub record LineAnswer (A : Type 0) : Type 0 where
  pub looks : List (Option ℕ)
  pub last : ℕ
  pub given : List (ℕ × Event)
  pub end : A

module _ {A : Type 0} where
  -- the values at the ends of the lines
  abbrev pub ends_of : List (LineAnswer A) → List A
  ends_of answers = map (λ a. a.end) answers

  -- the numbers of the lines' events, in order
  abbrev pub numbers_of : List (LineAnswer A) → List ℕ
  numbers_of [] = []
  numbers_of (a ∷ answers) = numbers a.given ++ numbers_of answers

  -- the lines' printed read positions, in order
  abbrev pub looks_of : List (LineAnswer A) → List ℕ
  looks_of [] = []
  looks_of (a ∷ answers) = printed_looks a.looks ++ looks_of answers

  -- the lines' events, each with its number, in order
  abbrev pub given_by : List (LineAnswer A) → List (ℕ × Event)
  given_by [] = []
  given_by (a ∷ answers) = a.given ++ given_by answers

  -- the last position of a read or an event, or the one before if there is no line
  abbrev pub last_in : ℕ → List (LineAnswer A) → ℕ
  last_in at [] = at
  last_in at (a ∷ answers) = last_in a.last answers

-- positions that never fall, from one on and up to another
abbrev pub NeverFall : ℕ → List ℕ → ℕ → Type 0
NeverFall from [] to = from ≤ to
NeverFall from (p ∷ ps) to = (from ≤ p) × NeverFall p ps to

-- the replies to lines by the state of their session, and the session state after a line by its result
module _ {P A : Type 0} (reply : P → List ℕ → ℕ → Procedure A) (next : A → P) where
  -- over a whole history, which stopped at `stop` if it did, the lines of a session have these results, one for each.
  -- The session had last read at `at`, and read positions never fall from one line to the next
  abbrev pub Answered : History → Option ℕ → ℕ → P → List SessionLine → List (LineAnswer A) → Type 0
  Answered all stop at p [] [] = Unit {0}
  Answered all stop at p [] (a ∷ answers) = ⊥
  Answered all stop at p (line ∷ lines) [] = ⊥
  Answered all stop at p (line ∷ lines) (a ∷ answers) =
      Gives all stop at [] (reply p line.text line.skip) a.looks a.last a.given a.end
      × Answered all stop a.last (next a.end) lines answers

  -- lines with these results are answered over a whole history from a state's position on, and the events between two
  -- states are theirs
  pub record IsAnswered (all : History) (stop : Option ℕ) (old new : State) (p : P) (lines : List SessionLine)
      (ys : List A) : Type 0 where
    pub answers : List (LineAnswer A)
    pub answered : Answered all stop (position old.history) p lines answers
    pub ends : ends_of answers ≡ ys
    pub made : new.made ≡ old.made ++ numbers_of answers
    pub within : last_in (position old.history) answers ≤ position new.history
