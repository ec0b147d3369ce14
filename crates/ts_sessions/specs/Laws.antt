-- Laws of procedures, each in one sentence. They are true for any type of result, and so for turns of any type of
-- session state.
use Rattle.std.specs.Prelude.{◌≡◌, ℕ, ◌≤◌, max, Bool, false, ◌||◌, List, [], ◌++◌, Option}
use Rattle.std.specs.List.{AllByRecursion}
use Rattle.ts_model.specs.declared.events.Event.{Event}
use Rattle.ts_model.specs.History.{History, position, Begins}
use Rattle.ts_model.specs.States.{State, stop_of}
use Rattle.ts_sessions.specs.Procedures.{Procedure, followed_by}
use Rattle.ts_sessions.specs.Gives.{AreEvents, Gives, StopsAtEnd, StopsLater, last_of, numbers, printed_looks}
use Rattle.ts_sessions.specs.Steady.{Steady}
use Rattle.ts_sessions.specs.Walks.{Walks}

-- ---- procedures in order

-- two walks in order, of a procedure and of the one that follows it, are one walk of both. The disk may have failed in
-- either
abbrev pub PutTogether : (A B : Type 0) → Type 0
PutTogether A B =
    (alone failed failed_then : Bool) (old : State) (first : Procedure A) (mid : State) (a : A)
    (next : A → Procedure B) (new : State) (y : B)
    → Walks alone failed old first mid a → Walks alone failed_then mid (next a) new y
    → Walks alone (failed || failed_then) old (followed_by first next) new y

-- ---- over a whole history

-- a procedure that is steady from a history on, and reads from there on, gives the same over each longer history. The
-- store may have stopped later
abbrev pub GivesOverLonger : (A : Type 0) → Type 0
GivesOverLonger A =
    (fresh : Bool) (base all longer : History) (stop later : Option ℕ) (at : ℕ) (so_far : List (ℕ × Event))
    (procedure : Procedure A) (looks : List (Option ℕ)) (last : ℕ) (given : List (ℕ × Event)) (y : A)
    → Steady fresh base procedure → Begins base all → AllByRecursion (λ p. position base ≤ p) (printed_looks looks)
    → Begins all longer → StopsLater stop later → Gives all stop at so_far procedure looks last given y
    → Gives longer later at so_far procedure looks last given y

-- the last position of a procedure is its last printed read, or the number of its last event if that is later. So a
-- read that isn't printed raises nothing
abbrev pub LastIsPrinted : (A : Type 0) → Type 0
LastIsPrinted A =
    (all : History) (stop : Option ℕ) (at : ℕ) (procedure : Procedure A) (looks : List (Option ℕ)) (last : ℕ)
    (given : List (ℕ × Event)) (y : A)
    → Gives all stop at [] procedure looks last given y
    → last ≡ max (last_of at (printed_looks looks)) (last_of at (numbers given))

-- the events that a procedure gives are those of the history with their numbers, in order between its first position
-- and its last
abbrev pub GivesEvents : (A : Type 0) → Type 0
GivesEvents A =
    (all : History) (stop : Option ℕ) (at : ℕ) (procedure : Procedure A) (looks : List (Option ℕ)) (last : ℕ)
    (given : List (ℕ × Event)) (y : A)
    → Gives all stop at [] procedure looks last given y → AreEvents all at given last

-- two readings of a procedure have the same result and the same events
pub record SameReading {A : Type 0} (y z : A) (given given_too : List (ℕ × Event)) : Type 0 where
  pub end : z ≡ y
  pub events : given_too ≡ given

-- printed reads determine what a procedure gives, wherever its session had read before
abbrev pub PrintedLooksDetermine : (A : Type 0) → Type 0
PrintedLooksDetermine A =
    (base all : History) (stop : Option ℕ) (at at_too : ℕ) (procedure : Procedure A)
    (looks looks_too : List (Option ℕ)) (last last_too : ℕ) (given given_too : List (ℕ × Event)) (y z : A)
    → Steady false base procedure → Begins base all → AllByRecursion (λ p. position base ≤ p) (printed_looks looks)
    → StopsAtEnd all stop → printed_looks looks_too ≡ printed_looks looks → Gives all stop at [] procedure looks last given y
    → Gives all stop at_too [] procedure looks_too last_too given_too z → SameReading y z given given_too

-- ---- walks

-- the procedure gives its walk over the history that it left, for a session that had read at the beginning or before.
-- Its printed reads are positions that the store had meanwhile, and its events those that were appended
pub record IsGiven {A : Type 0} (old new : State) (at : ℕ) (procedure : Procedure A) (y : A) : Type 0 where
  pub looks : List (Option ℕ)
  pub last : ℕ
  pub given : List (ℕ × Event)
  pub gives : Gives new.history (stop_of new) at [] procedure looks last given y
  pub seen : AllByRecursion (λ p. position old.history ≤ p) (printed_looks looks)
  pub made : new.made ≡ old.made ++ numbers given
  pub within : last ≤ position new.history

-- a walk of a steady procedure is given over the history that it left
abbrev pub WalksAreGiven : (A : Type 0) → Type 0
WalksAreGiven A =
    (alone failed : Bool) (old : State) (at : ℕ) (procedure : Procedure A) (new : State) (y : A)
    → Steady false old.history procedure → at ≤ position old.history → Walks alone failed old procedure new y
    → IsGiven old new at procedure y
