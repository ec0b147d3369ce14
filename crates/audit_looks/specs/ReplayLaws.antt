-- Laws of replayed procedures, each in one sentence.
use Rattle.std.specs.Prelude.{◌≡◌, ℕ, ◌≤◌, List, [], Option, Some, None}
use Rattle.std.specs.List.{AllByRecursion}
use Rattle.ts_model.specs.declared.events.Event.{Event}
use Rattle.ts_model.specs.History.{History, base_position, position}
use Rattle.ts_sessions.specs.Gives.{Gives}
use Rattle.ts_sessions.specs.Looks.{looks_told}
use Rattle.ts_sessions.specs.Places.{Places, Turn}
use Rattle.ts_sessions.specs.Procedures.{Procedure}
use Rattle.audit_looks.specs.Replay.{Told, Tells}

-- a procedure gives the outcome of a replay by some read positions, with a store that never stopped
pub record IsGivenSo {A : Type 0} (all : History) (at : ℕ) (procedure : Procedure A) (told : Told A) : Type 0 where
  pub looks : List (Option ℕ)
  pub gives : Gives all None at [] procedure looks told.last told.given told.end

-- a procedure gives what a replay of it yields
abbrev pub ToldIsGiven : (A : Type 0) → Type 0
ToldIsGiven A =
    (all : History) (at : ℕ) (procedure : Procedure A) (positions : List ℕ) (told : Told A)
    → Tells all at [] procedure positions (Some told) → IsGivenSo all at procedure told

-- a replay by the same positions yields one outcome
abbrev pub ToldOnce : (A : Type 0) → Type 0
ToldOnce A =
    (all : History) (at : ℕ) (so_far : List (ℕ × Event)) (procedure : Procedure A) (positions : List ℕ)
    (r s : Option (Told A))
    → Tells all at so_far procedure positions r → Tells all at so_far procedure positions s → r ≡ s

-- a replay by the printed read positions yields this outcome of a line, and these are positions of the history. The
-- number of rows that it read may differ
pub record IsToldByReply (all : History) (at : ℕ) (procedure : Procedure (Turn Places)) (last : ℕ)
    (given : List (ℕ × Event)) (y : Turn Places) : Type 0 where
  pub end : Turn Places
  pub said : end.said ≡ y.said
  pub places : end.places ≡ y.places
  pub within : AllByRecursion (λ p. p ≤ position all) (looks_told y.said)
  pub tells : Tells all at [] procedure (looks_told y.said) (Some (record { last = last; given = given; end = end }))

-- a replay by the printed read positions yields what a line gave over a history whose store never stopped; its
-- session had last read at the base of the history, or later
abbrev pub RepliesTellTheirLooks : {P : Type 0} → (P → List ℕ → ℕ → Procedure (Turn Places)) → Type 0
RepliesTellTheirLooks {P} reply =
    (all : History) (at : ℕ) (p : P) (text : List ℕ) (skip : ℕ) (looks : List (Option ℕ)) (last : ℕ)
    (given : List (ℕ × Event)) (y : Turn Places)
    → base_position all ≤ at → Gives all None at [] (reply p text skip) looks last given y
    → IsToldByReply all at (reply p text skip) last given y
