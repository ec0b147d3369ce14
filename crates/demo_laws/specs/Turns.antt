-- The effect of an action of a session outside a block.
use Rattle.std.specs.Prelude.{◌≡◌, ℕ, zero, suc, false}
use Rattle.ts_model.specs.History.{History}
use Rattle.stmt_check.specs.declared.actions.Action.{Action}
use Rattle.ts_sessions.specs.Places.{none, Places, Turn}
use Rattle.ts_sessions.specs.Procedures.{Procedure}
use Rattle.ts_sessions.specs.Script.{has_fault}
use Rattle.ts_sessions.specs.Step.{acts}
use Rattle.ts_sessions.specs.Walks.{history_after, end_of_walk}

-- over a history that nobody else changes, a procedure leaves this one and reads this many stored rows. No line of its
-- reply is a FAULT, and its session is outside a block
pub record Passes (procedure : Procedure (Turn Places)) (h new : History) (read : ℕ) : Type 0 where
  pub after : history_after procedure h ≡ new
  pub reads : (end_of_walk procedure h).reads ≡ read
  pub fault : has_fault (end_of_walk procedure h).said ≡ false
  pub outside : (end_of_walk procedure h).places.block ≡ none

-- the same for an action of a session outside a block, whatever else the session carries, and for a text of any length
abbrev pub PerformsAction : History → Action → History → ℕ → Type 0
PerformsAction h action new read = (p : Places) (bytes : ℕ) → p.block ≡ none → Passes (acts p bytes h action) h new read

-- a refresh reads the rows in the chunk of the round before: ten that came late, and 490 that came in time if there is
-- such a round
abbrev pub refresh_reads : ℕ → ℕ
refresh_reads zero = 10
refresh_reads (suc round) = 500
