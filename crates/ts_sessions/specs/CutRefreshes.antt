-- After a line that a history gives, the block of its session had begun by the end of that history.
use Rattle.std.specs.Prelude.{ℕ, List, [], Option}
use Rattle.ts_model.specs.declared.events.Event.{Event}
use Rattle.ts_model.specs.History.{History}
use Rattle.ts_sessions.specs.Actors.{HadBegun}
use Rattle.ts_sessions.specs.Gives.{Gives}
use Rattle.ts_sessions.specs.Places.{Block, Turn}
use Rattle.ts_sessions.specs.Procedures.{Procedure}

-- the block after a line had begun by the end of the history that gives the line, if the block before it had
abbrev pub GivenBlocksBegin : {P : Type 0} → (P → Block) → (P → List ℕ → ℕ → Procedure (Turn P)) → Type 0
GivenBlocksBegin {P} within reply =
    (all : History) (stop : Option ℕ) (at : ℕ) (p : P) (text : List ℕ) (skip : ℕ) (looks : List (Option ℕ))
    (last : ℕ) (given : List (ℕ × Event)) (y : Turn P)
    → HadBegun within p all → Gives all stop at [] (reply p text skip) looks last given y
    → HadBegun within y.places all
