-- Replies that the store has stopped.
use Rattle.std.specs.Prelude.{◌≡◌, ◌≤◌, ℕ, List, [], Option, Some, ⊤}
use Rattle.std.specs.List.{AllByRecursion}
use Rattle.ts_model.specs.Numbers.{stopped}
use Rattle.ts_model.specs.declared.events.Event.{Event}
use Rattle.ts_model.specs.History.{History, base_position}
use Rattle.result_text.specs.declared.replies.Said.{Said}
use Rattle.result_text.specs.declared.replies.Said.TheVariants as said
use Rattle.ts_sessions.specs.Gives.{Gives}
use Rattle.ts_sessions.specs.Places.{Turn}
use Rattle.ts_sessions.specs.Procedures.{Procedure}

-- a line of a reply is E24 only if the store had stopped, with that position
abbrev pub StopsAt : Option ℕ → Said → Type 0
StopsAt stop (said.Fault refusal) = refusal.code ≡ stopped → stop ≡ Some refusal.pos
StopsAt stop other = ⊤

-- each line of a reply is E24 only if the store had stopped, with that position
abbrev pub ReplyStopsAt : {P : Type 0} → Option ℕ → Turn P → Type 0
ReplyStopsAt stop turn = AllByRecursion (StopsAt stop) turn.said

-- a reply is E24 only if the store had stopped, with that position. The session had last read at the base of the
-- history, or later
abbrev pub OnlyStopsAreReported : {P : Type 0} → (P → List ℕ → ℕ → Procedure (Turn P)) → Type 0
OnlyStopsAreReported {P} reply =
    (all : History) (stop : Option ℕ) (at : ℕ) (p : P) (text : List ℕ) (skip : ℕ) (looks : List (Option ℕ))
    (last : ℕ) (given : List (ℕ × Event)) (y : Turn P)
    → base_position all ≤ at → Gives all stop at [] (reply p text skip) looks last given y → ReplyStopsAt stop y
