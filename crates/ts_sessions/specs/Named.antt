-- Replies that name the events of their lines.
use Rattle.std.specs.Prelude.{◌≡◌, ◌≤◌, ℕ, List, [], Option}
use Rattle.ts_model.specs.declared.events.Event.{Event}
use Rattle.ts_model.specs.History.{History, base_position}
use Rattle.ts_sessions.specs.Gives.{Gives, numbers}
use Rattle.ts_sessions.specs.Made.{made_in}
use Rattle.ts_sessions.specs.Places.{Turn}
use Rattle.ts_sessions.specs.Procedures.{Procedure}

-- a reply names exactly the events that its line appended, in order
abbrev pub RepliesNameTheirEvents : {P : Type 0} → (P → List ℕ → ℕ → Procedure (Turn P)) → Type 0
RepliesNameTheirEvents {P} reply =
    (all : History) (stop : Option ℕ) (at : ℕ) (p : P) (text : List ℕ) (skip : ℕ) (looks : List (Option ℕ))
    (last : ℕ) (given : List (ℕ × Event)) (y : Turn P)
    → base_position all ≤ at → Gives all stop at [] (reply p text skip) looks last given y
    → numbers given ≡ made_in y.said
