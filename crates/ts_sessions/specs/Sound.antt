-- What a statement may ask of a store.
use Rattle.std.specs.Prelude.{◌≡◌, ℕ, ◌+◌, List, [], ◌∷◌, if◌then◌else◌, IsTrue, None, IsSome, Some}
use Rattle.ts_model.specs.declared.events.Op.{Op}
use Rattle.ts_model.specs.declared.views.ViewDef.{ViewDef}
use Rattle.ts_model.specs.History.{History, position}
use Rattle.ts_model.specs.declared.rosters.Roster.{Roster}
use Rattle.ts_model.specs.Roster.{roster, same_name, view_named, view_of}
use Rattle.ts_model.specs.Allowed.{all_allowed, QueueFits}
use Rattle.stmt_syntax.specs.declared.statements.Stmt.{Stmt}
use Rattle.stmt_check.specs.declared.actions.Action.{Action}
use Rattle.stmt_check.specs.declared.actions.Action.TheVariants as actions
use Rattle.stmt_check.specs.Check.{action_of, refusal_of}
use Rattle.stmt_check.specs.Sound.{IsSound}
use Rattle.ts_sessions.specs.declared.kinds.StatementKind.{StatementKind}
use Rattle.ts_sessions.specs.declared.kinds.StatementKind.TheVariants as kinds

-- what a statement asks for is sound at each history at which no check refuses it. The statement has this many bytes
abbrev pub AsksSoundly : ℕ → Stmt → Type 0
AsksSoundly bytes stmt =
    (h : History) → IsTrue (all_allowed h) → refusal_of (position h) (roster h) stmt ≡ None
    → IsSound h bytes (action_of (roster h) stmt)

-- a snapshot is one of an allowed history, at which these operations can be committed, if there are any
pub record StandsForAllowed {T : Type 0} (stands : T → History → Type 0) (shot : T) (queue : List Op) : Type 0 where
  pub history : History
  pub holds : stands shot history
  pub allowed : IsTrue (all_allowed history)
  pub fits : QueueFits queue history

-- the kind of a statement with this action
abbrev pub kind_of_action : Action → StatementKind
kind_of_action (actions.Table def) = kinds.Defines
kind_of_action (actions.Hyper t hyper) = kinds.Defines
kind_of_action (actions.View def filled) = kinds.Defines
kind_of_action (actions.Mode n only) = kinds.Defines
kind_of_action (actions.Change op) = kinds.Changes
kind_of_action (actions.Refresh n lo hi) = kinds.Defines
kind_of_action (actions.Cut n lo hi) = kinds.Defines
kind_of_action (actions.Snap cut) = kinds.Snaps
kind_of_action (actions.Finish cut) = kinds.Finishes
kind_of_action actions.Begin = kinds.Begins
kind_of_action actions.BeginRead = kinds.BeginsRead
kind_of_action actions.Commit = kinds.Commits
kind_of_action actions.Rollback = kinds.RollsBack
kind_of_action (actions.Calendar table number unit at fold) = kinds.Asks
kind_of_action (actions.Ask q) = kinds.Asks

-- the number of the first aggregate with a name, numbered from k, or the number after the last if none has the name
abbrev pub number_from : List ℕ → ℕ → List ViewDef → ℕ
number_from name k [] = k
number_from name k (v ∷ vs) = if same_name v.name name then k else number_from name (k + 1) vs

-- the number of the aggregate with a name in a roster
abbrev pub view_number : Roster → List ℕ → ℕ
view_number r name = number_from name 0 r.views

-- the number of the aggregate with a name in a history
abbrev pub number_at : History → List ℕ → ℕ
number_at h name = view_number (roster h) name

-- the name resolves to that number
abbrev pub IsNamed : History → List ℕ → Type 0
IsNamed h name = view_named (roster h) name ≡ Some (number_at h name)

-- an aggregate has that number
abbrev pub IsThere : History → List ℕ → Type 0
IsThere h name = IsSome (view_of (roster h) (number_at h name))
