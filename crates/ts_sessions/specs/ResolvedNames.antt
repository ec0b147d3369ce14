-- What a statement asks for by its names, and the rest of it then.
use Rattle.std.specs.Prelude.{◌≡◌, ℕ, ℤ, Bool, true, false, [], ◌∷◌, Option, Some, None, ⊤}
use Rattle.ts_model.specs.declared.events.Op.{Op}
use Rattle.ts_model.specs.declared.outcomes.Refusal.{Refusal}
use Rattle.ts_model.specs.declared.rosters.Roster.{Roster}
use Rattle.ts_model.specs.declared.snapshots.Shown.{Ghosts as Shown}
use Rattle.ts_model.specs.Answers.{answer}
use Rattle.ts_model.specs.History.{History, position}
use Rattle.ts_model.specs.Roster.{roster, view_of}
use Rattle.stmt_syntax.specs.declared.statements.Stmt.{Stmt}
use Rattle.stmt_check.specs.declared.actions.Action.{Action}
use Rattle.stmt_check.specs.declared.actions.Action.TheVariants as actions
use Rattle.stmt_check.specs.Check.{action_of, refusal_of}
use Rattle.hier_agg.specs.declared.reads.UpperRead.{UpperRead}
use Rattle.hier_agg.specs.declared.reads.UpperRead.TheVariants as uppers
use Rattle.hier_agg.specs.Reads.{upper_read}
use Rattle.result_text.specs.declared.replies.Said.{Said}
use Rattle.result_text.specs.declared.replies.Said.TheVariants as said
use Rattle.ts_sessions.specs.declared.changes.Change.TheVariants as changed
use Rattle.ts_sessions.specs.declared.deeds.AfterCut.TheVariants as after_cuts
use Rattle.ts_sessions.specs.declared.deeds.AfterLook.TheVariants as looks_for
use Rattle.ts_sessions.specs.declared.deeds.Deed.TheVariants as deeds
use Rattle.ts_sessions.specs.declared.deeds.RelationChange.TheVariants as making
use Rattle.ts_sessions.specs.declared.deeds.Next.{Next}
use Rattle.ts_sessions.specs.declared.deeds.Next.TheVariants as nexts
use Rattle.ts_sessions.specs.declared.kinds.StatementKind.{StatementKind}
use Rattle.ts_sessions.specs.declared.kinds.StatementKind.TheVariants as kinds
use Rattle.ts_sessions.specs.declared.name_checks.Resolved.{Resolved}
use Rattle.ts_sessions.specs.declared.name_checks.Resolved.TheVariants as meant
use Rattle.ts_sessions.specs.declared.queries.Plan.{Plan}
use Rattle.ts_sessions.specs.declared.refreshes.RefreshRequest.{RefreshRequest}
use Rattle.ts_sessions.specs.Deeds.{rest, rest_next, said_once}
use Rattle.ts_sessions.specs.Places.{Block, Places, Turn, none, queue_count, reading, refuses, writing}
use Rattle.ts_sessions.specs.Procedures.{Procedure, ends, looks}
use Rattle.ts_sessions.specs.Step.{answers, calendar_plan, changes, in_form, least_start, plan_of, roll_up_plan, shown_in, unit_of}

-- statements of this kind have names, which a history resolves
abbrev pub looks_at_names : StatementKind → Bool
looks_at_names kinds.Defines = true
looks_at_names kinds.Changes = true
looks_at_names kinds.Asks = true
looks_at_names other = false

-- ---- what a statement asks for

-- a refresh of an aggregate over a window
abbrev pub asked_for : Roster → ℕ → Option ℤ → Option ℤ → RefreshRequest
asked_for r n lo hi = record { view = n; lo = lo; hi = hi; min = least_start (view_of r n) }

-- what an action asks for. An action without names doesn't occur here
abbrev pub asked_by : {T J : Type 0} → Roster → Action → Resolved T J
asked_by r (actions.Table def) = meant.Does (deeds.Make (making.Table def))
asked_by r (actions.Hyper t hyper) = meant.Does (deeds.Make (making.Hyper t hyper))
asked_by r (actions.View def filled) = meant.Does (deeds.View def filled)
asked_by r (actions.Mode n only) = meant.Does (deeds.Make (making.Mode n only))
asked_by r (actions.Change op) = meant.Changes op
asked_by r (actions.Refresh n lo hi) = meant.Does (deeds.Cut (asked_for r n lo hi) after_cuts.Refresh)
asked_by r (actions.Cut n lo hi) = meant.Does (deeds.Cut (asked_for r n lo hi) after_cuts.End)
asked_by r (actions.Ask q) = meant.Shows (plan_of r q)
asked_by r (actions.Calendar t number unit at fold) =
    meant.Shows (calendar_plan t (record { number = number; unit = unit_of unit; at = at; fold = fold }))
asked_by r other = meant.Does (deeds.Look looks_for.Unknown)

-- what a checked statement asks for, with its refusal
abbrev pub checked_as : {T J : Type 0} → Roster → Stmt → Option Refusal → Resolved T J
checked_as r stmt (Some q) = meant.Refused q
checked_as r stmt None = asked_by r (action_of r stmt)

-- what a statement asks for that is a roll-up, or is checked
abbrev pub read_as : {T J : Type 0} → ℕ → Roster → Stmt → UpperRead → Resolved T J
read_as pos r stmt (uppers.Plan plan) = meant.Shows (roll_up_plan plan)
read_as pos r stmt (uppers.Refused q) = meant.Refused q
read_as pos r stmt other = checked_as r stmt (refusal_of pos r stmt)

-- what any statement with names asks for
abbrev pub meant_by : {T J : Type 0} → ℕ → Roster → Stmt → Resolved T J
meant_by pos r stmt = read_as pos r stmt (upper_read pos r stmt)

-- ---- the rest of a statement

-- an operation from a text of this many bytes: outside a block its event has a separate read
abbrev pub change_left : Places → ℕ → Op → Block → History → Procedure (Turn Places)
change_left p bytes op none h = looks (λ g. changes p bytes g op p.block)
change_left p bytes op (writing ops n) h = changes p bytes h op p.block
change_left p bytes op (reading at) h = changes p bytes h op p.block

-- the next step for an operation
abbrev pub change_next : {T J : Type 0} → Block → ℕ → Op → Next T J
change_next none bytes op = nexts.Deed (deeds.Commit (op ∷ []) false)
change_next (writing ops n) bytes op = said_once said.Queued (changed.Queues op bytes)
change_next (reading at) bytes op = nexts.Deed (deeds.Commit (op ∷ []) false)

-- the rest of a statement, by what it asks for in a history
abbrev pub meant_left : {T J : Type 0} → Places → ℕ → Block → History → Resolved T J → Procedure (Turn Places)
meant_left p bytes b h (meant.Refused r) = ends (refuses p r)
meant_left p bytes b h (meant.Shows plan) = ends (answers p h plan)
meant_left p bytes b h (meant.Changes op) = change_left p bytes op b h
meant_left p bytes b h (meant.Does deed) = rest p 0 deed

-- the rest of a statement whose names were resolved in a history
abbrev pub left_of : {T J : Type 0} → Shown T J → Places → ℕ → Stmt → History → Procedure (Turn Places)
left_of {T} {J} shown p bytes stmt h =
    meant_left {T = T} {J = J} p bytes p.block h (meant_by (position h) (roster h) stmt)

-- the line of an answer by a plan at a history, in a block
abbrev pub answered_line : Block → History → Plan → Said
answered_line b h plan =
    said.Answered (in_form (roster h) plan.form (answer plan.query (shown_in b h))) (position h) (queue_count b)
    plan.min

-- what comes next after names were resolved. Outside a block it is a store call, or an end that changes nothing. In a
-- read block it is only such an end
abbrev pub LeftIn : {T J : Type 0} → Block → Next T J → Type 0
LeftIn none (nexts.Deed d) = ⊤
LeftIn none (nexts.End t) = t.change ≡ changed.Nothing
LeftIn (writing ops n) next = ⊤
LeftIn (reading at) (nexts.Deed d) = ⊥
LeftIn (reading at) (nexts.End t) = t.change ≡ changed.Nothing

-- this comes next in a statement whose names were resolved in a history
pub record IsLeftOf {T J : Type 0} (shown : Shown T J) (p : Places) (bytes : ℕ) (stmt : Stmt) (h : History)
    (n : Next T J) : Type 0 where
  -- how many rows were read
  pub read : ℕ
  pub rest : rest_next p read n ≡ left_of shown p bytes stmt h
  pub left : LeftIn p.block n
