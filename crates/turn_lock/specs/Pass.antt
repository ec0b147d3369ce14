-- What clauses say about a lock, its passes, and a turn.
use Rattle.std.specs.Prelude.{◌≡◌, ℕ, ◌+◌, ◌<◌, ◌^◌, cond, nat_lt, Option, Some, None, List, [], ◌∷◌, length}
use mathlib.Core.List.{IsPrefix}
use Rattle.atomic_table.specs.Seated.{TableId}
use Rattle.turn_lock.specs.declared.view.Stage.{Stage}
use Rattle.turn_lock.specs.declared.view.Stage.TheVariants.{Idle, Waiting, Turn}
use Rattle.turn_lock.specs.declared.view.PassState.{PassState}
use Rattle.turn_lock.specs.declared.held.Held.{Held}

-- the value of a pass in contracts: which lock it belongs to, what it knows, and what it has taken out of the lock
pub record Carried (V B E : Type 0) : Type 0 where
  pub lock : TableId
  pub knows : PassState B E
  pub taken : List (ℕ × Option V)

-- the value of a lock in contracts: which one it is, and the value and the number of shares with which it was created
pub record Guarded (V : Type 0) : Type 0 where
  pub lock : TableId
  pub opened : V
  pub shares : ℕ

-- the position at which a base ends, or 0 without a base
abbrev pub start_of : {B : Type 0} → (B → ℕ) → Option B → ℕ
start_of first None = 0
start_of first (Some b) = first b

-- the events that a turn found, or none without a turn
abbrev pub found_at : {E : Type 0} → Stage E → List E
found_at Idle = []
found_at (Waiting t) = []
found_at (Turn t xs c) = xs

-- what closed the value that a turn found, if it was closed
abbrev pub found_closed_at : {E : Type 0} → Stage E → Option E
found_closed_at Idle = None
found_closed_at (Waiting t) = None
found_closed_at (Turn t xs c) = c

-- the first if it exists, otherwise the second
abbrev pub either : {E : Type 0} → Option E → Option E → Option E
either None b = b
either (Some a) b = Some a

-- the longer of two lists, or the first if neither is longer
abbrev pub longer : {E : Type 0} → List E → List E → List E
longer xs ys = cond (nat_lt (length xs) (length ys)) ys xs

-- a value that was closed before is closed now, by the same entry and with the same events
abbrev pub StaysClosed : {E : Type 0} → Option E → List E → Option E → List E → Type 0
StaysClosed {E} was before «is» after = (e : E) → was ≡ Some e → («is» ≡ Some e) × (after ≡ before)

module _ {V B E : Type 0} where
  -- the number of shares of a pass
  abbrev pub shares_of : Carried V B E → ℕ
  shares_of pass = pass.knows.shares

  -- the base that all passes of its lock have
  abbrev pub base_of : Carried V B E → Option B
  base_of pass = pass.knows.base

  -- the events that a pass has seen
  abbrev pub seen_of : Carried V B E → List E
  seen_of pass = pass.knows.seen

  -- what closed the value with these events, if the pass has seen it closed
  abbrev pub closed_of : Carried V B E → Option E
  closed_of pass = pass.knows.shut

  -- the positions that a pass, or one joined into it, added
  abbrev pub made_of : Carried V B E → List ℕ
  made_of pass = pass.knows.made

  -- the pass came from the lock
  abbrev pub IsPassOf : Guarded V → Carried V B E → Type 0
  IsPassOf lock pass = pass.lock ≡ lock.lock

  -- the pass holds no turn
  abbrev pub IsIdle : Carried V B E → Type 0
  IsIdle pass = (pass.knows.stage ≡ Idle) × (pass.taken ≡ [])

  -- the events that its turn found
  abbrev pub found_of : Carried V B E → List E
  found_of pass = found_at pass.knows.stage

  -- what closed the value that its turn found, if it was closed
  abbrev pub found_closed_of : Carried V B E → Option E
  found_closed_of pass = found_closed_at pass.knows.stage

  -- the pass holds the turn that `held` came from
  abbrev pub IsTurnOf : Carried V B E → Held V → Type 0
  IsTurnOf pass held =
      (pass.knows.stage ≡ Turn held.ticket (found_of pass) (found_closed_of pass)) × (pass.taken ≡ (0, None) ∷ [])
      × (held.ticket + 1 < 2 ^ 64)

  -- the pass is unchanged except for its turn: its lock, its shares, its base, and what it has seen and added
  pub record IsSamePass (old new : Carried V B E) : Type 0 where
    pub lock : new.lock ≡ old.lock
    pub shares : shares_of new ≡ shares_of old
    pub base : base_of new ≡ base_of old
    pub seen : seen_of new ≡ seen_of old
    pub closed : closed_of new ≡ closed_of old
    pub made : made_of new ≡ made_of old

  -- if the pass has seen the value closed, so has the whole, with the same events
  abbrev pub StaysIn : Carried V B E → Carried V B E → Type 0
  StaysIn whole pass = StaysClosed (closed_of pass) (seen_of pass) (closed_of whole) (seen_of whole)

  -- the list that the whole has seen begins with the list that the pass has seen
  abbrev pub BeginsIn : Carried V B E → Carried V B E → Type 0
  BeginsIn whole pass = IsPrefix (seen_of pass) (seen_of whole)

  -- the pass with another number of shares
  abbrev pub with_shares : ℕ → Carried V B E → Carried V B E
  with_shares n pass = record pass { knows = record pass.knows { shares = n } }
