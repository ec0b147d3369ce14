-- The rule of the lock, which is true at every moment. Word 0 is the next ticket to draw, word 1 the ticket that is
-- served, and word 2 the position at which the events end. Slot 0 has the value, unless the pass with the turn has
-- taken it out.
use Rattle.std.specs.Prelude.{◌≡◌, ℕ, ◌<◌, ◌≤◌, ◌^◌, Option, Some, None, List, [], ◌∷◌, length, sum_by}
use mathlib.Core.Option.{none, some}
use mathlib.Core.Option as maybe
use mathlib.Core.List.{IsPrefix}
use lib.ListN.{get_elem?}
use Rattle.atomic_table.specs.Table.{State}
use Rattle.turn_lock.specs.declared.view.Stage.{Stage}
use Rattle.turn_lock.specs.declared.view.Stage.TheVariants.{Idle, Waiting, Turn}
use Rattle.turn_lock.specs.declared.view.PassState.{PassState}
use Rattle.turn_lock.specs.declared.opening.Opening.{Opening}
use Rattle.turn_lock.specs.Positions.{positions_between, times, end_of}
use Rattle.turn_lock.specs.Steps.{spent}

module _ {E : Type 0} where
  abbrev pub HasTicket : Stage E → ℕ → Type 0
  HasTicket Idle n = ⊥
  HasTicket (Waiting t) n = t ≡ n
  HasTicket (Turn t xs c) n = t ≡ n

  abbrev pub HasTurn : Stage E → Type 0
  HasTurn Idle = ⊥
  HasTurn (Waiting t) = ⊥
  HasTurn (Turn t xs c) = Unit {0}

  -- the stage of the view j. Its ticket was drawn, has not been served before, and belongs to it. With the turn, its
  -- ticket is the one served, and what it found is the log
  abbrev pub InPlace :
      (next serving : ℕ) (holder : ℕ → ℕ) (log : List E) (shut : Option E) (away : Type 0) (j : ℕ) → Stage E → Type 0
  InPlace next serving holder log shut away j Idle = Unit {0}
  InPlace next serving holder log shut away j (Waiting t) = (serving ≤ t) × (t < next) × (holder t ≡ j)
  InPlace next serving holder log shut away j (Turn t xs c) =
      (t ≡ serving) × (t < next) × (holder t ≡ j) × (xs ≡ log) × (c ≡ shut) × away

module _ {B E : Type 0} where
  -- the view with index j has the ticket n
  abbrev pub Queues : List (PassState B E) → ℕ → ℕ → Type 0
  Queues views j n = (v : PassState B E) × (get_elem? views j ≡ some v) × HasTicket v.stage n

  -- the view with index j has the turn
  abbrev pub Rules : List (PassState B E) → ℕ → Type 0
  Rules views j = (v : PassState B E) × (get_elem? views j ≡ some v) × HasTurn v.stage

  -- the log begins with the list that a view has seen, and a view without shares is spent
  pub record Fits (root : B) (log : List E) (shut : Option E) (v : PassState B E) : Type 0 where
    pub seen : IsPrefix v.seen log
    pub other_seen : IsPrefix v.other_seen log
    pub closed : (e : E) → v.shut ≡ Some e → (v.seen ≡ log) × (shut ≡ Some e)
    pub other_closed : (e : E) → v.other_shut ≡ Some e → (v.other_seen ≡ log) × (shut ≡ Some e) × (v.shut ≡ Some e)
    pub live : 0 < v.shares → (v.base ≡ Some root) × (v.other_base ≡ Some root)
    pub gone : v.shares ≡ 0 → v ≡ spent

  -- a view with shares that has seen the whole log
  pub record Newest (log : List E) (shut : Option E) (v : PassState B E) : Type 0 where
    pub live : 0 < v.shares
    pub seen : v.seen ≡ log
    pub closed : v.shut ≡ shut

  abbrev pub shares_in : List (PassState B E) → ℕ
  shares_in views = sum_by (λ v. v.shares) views

  abbrev pub times_made : ℕ → List (PassState B E) → ℕ
  times_made p views = sum_by (λ v. times p v.made) views

module _ {V B E : Type 0} (base : V → B) (events : V → List E) (closed : V → Option E) where
  -- the value at home is the base with the events, closed or not
  pub record IsValue (root : B) (log : List E) (shut : Option E) (v : V) : Type 0 where
    pub on_root : base v ≡ root
    pub all : events v ≡ log
    pub as_shut : closed v ≡ shut

  -- the value is away with the view whose ticket is served, or at home
  abbrev pub Stands : (root : B) (log : List E) (shut : Option E) (away : Type 0) → maybe.Option (Option V) → Type 0
  Stands root log shut away none = away
  Stands root log shut away (some None) = ⊥
  Stands root log shut away (some (Some v)) = IsValue root log shut v

module _ {V B E : Type 0} (base : V → B) (first : B → ℕ) (events : V → List E) (closed : V → Option E) where
  -- the rule at a state of the lock. Each ticket that was drawn and isn't past has a holder. Each view is in place and
  -- fits the events. The value is at home, or away with the view that has the turn. There are as many shares as at
  -- first. Each position added since then was added once. `last` is the index of a view that has seen all events
  pub record Kept (key : Opening V) (s : State (Option V) (PassState B E)) : Type 0 where
    pub next : ℕ
    pub serving : ℕ
    pub holder : ℕ → ℕ
    pub home : maybe.Option (Option V)
    pub log : List E
    pub shut : Option E
    pub last : ℕ
    pub words : s.words ≡ next ∷ serving ∷ end_of (first (base key.value.value)) log ∷ []
    pub homes : s.homes ≡ home ∷ []
    pub ahead : serving ≤ next
    pub queue : (n : ℕ) → serving ≤ n → n < next → Queues s.views (holder n) n
    pub places :
        (j : ℕ) (v : PassState B E) → get_elem? s.views j ≡ some v
        → InPlace next serving holder log shut (home ≡ none) j v.stage
    pub fits : (j : ℕ) (v : PassState B E) → get_elem? s.views j ≡ some v → Fits (base key.value.value) log shut v
    pub stands : Stands base events closed (base key.value.value) log shut (Rules s.views (holder serving)) home
    pub newest : (v : PassState B E) × (get_elem? s.views last ≡ some v) × Newest log shut v
    pub shares : shares_in s.views ≡ key.shares
    pub few : key.shares < 2 ^ 32
    pub longer : length (events key.value.value) ≤ length log
    pub made : (p : ℕ)
        → times_made p s.views ≡ times p
        (positions_between (end_of (first (base key.value.value)) (events key.value.value)) (end_of (first (base key.value.value)) log))
