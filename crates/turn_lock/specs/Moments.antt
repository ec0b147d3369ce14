-- What the rule says about every moment, in sentences about the words, the slot and the views. A view without shares is
-- what a joined pass left.
use Rattle.std.specs.Prelude.{◌≡◌, ℕ, ◌<◌, ◌≤◌, ◌⊎◌, ◌&&◌, cond, nat_lt, nat_le, Option, Some, List, slice_index}
use mathlib.Core.Option.{some}
use mathlib.Core.List.{IsPrefix}
use lib.ListN.{get_elem?}
use Rattle.atomic_table.specs.Table.{State}
use Rattle.turn_lock.specs.declared.view.PassState.{PassState}
use Rattle.turn_lock.specs.declared.opening.Opening.{Opening}
use Rattle.turn_lock.specs.Positions.{end_of}
use Rattle.turn_lock.specs.Steps.{spent}
use Rattle.turn_lock.specs.Rule.{HasTicket, HasTurn, shares_in, times_made}

module _ {V B E : Type 0} (base : V → B) (first : B → ℕ) (events : V → List E) (closed : V → Option E) where
  abbrev pub ViewAt : State (Option V) (PassState B E) → ℕ → PassState B E → Type 0
  ViewAt s j v = get_elem? s.views j ≡ some v

  -- the value is at home
  abbrev pub AtHome : State (Option V) (PassState B E) → V → Type 0
  AtHome s x = get_elem? s.homes 0 ≡ some (some (Some x))

  -- the position at which a view's list ends
  abbrev pub seen_end : Opening V → PassState B E → ℕ
  seen_end key v = end_of (first (base key.value.value)) v.seen

  -- the position at which the lock was created
  abbrev pub opening_end : Opening V → ℕ
  opening_end key = end_of (first (base key.value.value)) (events key.value.value)

  -- exactly one view has the ticket
  pub record HasOneHolder (s : State (Option V) (PassState B E)) (n : ℕ) : Type 0 where
    pub at : ℕ
    pub holder : PassState B E
    pub there : ViewAt s at holder
    pub has : HasTicket holder.stage n
    pub alone : (j : ℕ) (v : PassState B E) → ViewAt s j v → HasTicket v.stage n → j ≡ at

  pub record IsMoment (key : Opening V) (s : State (Option V) (PassState B E)) : Type 0 where
    -- each number from word 1 up to below word 0 is the ticket of exactly one view
    pub tickets : (n : ℕ) → slice_index s.words 1 ≤ n → n < slice_index s.words 0 → HasOneHolder s n
    -- only the holder of the ticket that equals word 1 may have the turn
    pub turn : (j : ℕ) (v : PassState B E) → ViewAt s j v → HasTurn v.stage → HasTicket v.stage (slice_index s.words 1)
    -- the shares of each view that is not spent are positive
    pub live : (j : ℕ) (v : PassState B E) → ViewAt s j v → (0 < v.shares) ⊎ (v ≡ spent)
    -- the shares of all views add up to those with which the lock was created
    pub shares : shares_in s.views ≡ key.shares
    -- of two seen lists one begins the other
    pub seen :
        (i j : ℕ) (v w : PassState B E) → ViewAt s i v → ViewAt s j w → IsPrefix v.seen w.seen ⊎ IsPrefix w.seen v.seen
    -- no seen list ends above word 2
    pub below : (j : ℕ) (v : PassState B E) → ViewAt s j v → seen_end key v ≤ slice_index s.words 2
    -- if a view has seen the value closed, its list ends at word 2, and a value at home is closed by the same entry
    pub ends : (j : ℕ) (v : PassState B E) (e : E) → ViewAt s j v → v.shut ≡ Some e → seen_end key v ≡ slice_index s.words 2
    pub closes :
        (j : ℕ) (v : PassState B E) (x : V) (e : E) → ViewAt s j v → v.shut ≡ Some e → AtHome s x → closed x ≡ Some e
    -- the added lists share no position, and together are all positions above the opening position up to word 2
    pub made :
        (p : ℕ) → times_made p s.views ≡ cond (nat_lt (opening_end key) p && nat_le p (slice_index s.words 2)) 1 0
    -- all views that are not spent have one base
    pub bases : (j : ℕ) (v : PassState B E) → ViewAt s j v → 0 < v.shares → v.base ≡ Some (base key.value.value)
    -- a value at home has that base and begins with every seen list
    pub home_base : (x : V) → AtHome s x → base x ≡ base key.value.value
    pub home_begins : (j : ℕ) (v : PassState B E) (x : V) → ViewAt s j v → AtHome s x → IsPrefix v.seen (events x)
    -- if no view has the turn, a value is at home
    pub home : ((j : ℕ) (v : PassState B E) → ViewAt s j v → HasTurn v.stage → ⊥) → (x : V) × AtHome s x
    -- the events of a value at home end at word 2
    pub home_ends : (x : V) → AtHome s x → end_of (first (base x)) (events x) ≡ slice_index s.words 2
