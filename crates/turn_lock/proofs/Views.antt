-- One view of a list changes, and the others stay: which has a ticket, which has the turn, what fits, and the sums.
use Rattle.std.proofs.Common.{◌≡◌, ℕ, ◌+◌, ◌<◌, List, get_or, set, refl, sym, ap, ◌∙◌, subst, arith}
use Rattle.std.specs.Prelude.{Option, Some, None}
use mathlib.Core.Logic.{dite}
use mathlib.Core.Option.{none, some}
use mathlib.Core.Option as maybe
use native.Mathlib.Decide.{ℕ_discrete}
use lib.ListN.{get_elem?}
use Rattle.atomic_table.specs.Table.{State}
use Rattle.atomic_table.proofs.Lists.{set_else, set_again}
use Rattle.turn_lock.specs.declared.view.Stage.{Stage}
use Rattle.turn_lock.specs.declared.view.PassState.{PassState}
use Rattle.turn_lock.specs.declared.opening.Opening.{Opening}
use Rattle.turn_lock.specs.Positions.{times}
use Rattle.turn_lock.specs.Steps.{at_stage, spent}
use Rattle.turn_lock.specs.Rule.{HasTicket, HasTurn, Queues, Rules, Fits, Newest, Stands, shares_in, times_made, Kept}
use Rattle.turn_lock.proofs.Lists.{one_at, set_at, set_same, sum_set}

module _ {B E : Type 0} where
  pub queues_set : (views : List (PassState B E)) (id j n : ℕ) (v w : PassState B E) → get_elem? views id ≡ some v → (HasTicket v.stage n → HasTicket w.stage n) → Queues views j n → Queues (set views id w) j n
  queues_set views id j n v w at keep q = dite (ℕ_discrete j id)
      (λ e. (
        w,
        subst (λ k. get_elem? (set views id w) k ≡ some w) (sym e) (set_at views id v w at),
        keep (subst (λ (u : PassState B E). HasTicket u.stage n) (one_at views id q.0 v (subst (λ k. get_elem? views k ≡ some q.0) e q.1) at) q.2),
      ))
      (λ ne. (q.0, set_else views id j w ne ∙ q.1, q.2))

  pub rules_set : (views : List (PassState B E)) (id j : ℕ) (v w : PassState B E) → get_elem? views id ≡ some v → (HasTurn v.stage → HasTurn w.stage) → Rules views j → Rules (set views id w) j
  rules_set views id j v w at keep q = dite (ℕ_discrete j id)
      (λ e. (
        w,
        subst (λ k. get_elem? (set views id w) k ≡ some w) (sym e) (set_at views id v w at),
        keep (subst (λ (u : PassState B E). HasTurn u.stage) (one_at views id q.0 v (subst (λ k. get_elem? views k ≡ some q.0) e q.1) at) q.2),
      ))
      (λ ne. (q.0, set_else views id j w ne ∙ q.1, q.2))

  -- some view is the newest
  abbrev pub Leads : List (PassState B E) → ℕ → List E → Option E → Type 0
  Leads views j log shut = (v : PassState B E) × (get_elem? views j ≡ some v) × Newest log shut v

  pub leads_set : (views : List (PassState B E)) (id j : ℕ) (log : List E) (shut : Option E) (v w : PassState B E) → get_elem? views id ≡ some v → (Newest log shut v → Newest log shut w) → Leads views j log shut → Leads (set views id w) j log shut
  leads_set views id j log shut v w at keep q = dite (ℕ_discrete j id)
      (λ e. (
        w,
        subst (λ k. get_elem? (set views id w) k ≡ some w) (sym e) (set_at views id v w at),
        keep (subst (Newest log shut) (one_at views id q.0 v (subst (λ k. get_elem? views k ≡ some q.0) e q.1) at) q.2),
      ))
      (λ ne. (q.0, set_else views id j w ne ∙ q.1, q.2))

  pub shares_set : (views : List (PassState B E)) (id : ℕ) (v w : PassState B E) → get_elem? views id ≡ some v → shares_in (set views id w) + v.shares ≡ shares_in views + w.shares
  shares_set views id v w at = sum_set (λ (u : PassState B E). u.shares) views id v w at

  pub made_set : (p : ℕ) (views : List (PassState B E)) (id : ℕ) (v w : PassState B E) → get_elem? views id ≡ some v → times_made p (set views id w) + times p v.made ≡ times_made p views + times p w.made
  made_set p views id v w at = sum_set (λ (u : PassState B E). times p u.made) views id v w at

  pub same_shares : (views : List (PassState B E)) (id : ℕ) (v w : PassState B E) → get_elem? views id ≡ some v → w.shares ≡ v.shares → shares_in (set views id w) ≡ shares_in views
  same_shares views id v w at e = let s = shares_set views id v w at in omega (arith, s, e)

  pub same_made : (p : ℕ) (views : List (PassState B E)) (id : ℕ) (v w : PassState B E) → get_elem? views id ≡ some v → w.made ≡ v.made → times_made p (set views id w) ≡ times_made p views
  same_made p views id v w at e = let s = made_set p views id v w at in let t = ap (times p) e in omega (arith, s, t)

  -- a view with shares is not spent, also at another stage
  pub at_stage_fits : (root : B) (log : List E) (shut : Option E) (g : Stage E) (v : PassState B E) → 0 < v.shares → Fits root log shut v → Fits root log shut (at_stage g v)
  at_stage_fits root log shut g v some_shares f = record { seen = f.seen; other_seen = f.other_seen; closed = f.closed; other_closed = f.other_closed; live = f.live; gone = λ e. absurd (omega arith) }

  pub newest_at_stage : (log : List E) (shut : Option E) (g : Stage E) (v : PassState B E) → Newest log shut v → Newest log shut (at_stage g v)
  newest_at_stage log shut g v n = record { live = n.live; seen = n.seen; closed = n.closed }

  pub spent_fits : (root : B) (log : List E) (shut : Option E) → Fits root log shut spent
  spent_fits root log shut = record { seen = (log, refl); other_seen = (log, refl); closed = λ e is. absurd (cc is); other_closed = λ e is. absurd (cc is); live = λ h. absurd (omega arith); gone = λ e. refl }

  no_turn_spent : (v : PassState B E) → v ≡ spent → HasTurn v.stage → ⊥
  no_turn_spent v e h = subst (λ (u : PassState B E). HasTurn u.stage) e h

  -- a view with the turn has shares
  pub turn_shares : (root : B) (log : List E) (shut : Option E) (v : PassState B E) → Fits root log shut v → HasTurn v.stage → 0 < v.shares
  turn_shares root log shut v f turn = dite (ℕ_discrete v.shares 0) (λ e. absurd (no_turn_spent v (f.gone e) turn)) (λ ne. omega arith)

module _ {V B E : Type 0} (base : V → B) (events : V → List E) (closed : V → Option E) where
  -- the value is away with another view, or at home as before
  pub stands_as : (root : B) (log : List E) (shut : Option E) (away away' : Type 0) (home : maybe.Option (Option V)) → (home ≡ none → away → away')
      → Stands base events closed root log shut away home → Stands base events closed root log shut away' home
  stands_as root log shut away away' none f h = f refl h
  stands_as root log shut away away' (some None) f h = h
  stands_as root log shut away away' (some (Some v)) f h = h

module _ {V B E : Type 0} (base : V → B) (first : B → ℕ) (events : V → List E) (closed : V → Option E) where
  -- a load without a change of the view leaves everything as it is
  pub rests : (key : Opening V) (s : State (Option V) (PassState B E)) (i id : ℕ) (v : PassState B E) → get_elem? s.views id ≡ some v → Kept base first events closed key s
      → Kept base first events closed key record { words = set s.words i (get_or s.words i 0); homes = s.homes; views = set s.views id v }
  rests key s i id v at r = subst (λ (x : List ℕ × List (PassState B E)). Kept base first events closed key record { words = x.0; homes = s.homes; views = x.1 })
      (λ k. (sym (set_same s.words i) k, sym (set_again s.views id v at) k)) r
