-- The rule at the opening, and what it says at the close.
use Rattle.std.proofs.Common.{◌≡◌, ◌≢◌, ℕ, ◌<◌, ◌^◌, List, [], ◌∷◌, refl, sym, ap, ◌∙◌, subst, arith}
use Rattle.std.specs.Prelude.{Option, Some, None, IsPermutation}
use mathlib.Core.Logic.{dite}
use mathlib.Core.Option.{none, some, some-injective}
use mathlib.Core.Option as maybe
use native.Mathlib.Decide.{ℕ_discrete}
use lib.ListN.{get_elem?}
use Rattle.atomic_table.specs.Table.{State, Me, opening, Final, Seen}
use Rattle.turn_lock.specs.declared.view.Stage.TheVariants.{Idle}
use Rattle.turn_lock.specs.declared.view.PassState.{PassState}
use Rattle.turn_lock.specs.declared.opening.Opening.{Opening}
use Rattle.turn_lock.specs.Positions.{positions_between, times, end_of}
use Rattle.turn_lock.specs.Steps.{fresh}
use Rattle.turn_lock.specs.Rule.{HasTurn, InPlace, Rules, Fits, Newest, IsValue, Stands, Kept}
use Rattle.turn_lock.proofs.Lists.{one_at, only_one, prefix_self, prefix_none, sum_two, sum_only}
use Rattle.turn_lock.proofs.Numbers.{positions_none, counts_permute}
use Rattle.turn_lock.proofs.Views.{turn_shares}

module _ {V B E : Type 0} (base : V → B) (first : B → ℕ) (events : V → List E) (closed : V → Option E) (key : Opening V) where
  abbrev Holds : State (Option V) (PassState B E) → Type 0
  Holds = Kept base first events closed key

  abbrev root : B
  root = base key.value.value

  abbrev whole : PassState B E
  whole = fresh key.shares root (events key.value.value) (closed key.value.value)

  opens : (v : V) (pos : ℕ) → key.value.value ≡ v → pos ≡ end_of (first (base v)) (events v) → 0 < key.shares → key.shares < 2 ^ 32 → Holds (opening (0 ∷ 0 ∷ pos ∷ []) (Some v ∷ []) whole)
  opens v pos same is live few =
      let log = events key.value.value in let shut = closed key.value.value in
      let fit : Fits root log shut whole = record { seen = prefix_self log; other_seen = prefix_none log; closed = λ e is. (refl, is); other_closed = λ e is. absurd (cc is); live = λ _. (refl, refl); gone = λ e. absurd (omega arith) } in
      record {
        next = 0;
        serving = 0;
        holder = λ n. 0;
        home = some (Some v);
        log = log;
        shut = shut;
        last = 0;
        words = ap (λ (k : ℕ). 0 ∷ 0 ∷ k ∷ []) (is ∙ ap (λ x. end_of (first (base x)) (events x)) (sym same));
        homes = refl;
        ahead = omega arith;
        queue = λ n le lt. absurd (omega arith);
        places = λ j u e. subst (λ (q : PassState B E). InPlace 0 0 (λ n. 0) log shut (some (Some v) ≡ none) j q.stage) (only_one whole j u e) tt;
        fits = λ j u e. subst (Fits root log shut) (only_one whole j u e) fit;
        stands = record { on_root = ap base (sym same); all = ap events (sym same); as_shut = ap closed (sym same) };
        newest = (whole, refl, record { live = live; seen = refl; closed = refl });
        shares = omega arith;
        few = few;
        longer = omega arith;
        made = λ p. sym (ap (times p) (positions_none (end_of (first root) log)));
      }

  -- the same if an equation gives the slots
  pub opens_with : (v : V) (pos : ℕ) (slots : List (Option V)) → slots ≡ Some v ∷ [] → key.value.value ≡ v → pos ≡ end_of (first (base v)) (events v) → 0 < key.shares → key.shares < 2 ^ 32 → Holds (opening (0 ∷ 0 ∷ pos ∷ []) slots whole)
  opens_with v pos slots one same is live few = subst (λ l. Holds (opening (0 ∷ 0 ∷ pos ∷ []) l whole)) (sym one) (opens v pos same is live few)

  -- the last pass and the value at the close
  pub record Closes (v : PassState B E) (x : V) : Type 0 where
    pub opened : base x ≡ root
    pub one_base : v.base ≡ Some root
    pub seen : events x ≡ v.seen
    pub closed_is : closed x ≡ v.shut
    pub made : IsPermutation v.made (positions_between (end_of (first root) (events key.value.value)) (end_of (first root) (events x)))

  module _ (s : State (Option V) (PassState B E)) (id : ℕ) (v : PassState B E) (r : Holds s) (at : get_elem? s.views id ≡ some v) (all : v.shares ≡ key.shares) where
    -- no other view has shares
    no_other : (j : ℕ) (u : PassState B E) → j ≢ id → get_elem? s.views j ≡ some u → u.shares ≡ 0
    no_other j u ne a = let t = sum_two (λ (q : PassState B E). q.shares) s.views id j v u at a ne in let e = r.shares in omega (arith, t, e)

    none_made : (p j : ℕ) (u : PassState B E) → j ≢ id → get_elem? s.views j ≡ some u → times p u.made ≡ 0
    none_made p j u ne a = ap (λ (q : PassState B E). times p q.made) ((r.fits j u a).gone (no_other j u ne a))

    leads : Newest r.log r.shut v
    leads = dite (ℕ_discrete r.last id)
        (λ e. subst (Newest r.log r.shut) (one_at s.views id r.newest.0 v (subst (λ k. get_elem? s.views k ≡ some r.newest.0) e r.newest.1) at) r.newest.2)
        (λ ne. absurd (let z = no_other r.last r.newest.0 ne r.newest.1 in let l = r.newest.2.live in omega (arith, z, l)))

    home_is : v.stage ≡ Idle → (home : maybe.Option (Option V)) → Stands base events closed root r.log r.shut (Rules s.views (r.holder r.serving)) home
        → (x : V) × (home ≡ some (Some x)) × IsValue base events closed root r.log r.shut x
    home_is idle none h = absurd (dite (ℕ_discrete (r.holder r.serving) id)
        (λ e. subst HasTurn idle (subst (λ (u : PassState B E). HasTurn u.stage) (one_at s.views id h.0 v (subst (λ k. get_elem? s.views k ≡ some h.0) e h.1) at) h.2))
        (λ ne. let z = no_other (r.holder r.serving) h.0 ne h.1 in let l = turn_shares root r.log r.shut h.0 (r.fits (r.holder r.serving) h.0 h.1) h.2 in omega (arith, z, l)))
    home_is idle (some None) h = absurd h
    home_is idle (some (Some x)) h = (x, refl, h)

    closing : v.stage ≡ Idle → 0 < v.shares → (x : V) × (s.homes ≡ some (Some x) ∷ []) × Closes v x
    closing idle live =
        let h = home_is idle r.home r.stands in
        let lead = leads in
        let end : end_of (first root) r.log ≡ end_of (first root) (events h.0) = ap (end_of (first root)) (sym h.2.all) in (
          h.0,
          r.homes ∙ ap (λ (o : maybe.Option (Option V)). o ∷ []) h.1,
          record {
            opened = h.2.on_root;
            one_base = ((r.fits id v at).live live).0;
            seen = h.2.all ∙ sym lead.seen;
            closed_is = h.2.as_shut ∙ sym lead.closed;
            made = counts_permute v.made _ (λ p. sym (sum_only (λ (q : PassState B E). times p q.made) s.views id v at (none_made p)) ∙ r.made p
                ∙ ap (λ (e : ℕ). times p (positions_between (end_of (first root) (events key.value.value)) e)) end);
          },
        )

  some_is : (x y : Option V) → maybe.some x ≡ maybe.some y → x ≡ y
  some_is x y e = some-injective x y e

  -- the slot at the end has the value
  pub closes : (id : ℕ) (me : Me (Option V) (PassState B E)) (v : PassState B E) (taken : List (ℕ × Option V)) (words : List ℕ) (slots : List (Option V)) (slot : Option V) → me ≡ (v, taken) → v.stage ≡ Idle → 0 < v.shares → v.shares ≡ key.shares
      → Final (Seen Holds id me.0) words slots → get_elem? slots 0 ≡ some slot → (x : V) × (slot ≡ Some x) × Closes v x
  closes id me v taken words slots slot is idle live all f got =
      let g : Final (Seen Holds id v) words slots = subst (λ (m : Me (Option V) (PassState B E)). Final (Seen Holds id m.0) words slots) is f in
      let c = closing g.0 id v g.1.0 g.1.1 all idle live in
      (c.0, some_is slot (Some c.0) (sym got ∙ g.4 0 (Some c.0) (ap (λ (hs : List (maybe.Option (Option V))). get_elem? hs 0) c.1)), c.2)

  -- the same for the value found there
  pub closes_value : (id : ℕ) (me : Me (Option V) (PassState B E)) (v : PassState B E) (taken : List (ℕ × Option V)) (words : List ℕ) (slots : List (Option V)) (slot : Option V) (x : V) → me ≡ (v, taken) → v.stage ≡ Idle → 0 < v.shares → v.shares ≡ key.shares
      → Final (Seen Holds id me.0) words slots → get_elem? slots 0 ≡ some slot → slot ≡ Some x → Closes v x
  closes_value id me v taken words slots slot x is idle live all f got there =
      let c = closes id me v taken words slots slot is idle live all f got in
      let e : Some c.0 ≡ Some x = sym c.1 ∙ there in
      let same : c.0 ≡ x = cc in
      subst (Closes v) same c.2
