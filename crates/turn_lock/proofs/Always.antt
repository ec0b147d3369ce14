-- What the rule says about every moment, in sentences.
use Rattle.std.proofs.Common.{◌≡◌, ℕ, List, length, get_or, refl, sym, ap, ◌∙◌, subst, inl, inr, arith}
use Rattle.std.specs.Prelude.{Option, Some, None, slice_index}
use mathlib.Core.Logic.{dite}
use mathlib.Core.Option.{none, some, some-injective, some-ne-none}
use mathlib.Core.Option as maybe
use mathlib.Core.List.{IsPrefix}
use native.Mathlib.Decide.{ℕ_discrete, dec_le}
use lib.ListN.{get_elem?}
use Rattle.atomic_table.specs.Table.{State}
use Rattle.turn_lock.specs.declared.view.Stage.{Stage}
use Rattle.turn_lock.specs.declared.view.Stage.TheVariants.{Idle, Waiting, Turn}
use Rattle.turn_lock.specs.declared.view.PassState.{PassState}
use Rattle.turn_lock.specs.declared.opening.Opening.{Opening}
use Rattle.turn_lock.specs.Positions.{positions_between, times, end_of}
use Rattle.turn_lock.specs.Rule.{HasTicket, HasTurn, InPlace, Rules, IsValue, Stands, Kept}
use Rattle.turn_lock.specs.Moments.{AtHome, IsMoment, opening_end}
use Rattle.turn_lock.proofs.Lists.{prefix_length, prefix_shorter}
use Rattle.turn_lock.proofs.Numbers.{times_between}

module _ {E : Type 0} where
  -- the holder of a ticket is the view that the ticket names
  ticket_place : (next serving : ℕ) (holder : ℕ → ℕ) (log : List E) (shut : Option E) (away : Type 0) (j n : ℕ) (g : Stage E) → InPlace next serving holder log shut away j g → HasTicket g n → j ≡ holder n
  ticket_place next serving holder log shut away j n Idle p h = absurd h
  ticket_place next serving holder log shut away j n (Waiting t) p h = sym p.2 ∙ ap holder h
  ticket_place next serving holder log shut away j n (Turn t xs c) p h = sym p.2 ∙ ap holder h

  turn_served : (next serving : ℕ) (holder : ℕ → ℕ) (log : List E) (shut : Option E) (away : Type 0) (j : ℕ) (g : Stage E) → InPlace next serving holder log shut away j g → HasTurn g → HasTicket g serving
  turn_served next serving holder log shut away j Idle p h = absurd h
  turn_served next serving holder log shut away j (Waiting t) p h = absurd h
  turn_served next serving holder log shut away j (Turn t xs c) p h = p.0

module _ {V B E : Type 0} (base : V → B) (first : B → ℕ) (events : V → List E) (closed : V → Option E) (key : Opening V) (s : State (Option V) (PassState B E)) (r : Kept base first events closed key s) where
  abbrev root : B
  root = base key.value.value

  end_is : slice_index s.words 2 ≡ end_of (first root) r.log
  end_is = ap (λ (ws : List ℕ). get_or ws 2 0) r.words

  serving_is : slice_index s.words 1 ≡ r.serving
  serving_is = ap (λ (ws : List ℕ). get_or ws 1 0) r.words

  next_is : slice_index s.words 0 ≡ r.next
  next_is = ap (λ (ws : List ℕ). get_or ws 0 0) r.words

  value_at : (home : maybe.Option (Option V)) → Stands base events closed root r.log r.shut (Rules s.views (r.holder r.serving)) home → (x : V) → home ≡ some (Some x) → IsValue base events closed root r.log r.shut x
  value_at home h x e = subst (Stands base events closed root r.log r.shut (Rules s.views (r.holder r.serving))) e h

  home_value : (x : V) → AtHome base first events closed s x → IsValue base events closed root r.log r.shut x
  home_value x e = value_at r.home r.stands x (some-injective _ _ (sym (ap (λ (hs : List (maybe.Option (Option V))). get_elem? hs 0) r.homes) ∙ e))

  home_there : ((j : ℕ) (v : PassState B E) → get_elem? s.views j ≡ some v → HasTurn v.stage → ⊥) → (home : maybe.Option (Option V)) → Stands base events closed root r.log r.shut (Rules s.views (r.holder r.serving)) home
      → (x : V) × (home ≡ some (Some x))
  home_there nobody none h = absurd (nobody (r.holder r.serving) h.0 h.1 h.2)
  home_there nobody (some None) h = absurd h
  home_there nobody (some (Some x)) h = (x, refl)

  pub moment : IsMoment base first events closed key s
  moment = record {
    tickets = λ n le lt. let a = serving_is in let b = next_is in let q = r.queue n (omega arith) (omega arith) in record {
      at = r.holder n;
      holder = q.0;
      there = q.1;
      has = q.2;
      alone = λ j v a h. ticket_place r.next r.serving r.holder r.log r.shut (r.home ≡ none) j n v.stage (r.places j v a) h;
    };
    turn = λ j v a h. subst (HasTicket v.stage) (sym serving_is) (turn_served r.next r.serving r.holder r.log r.shut (r.home ≡ none) j v.stage (r.places j v a) h);
    live = λ j v a. dite (ℕ_discrete v.shares 0) (λ e. inr ((r.fits j v a).gone e)) (λ ne. inl (omega arith));
    shares = r.shares;
    seen = λ i j v w a b. let f = (r.fits i v a).seen in let g = (r.fits j w b).seen in dite (dec_le (length v.seen) (length w.seen))
        (λ le. inl (prefix_shorter v.seen w.seen r.log f g le)) (λ gt. inr (prefix_shorter w.seen v.seen r.log g f (omega arith)));
    below = λ j v a. let l = prefix_length v.seen r.log (r.fits j v a).seen in let e = end_is in omega (arith, l, e);
    ends = λ j v e a t. ap (end_of (first root)) ((r.fits j v a).closed e t).0 ∙ sym end_is;
    closes = λ j v x e a t h. (home_value x h).as_shut ∙ ((r.fits j v a).closed e t).1;
    made = λ p. r.made p ∙ ap (λ (k : ℕ). times p (positions_between (opening_end base first events closed key) k)) (sym end_is)
        ∙ times_between (opening_end base first events closed key) p (slice_index s.words 2) (let l = r.longer in let e = end_is in omega (arith, l, e));
    bases = λ j v a l. ((r.fits j v a).live l).0;
    home_base = λ x h. (home_value x h).on_root;
    home_begins = λ j v x a h. subst (IsPrefix v.seen) (sym (home_value x h).all) (r.fits j v a).seen;
    home = λ nobody. let h = home_there nobody r.home r.stands in (h.0, ap (λ (hs : List (maybe.Option (Option V))). get_elem? hs 0) r.homes ∙ ap some h.1);
    home_ends = λ x h. (λ i. end_of (first ((home_value x h).on_root i)) ((home_value x h).all i)) ∙ sym end_is;
  }
