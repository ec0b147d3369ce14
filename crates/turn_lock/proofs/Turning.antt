-- The steps of a turn keep the rule: draw, look, post and advance.
use Rattle.std.proofs.Common.{◌≡◌, ◌≢◌, ℕ, ◌+◌, ◌<◌, eqb, cond, List, [], ◌∷◌, get_or, set, refl, sym, ap, ◌∙◌, subst, arith, eq-eqb, ne_eqb}
use Rattle.std.specs.Prelude.{Option, Some, None}
use mathlib.Core.Logic.{dite}
use mathlib.Core.Option.{none, some}
use mathlib.Core.Option as maybe
use mathlib.Core.List.{IsPrefix}
use native.Mathlib.Decide.{ℕ_discrete}
use lib.ListN.{get_elem?}
use prog.Atomic.{either}
use Rattle.atomic_table.specs.Table.{State, Me, Act, keeps, takes, gives, Valid, stepped, carried_after, step, Allows, put_back}
use Rattle.atomic_table.proofs.Lists.{exchanged}
use Rattle.turn_lock.specs.declared.view.Stage.{Stage}
use Rattle.turn_lock.specs.declared.view.Stage.TheVariants.{Idle, Waiting, Turn}
use Rattle.turn_lock.specs.declared.view.PassState.{PassState}
use Rattle.turn_lock.specs.declared.opening.Opening.{Opening}
use Rattle.turn_lock.specs.Positions.{positions_between, times, end_of}
use Rattle.turn_lock.specs.Pass.{StaysClosed}
use Rattle.turn_lock.specs.Steps.{at_stage, published, Draws, Looks, LooksAt, Posts, PostsAt, Advances}
use Rattle.turn_lock.specs.Rule.{HasTicket, HasTurn, InPlace, Queues, Rules, Fits, IsValue, Stands, Kept}
use Rattle.turn_lock.proofs.Lists.{one_at, set_at, all_set, prefix_self, prefix_then, prefix_length}
use Rattle.turn_lock.proofs.Numbers.{positions_meet, times-append}
use Rattle.turn_lock.proofs.Views.{queues_set, rules_set, leads_set, same_shares, same_made, made_set, at_stage_fits, newest_at_stage, stands_as, rests}

-- the ticket t goes to the view id
abbrev drawn_by : (ℕ → ℕ) → ℕ → ℕ → ℕ → ℕ
drawn_by holder t id n = cond (eqb n t) id (holder n)

drawn_here : (holder : ℕ → ℕ) (t id : ℕ) → drawn_by holder t id t ≡ id
drawn_here holder t id = ap (λ b. cond b id (holder t)) (eq-eqb t t refl)

drawn_before : (holder : ℕ → ℕ) (t id n : ℕ) → n < t → drawn_by holder t id n ≡ holder n
drawn_before holder t id n lt = ap (λ b. cond b id (holder n)) (ne_eqb n t (λ e. omega arith))

module _ {E : Type 0} (log : List E) (shut : Option E) where
  place_drawn : (next serving id : ℕ) (holder : ℕ → ℕ) (away : Type 0) (j : ℕ) (g : Stage E) → InPlace next serving holder log shut away j g
      → InPlace (next + 1) serving (drawn_by holder next id) log shut away j g
  place_drawn next serving id holder away j Idle p = tt
  place_drawn next serving id holder away j (Waiting t) p = let lt = p.1 in (p.0, omega arith, drawn_before holder next id t lt ∙ p.2)
  place_drawn next serving id holder away j (Turn t xs c) p = let lt = p.1 in (p.0, omega arith, drawn_before holder next id t lt ∙ p.2, p.3, p.4, p.5)

  -- the value is out, and no other view had the turn
  place_out : (next serving : ℕ) (holder : ℕ → ℕ) (away away' : Type 0) → (away → away') → (j : ℕ) (g : Stage E) → InPlace next serving holder log shut away j g → InPlace next serving holder log shut away' j g
  place_out next serving holder away away' f j Idle p = tt
  place_out next serving holder away away' f j (Waiting t) p = p
  place_out next serving holder away away' f j (Turn t xs c) p = (p.0, p.1, p.2, p.3, p.4, f p.5)

  -- a view other than the one with the turn has no turn
  place_posted : (next serving : ℕ) (holder : ℕ → ℕ) (away away' : Type 0) (log' : List E) (shut' : Option E) (j : ℕ) → j ≢ holder serving → (g : Stage E)
      → InPlace next serving holder log shut away j g → InPlace next serving holder log' shut' away' j g
  place_posted next serving holder away away' log' shut' j ne Idle p = tt
  place_posted next serving holder away away' log' shut' j ne (Waiting t) p = p
  place_posted next serving holder away away' log' shut' j ne (Turn t xs c) p = absurd (ne (sym p.2 ∙ ap holder p.0))

  place_advanced : (next serving : ℕ) (holder : ℕ → ℕ) (away away' : Type 0) (j : ℕ) → j ≢ holder serving → (g : Stage E)
      → InPlace next serving holder log shut away j g → InPlace next (serving + 1) holder log shut away' j g
  place_advanced next serving holder away away' j ne Idle p = tt
  place_advanced next serving holder away away' j ne (Waiting t) p =
      let le = p.0 in let other : t ≢ serving = λ e. ne (sym p.2 ∙ ap holder e) in (omega arith, p.1, p.2)
  place_advanced next serving holder away away' j ne (Turn t xs c) p = absurd (ne (sym p.2 ∙ ap holder p.0))

  turn_below : (next serving : ℕ) (holder : ℕ → ℕ) (away : Type 0) (j : ℕ) (g : Stage E) → InPlace next serving holder log shut away j g → HasTurn g → serving < next
  turn_below next serving holder away j Idle p h = absurd h
  turn_below next serving holder away j (Waiting t) p h = absurd h
  turn_below next serving holder away j (Turn t xs c) p h = let a = p.0 in let b = p.1 in omega arith

module _ {V B E : Type 0} (base : V → B) (first : B → ℕ) (events : V → List E) (closed : V → Option E) (key : Opening V) where
  abbrev St : Type 0
  St = State (Option V) (PassState B E)

  abbrev M : Type 0
  M = Me (Option V) (PassState B E)

  abbrev Holds : St → Type 0
  Holds = Kept base first events closed key

  abbrev root : B
  root = base key.value.value

  -- a step that leaves the word i at n, and reports `told`
  abbrev Goes : St → ℕ → ℕ → M → (M → Type 0) → ℕ → Type 0
  Goes s i id me told n = (w : PassState B E) × (a : Act (Option V)) × Valid s.homes me.1 a × Holds (stepped s i n id me.1 w a) × told (w, carried_after me.1 a)

  still : (s : St) (i id : ℕ) (me : M) (told : M → Type 0) → get_elem? s.views id ≡ some me.0 → Holds s → told me → Goes s i id me told (get_or s.words i 0)
  still s i id me told at r t = (me.0, keeps, tt, rests base first events closed key s i id me.0 at r, t)

  draws_next : (s : St) (id : ℕ) (v : PassState B E) (t : ℕ) → (r : Holds s) → get_elem? s.views id ≡ some v → v.stage ≡ Idle → 0 < v.shares → r.next ≡ t
      → Holds record { words = set s.words 0 (t + 1); homes = s.homes; views = set s.views id (at_stage (Waiting t) v) }
  draws_next s id v t r at idle live is =
      let w = at_stage (Waiting t) v in
      let ahead = r.ahead in
      let no_turn : HasTurn v.stage → HasTurn w.stage = λ h. absurd (subst HasTurn idle h) in
      record {
        next = t + 1;
        serving = r.serving;
        holder = drawn_by r.holder t id;
        home = r.home;
        log = r.log;
        shut = r.shut;
        last = r.last;
        words = ap (λ (ws : List ℕ). set ws 0 (t + 1)) r.words;
        homes = r.homes;
        ahead = omega arith;
        queue = λ n le lt. dite (ℕ_discrete n t)
            (λ e. (w, subst (λ k. get_elem? (set s.views id w) k ≡ some w) (sym (ap (drawn_by r.holder t id) e ∙ drawn_here r.holder t id)) (set_at s.views id v w at), sym e))
            (λ ne. let small : n < t = omega arith in subst (λ k. Queues (set s.views id w) k n) (sym (drawn_before r.holder t id n small))
            (queues_set s.views id (r.holder n) n v w at (λ h. absurd (subst (λ (g : Stage E). HasTicket g n) idle h)) (r.queue n le (omega arith))));
        places = all_set (λ j (u : PassState B E). InPlace (t + 1) r.serving (drawn_by r.holder t id) r.log r.shut (r.home ≡ none) j u.stage) s.views id w
            (omega arith, omega arith, drawn_here r.holder t id)
            (λ j u ne a. subst (λ k. InPlace (k + 1) r.serving (drawn_by r.holder k id) r.log r.shut (r.home ≡ none) j u.stage) is (place_drawn r.log r.shut r.next r.serving id r.holder (r.home ≡ none) j u.stage (r.places j u a)));
        fits = all_set (λ j. Fits root r.log r.shut) s.views id w (at_stage_fits root r.log r.shut (Waiting t) v live (r.fits id v at)) (λ j u ne a. r.fits j u a);
        stands = stands_as base events closed root r.log r.shut (Rules s.views (r.holder r.serving)) (Rules (set s.views id w) (drawn_by r.holder t id r.serving)) r.home
            (λ out h. let lt = turn_below r.log r.shut r.next r.serving r.holder (r.home ≡ none) (r.holder r.serving) h.0.stage (r.places (r.holder r.serving) h.0 h.1) h.2 in
            let small : r.serving < t = omega arith in
            subst (Rules (set s.views id w)) (sym (drawn_before r.holder t id r.serving small)) (rules_set s.views id (r.holder r.serving) v w at no_turn h)) r.stands;
        newest = leads_set s.views id r.last r.log r.shut v w at (newest_at_stage r.log r.shut (Waiting t) v) r.newest;
        shares = same_shares s.views id v w at refl ∙ r.shares;
        few = r.few;
        longer = r.longer;
        made = λ p. same_made p s.views id v w at refl ∙ r.made p;
      }

  pub draws : (n id : ℕ) (me : M) (t : ℕ) → me.0.stage ≡ Idle → 0 < me.0.shares → Allows Holds n id me 0 (λ y. either (eqb y t) (t + 1) y) (Draws (step n 0 t (t + 1) none) me)
  draws n id me t idle live s r wide at small =
      let y : ℕ = get_or s.words 0 0 in let told : M → Type 0 = Draws (step n 0 t (t + 1) none) me y in
      exchanged y t (t + 1) (Goes s 0 id me told)
      (λ hit. (at_stage (Waiting t) me.0, keeps, tt, draws_next s id me.0 t r at idle live (sym (ap (λ (ws : List ℕ). get_or ws 0 0) r.words) ∙ hit), ((λ _. refl), λ miss. absurd (miss hit))))
      (λ miss. still s 0 id me told at r ((λ hit. absurd (miss hit)), λ _. refl))

  -- the value is at home if the ticket served is one that waits
  at_home : (s : St) (id : ℕ) (v : PassState B E) (r : Holds s) → get_elem? s.views id ≡ some v → r.holder r.serving ≡ id → (HasTurn v.stage → ⊥)
      → (home : maybe.Option (Option V)) → Stands base events closed root r.log r.shut (Rules s.views (r.holder r.serving)) home → (x : V) × (home ≡ some (Some x)) × IsValue base events closed root r.log r.shut x
  at_home s id v r at mine idle none h = absurd (idle (subst (λ (u : PassState B E). HasTurn u.stage) (one_at s.views id h.0 v (subst (λ k. get_elem? s.views k ≡ some h.0) mine h.1) at) h.2))
  at_home s id v r at mine idle (some None) h = absurd h
  at_home s id v r at mine idle (some (Some x)) h = (x, refl, h)

  looks_in : (s : St) (id : ℕ) (v : PassState B E) (t : ℕ) (x : V) → (r : Holds s) → get_elem? s.views id ≡ some v → v.stage ≡ Waiting t → 0 < v.shares → r.serving ≡ t → r.home ≡ some (Some x)
      → IsValue base events closed root r.log r.shut x → Holds record { words = set s.words 1 (get_or s.words 1 0); homes = set s.homes 0 none; views = set s.views id (at_stage (Turn t (events x) (closed x)) v) }
  looks_in s id v t x r at waits live is home val =
      let g : Stage E = Turn t (events x) (closed x) in
      let w = at_stage g v in
      let place : InPlace r.next r.serving r.holder r.log r.shut (r.home ≡ none) id (Waiting t) = subst (InPlace r.next r.serving r.holder r.log r.shut (r.home ≡ none) id) waits (r.places id v at) in
      let tickets : (n : ℕ) → HasTicket v.stage n → HasTicket g n = λ n h. subst (λ (q : Stage E). HasTicket q n) waits h in
      let out : r.home ≡ none → none ≡ none = λ _. refl in
      record {
        next = r.next;
        serving = r.serving;
        holder = r.holder;
        home = none;
        log = r.log;
        shut = r.shut;
        last = r.last;
        words = ap (λ (ws : List ℕ). set ws 1 (get_or ws 1 0)) r.words;
        homes = ap (λ (hs : List (maybe.Option (Option V))). set hs 0 none) r.homes;
        ahead = r.ahead;
        queue = λ n le lt. queues_set s.views id (r.holder n) n v w at (tickets n) (r.queue n le lt);
        places = all_set (λ j (u : PassState B E). InPlace r.next r.serving r.holder r.log r.shut (none ≡ none) j u.stage) s.views id w
            (sym is, place.1, place.2, val.all, val.as_shut, refl)
            (λ j u ne a. place_out r.log r.shut r.next r.serving r.holder (r.home ≡ none) (none ≡ none) out j u.stage (r.places j u a));
        fits = all_set (λ j. Fits root r.log r.shut) s.views id w (at_stage_fits root r.log r.shut g v live (r.fits id v at)) (λ j u ne a. r.fits j u a);
        stands = (w, subst (λ k. get_elem? (set s.views id w) k ≡ some w) (sym (ap r.holder is ∙ place.2)) (set_at s.views id v w at), tt);
        newest = leads_set s.views id r.last r.log r.shut v w at (newest_at_stage r.log r.shut g v) r.newest;
        shares = same_shares s.views id v w at refl ∙ r.shares;
        few = r.few;
        longer = r.longer;
        made = λ p. same_made p s.views id v w at refl ∙ r.made p;
      }

  looks_hit : (n id : ℕ) (me : M) (t : ℕ) (x : V) (s : St) (r : Holds s) → get_elem? s.views id ≡ some me.0 → me.0.stage ≡ Waiting t → 0 < me.0.shares → get_or s.words 1 0 ≡ t → r.serving ≡ t → r.home ≡ some (Some x)
      → IsValue base events closed root r.log r.shut x → Goes s 1 id me (Looks base events closed (step n 1 0 0 none) me (get_or s.words 1 0)) (get_or s.words 1 0)
  looks_hit n id me t x s r at waits live hit is home val =
      let y : ℕ = get_or s.words 1 0 in let f = r.fits id me.0 at in let w = at_stage (Turn t (events x) (closed x)) me.0 in let now : M = (w, (0, Some x) ∷ me.1) in (
        w,
        takes 0 (Some x),
        ap (λ (hs : List (maybe.Option (Option V))). get_elem? hs 0) r.homes ∙ ap some home,
        looks_in s id me.0 t x r at waits live is home val,
        subst (λ (g : Stage E). LooksAt base events closed g me y now) (sym waits) (
          (λ _. (
            x,
            record {
              after = refl {a = now};
              one_base = (f.live live).0 ∙ ap Some (sym val.on_root);
              begins = subst (IsPrefix me.0.seen) (sym val.all) f.seen;
              stays = λ e is. (val.as_shut ∙ (f.closed e is).1, val.all ∙ sym (f.closed e is).0);
            },
          )),
          λ miss. absurd {A = now ≡ me} (miss hit),
        ),
      )

  pub looks : (n id : ℕ) (me : M) (t : ℕ) → me.0.stage ≡ Waiting t → 0 < me.0.shares → Allows Holds n id me 1 (λ y. y) (Looks base events closed (step n 1 0 0 none) me)
  looks n id me t waits live s r wide at small =
      let y : ℕ = get_or s.words 1 0 in
      let served : y ≡ r.serving = ap (λ (ws : List ℕ). get_or ws 1 0) r.words in
      let told : M → Type 0 = Looks base events closed (step n 1 0 0 none) me y in
      let place : InPlace r.next r.serving r.holder r.log r.shut (r.home ≡ none) id (Waiting t) = subst (InPlace r.next r.serving r.holder r.log r.shut (r.home ≡ none) id) waits (r.places id me.0 at) in
      dite (ℕ_discrete y t)
      (λ hit.
      let is : r.serving ≡ t = sym served ∙ hit in
      let h = at_home s id me.0 r at (ap r.holder is ∙ place.2) (λ turn. subst HasTurn waits turn) r.home r.stands in
      looks_hit n id me t h.0 s r at waits live hit is h.1 h.2)
      (λ miss. still s 1 id me told at r (subst (λ (g : Stage E). LooksAt base events closed g me y me) (sym waits) ((λ hit. absurd (miss hit)), λ _. refl)))

  -- what a pass with the turn did to the value, as the rule sees it
  pub record Turned (v : PassState B E) (t : ℕ) (xs : List E) (c : Option E) (x : V) : Type 0 where
    pub turn : v.stage ≡ Turn t xs c
    pub live : 0 < v.shares
    pub one_base : v.base ≡ Some (base x)
    pub grown : IsPrefix xs (events x)
    pub stays : StaysClosed c xs (closed x) (events x)

  some_is : (a b : B) → Some a ≡ Some b → a ≡ b
  some_is a b e = cc

  posts_all : (s : St) (id : ℕ) (v : PassState B E) (t pos : ℕ) (xs : List E) (c : Option E) (x : V) → (r : Holds s) → get_elem? s.views id ≡ some v → Turned v t xs c x → pos ≡ end_of (first (base x)) (events x)
      → Holds record { words = set s.words 2 pos; homes = s.homes; views = set s.views id (published t (first (base x)) xs (events x) (closed x) v) }
  posts_all s id v t pos xs c x r at did is =
      let w = published t (first (base x)) xs (events x) (closed x) v in
      let place : InPlace r.next r.serving r.holder r.log r.shut (r.home ≡ none) id (Turn t xs c) = subst (InPlace r.next r.serving r.holder r.log r.shut (r.home ≡ none) id) did.turn (r.places id v at) in
      let tickets : (n : ℕ) → HasTicket v.stage n → HasTicket w.stage n = λ n h. subst (λ (q : Stage E). HasTicket q n) did.turn h in
      let mine : id ≡ r.holder r.serving = sym place.2 ∙ ap r.holder place.0 in
      let one : base x ≡ root = some_is (base x) root (sym did.one_base ∙ ((r.fits id v at).live did.live).0) in
      let more : IsPrefix r.log (events x) = subst (λ l. IsPrefix l (events x)) place.3 did.grown in
      let closes : StaysClosed r.shut r.log (closed x) (events x) = λ e is. let d = did.stays e (place.4 ∙ is) in (d.0, d.1 ∙ place.3) in
      let fit : (u : PassState B E) → Fits root r.log r.shut u → Fits root (events x) (closed x) u = λ u f. record {
        seen = prefix_then u.seen r.log (events x) f.seen more;
        other_seen = prefix_then u.other_seen r.log (events x) f.other_seen more;
        closed = λ e is. let d = f.closed e is in let k = closes e d.1 in (d.0 ∙ sym k.1, k.0);
        other_closed = λ e is. let d = f.other_closed e is in let k = closes e d.1 in (d.0 ∙ sym k.1, k.0, d.2);
        live = f.live;
        gone = f.gone;
      } in
      let mine_fits = fit v (r.fits id v at) in
      let start : ℕ = first root in
      record {
        next = r.next;
        serving = r.serving;
        holder = r.holder;
        home = r.home;
        log = events x;
        shut = closed x;
        last = id;
        words = ap (λ (ws : List ℕ). set ws 2 pos) r.words ∙ ap (λ (k : ℕ). r.next ∷ r.serving ∷ k ∷ []) (is ∙ ap (λ b. end_of (first b) (events x)) one);
        homes = r.homes;
        ahead = r.ahead;
        queue = λ n le lt. queues_set s.views id (r.holder n) n v w at (tickets n) (r.queue n le lt);
        places = all_set (λ j (u : PassState B E). InPlace r.next r.serving r.holder (events x) (closed x) (r.home ≡ none) j u.stage) s.views id w
            (place.0, place.1, place.2, refl, refl, place.5)
            (λ j u ne a. place_posted r.log r.shut r.next r.serving r.holder (r.home ≡ none) (r.home ≡ none) (events x) (closed x) j (λ e. ne (e ∙ sym mine)) u.stage (r.places j u a));
        fits = all_set (λ j. Fits root (events x) (closed x)) s.views id w
            record { seen = prefix_self (events x); other_seen = mine_fits.other_seen; closed = λ e is. (refl, is); other_closed = λ e is. let d = mine_fits.other_closed e is in (d.0, d.1, d.1); live = mine_fits.live; gone = λ e. absurd (let l = did.live in omega arith) }
            (λ j u ne a. fit u (r.fits j u a));
        stands = subst (Stands base events closed root (events x) (closed x) (Rules (set s.views id w) (r.holder r.serving))) (sym place.5)
            (w, subst (λ k. get_elem? (set s.views id w) k ≡ some w) mine (set_at s.views id v w at), tt);
        newest = (w, set_at s.views id v w at, record { live = did.live; seen = refl; closed = refl });
        shares = same_shares s.views id v w at refl ∙ r.shares;
        few = r.few;
        longer = let a = r.longer in let b = prefix_length r.log (events x) more in omega arith;
        made = λ p.
            let o : ℕ = end_of start (events key.value.value) in let e : ℕ = end_of start r.log in let e' : ℕ = end_of start (events x) in
            let a = made_set p s.views id v w at in
            let b = times-append p v.made (positions_between (end_of (first (base x)) xs) (end_of (first (base x)) (events x))) in
            let same : positions_between (end_of (first (base x)) xs) (end_of (first (base x)) (events x)) ≡ positions_between e e' =
            λ k. positions_between (end_of (first (one k)) (place.3 k)) (end_of (first (one k)) (events x)) in
            let d = ap (times p) same in
            let m = ap (times p) (positions_meet o e e' (let l = r.longer in omega arith) (let l = prefix_length r.log (events x) more in omega arith)) in
            let n = times-append p (positions_between o e) (positions_between e e') in
            let h = r.made p in
            omega (arith, a, b, d, m, n, h);
      }

  pub posts : (n id : ℕ) (me : M) (t pos : ℕ) (xs : List E) (c : Option E) (x : V) → Turned me.0 t xs c x → me.1 ≡ (0, Some x) ∷ [] → pos ≡ end_of (first (base x)) (events x)
      → Allows Holds n id me 2 (λ _. pos) (λ _. Posts base first events closed (step n 2 pos 0 none) me pos)
  posts n id me t pos xs c x did out is s r wide at small =
      let w = published t (first (base x)) xs (events x) (closed x) me.0 in (
        w,
        keeps,
        tt,
        posts_all s id me.0 t pos xs c x r at did is,
        subst (λ (g : Stage E). PostsAt base first events closed g me.1 me (w, me.1)) (sym did.turn) (subst (λ (l : List (ℕ × Option V)). PostsAt base first events closed (Turn t xs c) l me (w, me.1)) (sym out) refl),
      )

  -- what a post reported, if the turn and the value are known
  pub posted_is : (me n : M) (t : ℕ) (xs : List E) (c : Option E) (x : V) → me.0.stage ≡ Turn t xs c → me.1 ≡ (0, Some x) ∷ [] → PostsAt base first events closed me.0.stage me.1 me n
      → n ≡ (published t (first (base x)) xs (events x) (closed x) me.0, me.1)
  posted_is me n t xs c x turn out told = subst (λ (l : List (ℕ × Option V)). PostsAt base first events closed (Turn t xs c) l me n) out (subst (λ (g : Stage E). PostsAt base first events closed g me.1 me n) turn told)

  advances_next : (s : St) (id : ℕ) (v : PassState B E) (t : ℕ) (x : V) → (r : Holds s) → get_elem? s.views id ≡ some v → v.stage ≡ Turn t (events x) (closed x) → 0 < v.shares → v.base ≡ Some (base x)
      → Holds record { words = set s.words 1 (t + 1); homes = set s.homes 0 (some (Some x)); views = set s.views id (at_stage Idle v) }
  advances_next s id v t x r at turn live one_base =
      let w = at_stage Idle v in
      let place : InPlace r.next r.serving r.holder r.log r.shut (r.home ≡ none) id (Turn t (events x) (closed x)) = subst (InPlace r.next r.serving r.holder r.log r.shut (r.home ≡ none) id) turn (r.places id v at) in
      let mine : id ≡ r.holder r.serving = sym place.2 ∙ ap r.holder place.0 in
      let served : t ≡ r.serving = place.0 in
      let below : t < r.next = place.1 in
      record {
        next = r.next;
        serving = r.serving + 1;
        holder = r.holder;
        home = some (Some x);
        log = r.log;
        shut = r.shut;
        last = r.last;
        words = ap (λ (ws : List ℕ). set ws 1 (t + 1)) r.words ∙ ap (λ (k : ℕ). r.next ∷ (k + 1) ∷ end_of (first root) r.log ∷ []) served;
        homes = ap (λ (hs : List (maybe.Option (Option V))). set hs 0 (some (Some x))) r.homes;
        ahead = omega arith;
        queue = λ n le lt. queues_set s.views id (r.holder n) n v w at
            (λ h. absurd (let e : t ≡ n = subst (λ (q : Stage E). HasTicket q n) turn h in omega arith))
            (r.queue n (omega arith) lt);
        places = all_set (λ j (u : PassState B E). InPlace r.next (r.serving + 1) r.holder r.log r.shut (some (Some x) ≡ none) j u.stage) s.views id w tt
            (λ j u ne a. place_advanced r.log r.shut r.next r.serving r.holder (r.home ≡ none) (some (Some x) ≡ none) j (λ e. ne (e ∙ sym mine)) u.stage (r.places j u a));
        fits = all_set (λ j. Fits root r.log r.shut) s.views id w (at_stage_fits root r.log r.shut Idle v live (r.fits id v at)) (λ j u ne a. r.fits j u a);
        stands = record { on_root = some_is (base x) root (sym one_base ∙ ((r.fits id v at).live live).0); all = place.3; as_shut = place.4 };
        newest = leads_set s.views id r.last r.log r.shut v w at (newest_at_stage r.log r.shut Idle v) r.newest;
        shares = same_shares s.views id v w at refl ∙ r.shares;
        few = r.few;
        longer = r.longer;
        made = λ p. same_made p s.views id v w at refl ∙ r.made p;
      }

  pub advances : (n id : ℕ) (me : M) (t : ℕ) (x : V) → me.0.stage ≡ Turn t (events x) (closed x) → 0 < me.0.shares → me.0.base ≡ Some (base x) → me.1 ≡ (0, Some x) ∷ []
      → Allows Holds n id me 1 (λ _. t + 1) (λ _. Advances (step n 1 (t + 1) 0 none) me (t + 1))
  advances n id me t x turn live one_base out s r wide at small = (
    at_stage Idle me.0,
    gives,
    tt,
    subst (λ (l : List (ℕ × Option V)). Holds record { words = set s.words 1 (t + 1); homes = put_back s.homes l; views = set s.views id (at_stage Idle me.0) }) (sym out)
        (advances_next s id me.0 t x r at turn live one_base),
    refl,
  )
