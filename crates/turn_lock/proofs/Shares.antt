-- The steps of sharing keep the rule: a split, a join, and the check that follows it.
use Rattle.std.proofs.Common.{◌≡◌, ◌⊎◌, ℕ, suc, ◌<◌, ◌≤◌, true, false, cond, List, [], ◌∷◌, ◌++◌, length, set, refl, sym, ap, ◌∙◌, subst, inl, inr, ⊎_elim, arith}
use Rattle.std.specs.Prelude.{Option, Some, None, nat_lt}
use Rattle.std.proofs.lemmas.Bool.Decides.{nat_tests}
use Rattle.std.proofs.lemmas.List.Sums.{sum_by-append}
use mathlib.Core.Logic.{dite}
use mathlib.Core.Option.{none, some}
use mathlib.Core.List.{IsPrefix}
use native.Mathlib.Decide.{ℕ_discrete, dec_le}
use lib.ListN.{get_elem?}
use Rattle.atomic_table.specs.Table.{State, Me, keeps, step, Allows, Splits, Joins}
use Rattle.atomic_table.proofs.Lists.{set_else, at_longer, at_snoc}
use Rattle.turn_lock.specs.declared.view.Stage.{Stage}
use Rattle.turn_lock.specs.declared.view.Stage.TheVariants.{Idle}
use Rattle.turn_lock.specs.declared.view.PassState.{PassState}
use Rattle.turn_lock.specs.declared.opening.Opening.{Opening}
use Rattle.turn_lock.specs.Pass.{longer, either, StaysClosed}
use Rattle.turn_lock.specs.Positions.{times}
use Rattle.turn_lock.specs.Steps.{shorter, shorter_shut, joined_shut, IsCounted, spent, left_with, given, joined, Counts}
use Rattle.turn_lock.specs.Rule.{HasTicket, HasTurn, InPlace, Rules, Fits, Newest, Kept}
use Rattle.turn_lock.proofs.Lists.{one_at, set_at, all_set, prefix_none, prefix_length, prefix_shorter, prefix_whole, sum_at}
use Rattle.turn_lock.proofs.Numbers.{times-append}
use Rattle.turn_lock.proofs.Views.{Leads, queues_set, rules_set, leads_set, shares_set, made_set, same_made, spent_fits, stands_as, rests}

module _ {E : Type 0} where
  -- either the second is the longer, or the first is at least as long
  pub longer_cases : (xs ys : List E) → ((length xs < length ys) × (longer xs ys ≡ ys) × (shorter xs ys ≡ xs)) ⊎ ((length ys ≤ length xs) × (longer xs ys ≡ xs) × (shorter xs ys ≡ ys))
  longer_cases xs ys = dite (dec_le (suc (length xs)) (length ys))
      (λ lt. let t : nat_lt (length xs) (length ys) ≡ true = grind (arith, nat_tests) in inl (omega arith, ap (λ b. cond b ys xs) t, ap (λ b. cond b xs ys) t))
      (λ ge. let t : nat_lt (length xs) (length ys) ≡ false = grind (arith, nat_tests) in inr (omega arith, ap (λ b. cond b ys xs) t, ap (λ b. cond b xs ys) t))

  pub longer_begins : (xs ys log : List E) → IsPrefix xs log → IsPrefix ys log → IsPrefix (longer xs ys) log
  longer_begins xs ys log p q = ⊎_elim (λ c. subst (λ l. IsPrefix l log) (sym c.1) q) (λ c. subst (λ l. IsPrefix l log) (sym c.1) p) (longer_cases xs ys)

  shorter_begins : (xs ys log : List E) → IsPrefix xs log → IsPrefix ys log → IsPrefix (shorter xs ys) log
  shorter_begins xs ys log p q = ⊎_elim (λ c. subst (λ l. IsPrefix l log) (sym c.2) p) (λ c. subst (λ l. IsPrefix l log) (sym c.2) q) (longer_cases xs ys)

  -- if one of two prefixes is the whole, so is the longer
  longer_all : (xs ys log : List E) → IsPrefix xs log → IsPrefix ys log → (xs ≡ log) ⊎ (ys ≡ log) → longer xs ys ≡ log
  longer_all xs ys log p q one =
      let a = prefix_length xs log p in let b = prefix_length ys log q in
      let short : (length log ≤ length xs) ⊎ (length log ≤ length ys) = ⊎_elim (λ e. let l = ap length e in inl (omega arith)) (λ e. let l = ap length e in inr (omega arith)) one in
      ⊎_elim
      (λ c. c.1 ∙ prefix_whole ys log q (let lt = c.0 in ⊎_elim {C = length log ≤ length ys} (λ h. omega arith) (λ h. h) short))
      (λ c. c.1 ∙ prefix_whole xs log p (let le = c.0 in ⊎_elim {C = length log ≤ length xs} (λ h. h) (λ h. omega arith) short))
      (longer_cases xs ys)

module _ {E : Type 0} where
  either_left : (a b : Option E) (e : E) → a ≡ Some e → either a b ≡ Some e
  either_left None b e is = absurd (cc is)
  either_left (Some x) b e is = is

  either_cases : (a b : Option E) (e : E) → either a b ≡ Some e → (a ≡ Some e) ⊎ (b ≡ Some e)
  either_cases None b e is = inr is
  either_cases (Some x) b e is = inl is

  either_same : (a b c : Option E) → a ≡ c → ((e : E) → b ≡ Some e → c ≡ Some e) → either a b ≡ c
  either_same None None c is f = is
  either_same None (Some x) c is f = sym (f x refl)
  either_same (Some x) b c is f = is

  either_same_right : (a b c : Option E) → b ≡ c → ((e : E) → a ≡ Some e → c ≡ Some e) → either a b ≡ c
  either_same_right None b c is f = is
  either_same_right (Some x) b c is f = sym (f x refl)

module _ {B E : Type 0} where
  -- if one of two passes has seen the value closed, so has the joined pass, by the same entry
  joined_cases : (k l : PassState B E) (e : E) → joined_shut k l ≡ Some e → (k.shut ≡ Some e) ⊎ (l.shut ≡ Some e)
  joined_cases k l e =
      elim (nat_lt (length k.seen) (length l.seen)) as (λ t. cond t (either l.shut k.shut) (either k.shut l.shut) ≡ Some e → (k.shut ≡ Some e) ⊎ (l.shut ≡ Some e)) [
        | true ↦ λ is. ⊎_elim (λ c. inr c) (λ c. inl c) (either_cases l.shut k.shut e is)
        | false ↦ λ is. either_cases k.shut l.shut e is
      ]

  joined_left : (k l : PassState B E) (c : Option E) → k.shut ≡ c → ((e : E) → l.shut ≡ Some e → c ≡ Some e) → joined_shut k l ≡ c
  joined_left k l c is f =
      elim (nat_lt (length k.seen) (length l.seen)) as (λ t. cond t (either l.shut k.shut) (either k.shut l.shut) ≡ c) [
        | true ↦ either_same_right l.shut k.shut c is f
        | false ↦ either_same k.shut l.shut c is f
      ]

  joined_right : (k l : PassState B E) (c : Option E) → l.shut ≡ c → ((e : E) → k.shut ≡ Some e → c ≡ Some e) → joined_shut k l ≡ c
  joined_right k l c is f =
      elim (nat_lt (length k.seen) (length l.seen)) as (λ t. cond t (either l.shut k.shut) (either k.shut l.shut) ≡ c) [
        | true ↦ either_same l.shut k.shut c is f
        | false ↦ either_same_right k.shut l.shut c is f
      ]

  -- if the pass with the shorter list has seen the value closed, that list is the whole
  shorter_closed : (root : B) (log : List E) (shut : Option E) (k l : PassState B E) → Fits root log shut k → Fits root log shut l → (e : E) → shorter_shut k l ≡ Some e → (shorter k.seen l.seen ≡ log) × (shut ≡ Some e)
  shorter_closed root log shut k l f g e =
      elim (nat_lt (length k.seen) (length l.seen)) as (λ t. cond t k.shut l.shut ≡ Some e → (cond t k.seen l.seen ≡ log) × (shut ≡ Some e)) [
        | true ↦ f.closed e
        | false ↦ g.closed e
      ]

  -- the joined pass has seen it closed by the same entry
  shorter_joined : (root : B) (log : List E) (shut : Option E) (k l : PassState B E) → Fits root log shut k → Fits root log shut l → (e : E) → shorter_shut k l ≡ Some e → joined_shut k l ≡ Some e
  shorter_joined root log shut k l f g e is =
      let whole = (shorter_closed root log shut k l f g e is).1 in
      elim (nat_lt (length k.seen) (length l.seen)) as (λ t. cond t k.shut l.shut ≡ Some e → cond t (either l.shut k.shut) (either k.shut l.shut) ≡ Some e) [
        | true ↦ λ mine. either_same_right l.shut k.shut (Some e) mine (λ x its. sym whole ∙ (g.closed x its).1)
        | false ↦ λ mine. either_same_right k.shut l.shut (Some e) mine (λ x its. sym whole ∙ (f.closed x its).1)
      ] is

  -- the longer list is no longer
  seen_all : (log : List E) (k : PassState B E) → IsPrefix k.seen log → k.other_seen ≡ log → length k.other_seen ≤ length k.seen → k.seen ≡ k.other_seen
  seen_all log k p whole le = prefix_whole k.seen log p (let l = ap length whole in omega (arith, l, le)) ∙ sym whole

  -- of two joined passes, each that has seen the value closed has seen what both have
  stays_left : (k l : PassState B E) → IsCounted (joined k l) → StaysClosed k.shut k.seen (joined_shut k l) (longer k.seen l.seen)
  stays_left k l c e is =
      elim (nat_lt (length k.seen) (length l.seen)) as (λ t. nat_lt (length k.seen) (length l.seen) ≡ t → (cond t k.shut l.shut ≡ Some e → length (cond t k.seen l.seen) ≤ length (cond t l.seen k.seen) → (cond t l.seen k.seen ≡ cond t k.seen l.seen) × (cond t (either l.shut k.shut) (either k.shut l.shut) ≡ Some e)) → (cond t (either l.shut k.shut) (either k.shut l.shut) ≡ Some e) × (cond t l.seen k.seen ≡ k.seen)) [
        | true ↦ λ less stays. let s = stays is (grind (arith, nat_tests, less)) in (s.1, s.0)
        | false ↦ λ _ _. (either_left k.shut l.shut e is, refl)
      ] refl (c.stays e)

  stays_right : (k l : PassState B E) → IsCounted (joined k l) → StaysClosed l.shut l.seen (joined_shut k l) (longer k.seen l.seen)
  stays_right k l c e is =
      elim (nat_lt (length k.seen) (length l.seen)) as (λ t. nat_lt (length k.seen) (length l.seen) ≡ t → (cond t k.shut l.shut ≡ Some e → length (cond t k.seen l.seen) ≤ length (cond t l.seen k.seen) → (cond t l.seen k.seen ≡ cond t k.seen l.seen) × (cond t (either l.shut k.shut) (either k.shut l.shut) ≡ Some e)) → (cond t (either l.shut k.shut) (either k.shut l.shut) ≡ Some e) × (cond t l.seen k.seen ≡ l.seen)) [
        | true ↦ λ _ _. (either_left l.shut k.shut e is, refl)
        | false ↦ λ less stays. let s = stays is (grind (arith, nat_tests, less)) in (s.1, s.0)
      ] refl (c.stays e)

  -- the joined pass is closed by the entry that closed the one or the other
  pub closed_both : (k l : PassState B E) → IsCounted (joined k l) → joined_shut k l ≡ either k.shut l.shut
  closed_both k l c = by_shut k.shut refl
    where
      by_other : k.shut ≡ None → (b : Option E) → l.shut ≡ b → joined_shut k l ≡ either k.shut l.shut
      by_other missing None is = joined_left k l None missing (λ e its. absurd (let both = sym is ∙ its in cc both)) ∙ sym (ap (λ a. either a l.shut) missing ∙ is)
      by_other missing (Some e) is = (stays_right k l c e is).0 ∙ sym (ap (λ a. either a l.shut) missing ∙ is)

      by_shut : (a : Option E) → k.shut ≡ a → joined_shut k l ≡ either k.shut l.shut
      by_shut None is = by_other is l.shut refl
      by_shut (Some e) is = (stays_left k l c e is).0 ∙ sym (either_left k.shut l.shut e is)

  pub stays_both : (k l : PassState B E) → IsCounted (joined k l) → StaysClosed k.shut k.seen (joined_shut k l) (longer k.seen l.seen) × StaysClosed l.shut l.seen (joined_shut k l) (longer k.seen l.seen)
  stays_both k l c = (stays_left k l c, stays_right k l c)

module _ {V B E : Type 0} (base : V → B) (first : B → ℕ) (events : V → List E) (closed : V → Option E) (key : Opening V) where
  abbrev St : Type 0
  St = State (Option V) (PassState B E)

  abbrev Holds : St → Type 0
  Holds = Kept base first events closed key

  abbrev root : B
  root = base key.value.value

  given_place : (next serving : ℕ) (holder : ℕ → ℕ) (log : List E) (shut : Option E) (away : Type 0) (n j : ℕ) (v u : PassState B E) → given n v ≡ u → InPlace next serving holder log shut away j u.stage
  given_place next serving holder log shut away n j v u e = subst (λ (q : PassState B E). InPlace next serving holder log shut away j q.stage) e tt

  pub splits : (id : ℕ) (v : PassState B E) (n : ℕ) → 0 < n → n < v.shares → Splits Holds id v (left_with n v) (given n v)
  splits id v n pos less s r at =
      let left = left_with n v in let right = given n v in
      let views = set s.views id left in
      let f = r.fits id v at in
      let live : (v.base ≡ Some root) × (v.other_base ≡ Some root) = f.live (omega arith) in
      let left_fits : Fits root r.log r.shut left = record { seen = f.seen; other_seen = f.other_seen; closed = f.closed; other_closed = f.other_closed; live = λ _. live; gone = λ e. absurd (omega arith) } in
      let right_fits : Fits root r.log r.shut right = record { seen = f.seen; other_seen = prefix_none r.log; closed = f.closed; other_closed = λ e is. absurd (cc is); live = λ _. (live.0, live.0); gone = λ e. absurd (omega arith) } in
      let newest = leads_set s.views id r.last r.log r.shut v left at (λ h. record { live = omega arith; seen = h.seen; closed = h.closed }) r.newest in
      record {
        next = r.next;
        serving = r.serving;
        holder = r.holder;
        home = r.home;
        log = r.log;
        shut = r.shut;
        last = r.last;
        words = r.words;
        homes = r.homes;
        ahead = r.ahead;
        queue = λ m le lt. let q = queues_set s.views id (r.holder m) m v left at (λ h. h) (r.queue m le lt) in (q.0, at_longer views (right ∷ []) (r.holder m) q.0 q.1, q.2);
        places = λ j u e. ⊎_elim
            (λ a. all_set (λ k (x : PassState B E). InPlace r.next r.serving r.holder r.log r.shut (r.home ≡ none) k x.stage) s.views id left (r.places id v at) (λ k x ne b. r.places k x b) j u a)
            (λ is. given_place r.next r.serving r.holder r.log r.shut (r.home ≡ none) n j v u is)
            (at_snoc views right u j e);
        fits = λ j u e. ⊎_elim
            (λ a. all_set (λ k. Fits root r.log r.shut) s.views id left left_fits (λ k x ne b. r.fits k x b) j u a)
            (λ is. subst (Fits root r.log r.shut) is right_fits)
            (at_snoc views right u j e);
        stands = stands_as base events closed root r.log r.shut (Rules s.views (r.holder r.serving)) (Rules (views ++ right ∷ []) (r.holder r.serving)) r.home
            (λ out h. let q = rules_set s.views id (r.holder r.serving) v left at (λ k. k) h in (q.0, at_longer views (right ∷ []) (r.holder r.serving) q.0 q.1, q.2)) r.stands;
        newest = (newest.0, at_longer views (right ∷ []) r.last newest.0 newest.1, newest.2);
        shares = let a = shares_set s.views id v left at in let b = sum_by-append (λ (u : PassState B E). u.shares) views (right ∷ []) in let c = r.shares in omega (arith, a, b, c);
        few = r.few;
        longer = r.longer;
        made = λ p. let a = same_made p s.views id v left at refl in let b = sum_by-append (λ (u : PassState B E). times p u.made) views (right ∷ []) in let c = r.made p in omega (arith, a, b, c);
      }

  pub joins : (id : ℕ) (v : PassState B E) (other : ℕ) (w : PassState B E) → v.stage ≡ Idle → w.stage ≡ Idle → 0 < v.shares → 0 < w.shares → Joins Holds id v other w (joined v w) spent
  joins id v other w idle idle' live live' s r at ne at' =
      let both = joined v w in
      let one = set s.views id both in
      let views = set one other spent in
      let there : get_elem? s.views other ≡ some w = sym (set_else s.views id other both ne) ∙ at' in
      let f = r.fits id v at in
      let g = r.fits other w there in
      let no_ticket : (u x : PassState B E) → u.stage ≡ Idle → (n : ℕ) → HasTicket u.stage n → HasTicket x.stage n = λ u x is n h. absurd (subst (λ (q : Stage E). HasTicket q n) is h) in
      let no_turn : (u x : PassState B E) → u.stage ≡ Idle → HasTurn u.stage → HasTurn x.stage = λ u x is h. absurd (subst HasTurn is h) in
      let both_fits : Fits root r.log r.shut both = record {
        seen = longer_begins v.seen w.seen r.log f.seen g.seen;
        other_seen = shorter_begins v.seen w.seen r.log f.seen g.seen;
        closed = λ e is. ⊎_elim
            (λ t. let c = f.closed e t in (longer_all v.seen w.seen r.log f.seen g.seen (inl c.0), c.1))
            (λ t. let c = g.closed e t in (longer_all v.seen w.seen r.log f.seen g.seen (inr c.0), c.1))
            (joined_cases v w e is);
        other_closed = λ e is. let d = shorter_closed root r.log r.shut v w f g e is in (d.0, d.1, shorter_joined root r.log r.shut v w f g e is);
        live = λ _. ((f.live live).0, (g.live live').0);
        gone = λ e. absurd (omega arith);
      } in
      let left_newest : Newest r.log r.shut v → Newest r.log r.shut both = λ h. record {
        live = omega arith;
        seen = longer_all v.seen w.seen r.log f.seen g.seen (inl h.seen);
        closed = joined_left v w r.shut h.closed (λ e t. (g.closed e t).1);
      } in
      let right_newest : Newest r.log r.shut w → Newest r.log r.shut both = λ h. record {
        live = omega arith;
        seen = longer_all v.seen w.seen r.log f.seen g.seen (inr h.seen);
        closed = joined_right v w r.shut h.closed (λ e t. (f.closed e t).1);
      } in
      let here : get_elem? views id ≡ some both = set_else one other id spent (λ e. ne (sym e)) ∙ set_at s.views id v both at in
      let newest : (j : ℕ) × Leads views j r.log r.shut = dite (ℕ_discrete r.last other)
      (λ e. (id, (both, here, right_newest (subst (Newest r.log r.shut) (one_at s.views other r.newest.0 w (subst (λ k. get_elem? s.views k ≡ some r.newest.0) e r.newest.1) there) r.newest.2))))
      (λ apart. let h = leads_set s.views id r.last r.log r.shut v both at left_newest r.newest in (r.last, (h.0, set_else one other r.last spent apart ∙ h.1, h.2))) in
      record {
        next = r.next;
        serving = r.serving;
        holder = r.holder;
        home = r.home;
        log = r.log;
        shut = r.shut;
        last = newest.0;
        words = r.words;
        homes = r.homes;
        ahead = r.ahead;
        queue = λ n le lt. queues_set one other (r.holder n) n w spent at' (no_ticket w spent idle' n) (queues_set s.views id (r.holder n) n v both at (no_ticket v both idle n) (r.queue n le lt));
        places = all_set (λ k (x : PassState B E). InPlace r.next r.serving r.holder r.log r.shut (r.home ≡ none) k x.stage) one other spent tt
            (λ j u apart a. all_set (λ k (x : PassState B E). InPlace r.next r.serving r.holder r.log r.shut (r.home ≡ none) k x.stage) s.views id both tt (λ k x _ b. r.places k x b) j u a);
        fits = all_set (λ k. Fits root r.log r.shut) one other spent (spent_fits root r.log r.shut)
            (λ j u apart a. all_set (λ k. Fits root r.log r.shut) s.views id both both_fits (λ k x _ b. r.fits k x b) j u a);
        stands = stands_as base events closed root r.log r.shut (Rules s.views (r.holder r.serving)) (Rules views (r.holder r.serving)) r.home
            (λ out h. rules_set one other (r.holder r.serving) w spent at' (no_turn w spent idle') (rules_set s.views id (r.holder r.serving) v both at (no_turn v both idle) h)) r.stands;
        newest = newest.1;
        shares = let a = shares_set s.views id v both at in let b = shares_set one other w spent at' in let c = r.shares in omega (arith, a, b, c);
        few = r.few;
        longer = r.longer;
        made = λ p. let a = made_set p s.views id v both at in let b = made_set p one other w spent at' in let c = times-append p v.made w.made in let d = r.made p in omega (arith, a, b, c, d);
      }

  pub counts : (n id : ℕ) (me : Me (Option V) (PassState B E)) → 0 < me.0.shares → Allows Holds n id me 0 (λ y. y) (Counts (step n 0 0 0 none) me)
  counts n id me live s r wide at small =
      let f = r.fits id me.0 at in (
        me.0,
        keeps,
        tt,
        rests base first events closed key s 0 id me.0 at r,
        (
          refl,
          record {
            fits = let a = sum_at (λ (u : PassState B E). u.shares) s.views id me.0 at in let b = r.shares in let c = r.few in omega (arith, a, b, c);
            one_base = (f.live live).1 ∙ sym (f.live live).0;
            begins = λ le. prefix_shorter me.0.other_seen me.0.seen r.log f.other_seen f.seen le;
            stays = λ e is le. let d = f.other_closed e is in (seen_all r.log me.0 f.seen d.0 le, d.2);
          },
        ),
      )
