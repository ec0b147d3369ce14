-- Passes that workers get, use and return.
use Rattle.std.proofs.Common.{◌≡◌, ℕ, zero, suc, ◌+◌, ◌-◌, ◌<◌, Bool, true, false, get_or, List, [], ◌∷◌, ◌++◌, length, All, flat_map, sum_by, Option, Some, None, sym, refl, ap, ◌∙◌, subst, arith}
use Rattle.std.proofs.lemmas.List.{length-map}
use Rattle.std.proofs.lemmas.List.Elements.{All-cons, All-head, All-tail}
use Rattle.std.proofs.lemmas.List.Sums.{sum_by-cons}
use Rattle.ts_model.specs.History.{◌▸▸◌, Begins}
use Rattle.ts_model.specs.States.{State}
use Rattle.std.specs.Prelude.{is_some}
use Rattle.turn_lock.specs.Pass.{shares_of, seen_of, closed_of, made_of, with_shares}
use Rattle.turn_lock.proofs.Lists.{prefix_then}
use Rattle.shared_store.specs.Stores.{Shared, Ticket, IsPassOf, history_of}
use Rattle.shared_store.specs.Desks.{desk_state, fresh_desk}
use Rattle.par_workers.specs.Slots.{Slot, IsFresh, OfPass, Knows, shares_there, made_there, workers_of, shares_in, made_in, HasPass, BeginsAt, IsKnownTo, Served, AllServed}
use Rattle.par_workers.specs.Outcomes.{begun_at, Outcome, AllOutcomes, Ran}
use Rattle.par_workers.proofs.OutcomeLaws.{begins_seen}
use Rattle.turn_lock.proofs.Gathering.{stays_then}

-- a pass that begins at another begins there whatever the number of shares of the other
pub fresh_alike : {B : Type 0} (store : Shared B) (a b : Ticket B) (n : ℕ) → b ≡ with_shares n a → (pass : Ticket B) → IsFresh store b pass → IsFresh store a pass
fresh_alike store a b n same pass f = record {
  of_store = f.of_store;
  shares = f.shares;
  seen = f.seen ∙ ap seen_of same;
  closed = f.closed ∙ ap closed_of same;
  made = f.made;
}

-- ---- passes in slots

of_pass_on : {B : Type 0} {P Q : Ticket B → Type 0} → ((pass : Ticket B) → P pass → Q pass) → (o : Option (Ticket B)) → OfPass P o → OfPass Q o
of_pass_on f None p = p
of_pass_on f (Some pass) p = f pass p

some_there : {B : Type 0} (P : Ticket B → Type 0) (o : Option (Ticket B)) → OfPass P o → is_some o ≡ true
some_there P None p = absurd p
some_there P (Some pass) p = refl

module _ {W B : Type 0} where
  pub there_is_pass : (store : Shared B) (slot : Slot W B) → HasPass store slot → is_some slot.1 ≡ true
  there_is_pass store slot has = some_there (IsPassOf store) slot.1 has

  pub passes_first : (store : Shared B) (slots : List (Slot W B)) (slot : Slot W B) (rest : List (Slot W B)) → slots ≡ slot ∷ rest → All (HasPass store) slots → HasPass store slot
  passes_first store slots slot rest same all = All-head (HasPass store) slot rest (subst (All (HasPass store)) same all)

  pub passes_rest : (store : Shared B) (slots : List (Slot W B)) (slot : Slot W B) (rest : List (Slot W B)) → slots ≡ slot ∷ rest → All (HasPass store) slots → All (HasPass store) rest
  passes_rest store slots slot rest same all = All-tail (HasPass store) slot rest (subst (All (HasPass store)) same all)

  pub pass_of_store : (store : Shared B) (slot : Slot W B) (pass : Ticket B) → slot.1 ≡ Some pass → HasPass store slot → IsPassOf store pass
  pass_of_store store slot pass «is» has = subst (OfPass (IsPassOf store)) «is» has

  -- if the whole knows a pass, it knows each pass that was joined into it
  pub known_more : (whole mid pass : Ticket B) (slots : List (Slot W B)) (slot : Slot W B) (rest : List (Slot W B)) → slots ≡ slot ∷ rest → slot.1 ≡ Some pass → Knows mid pass → Knows whole mid → All (IsKnownTo whole) rest → All (IsKnownTo whole) slots
  known_more whole mid pass slots slot rest same «is» one then others =
      subst (All (IsKnownTo whole)) (sym same)
      (All-cons (IsKnownTo whole) slot rest
      (subst (OfPass (Knows whole)) (sym «is») (prefix_then (seen_of pass) (seen_of mid) (seen_of whole) one.0 then.0, stays_then whole mid pass one.1 then.1))
      others)

  -- a slot that got a pass has it
  pub fresh_has : (store : Shared B) (start : Ticket B) (slots : List (Slot W B)) → All (BeginsAt store start) slots → All (HasPass store) slots
  fresh_has store start slots all k d lt = of_pass_on (λ pass f. f.of_store) (get_or slots k d).1 (all k d lt)

  pub ready_at : (ready : W → Type 0) (slots : List (Slot W B)) (i : ℕ) (d : Slot W B) → i < length slots → All ready (workers_of slots) → ready (get_or slots i d).0
  ready_at ready [] i d lt all = absurd (omega (arith, lt))
  ready_at ready (s ∷ ss) zero d lt all = All-head ready s.0 (workers_of ss) all
  ready_at ready (s ∷ ss) (suc i) d lt all = ready_at ready ss i d (omega (arith, lt)) (All-tail ready s.0 (workers_of ss) all)

module _ {B : Type 0} (state : B → State) (store : Shared B) where
  -- a store handle for such a pass begins there
  fresh_begins : (start pass : Ticket B) → IsFresh store start pass → desk_state state (fresh_desk store pass) ≡ begun_at state store start
  fresh_begins start pass f =
      ap (λ es. record (desk_state state (fresh_desk store pass)) { history = (state store.opened.value).history ▸▸ es }) f.seen
      ∙ ap (λ ms. record (begun_at state store start) { made = ms }) f.made

  module _ {W : Type 0} (did : Bool → W → State → W → State → Type 0) where
    served_outcome : (start whole : Ticket B) (s t : Slot W B) → Served state store did s t → BeginsAt store start s → IsKnownTo whole t → Outcome state store (λ a b. did false s.0 a t.0 b) start whole (made_in t)
    served_outcome start whole s t v begins known =
        let fresh = subst (OfPass (IsFresh store start)) v.had begins in
        let knows = subst (OfPass (Knows whole)) v.has known in
        record {
          left = v.left;
          did = subst (λ a. did false s.0 a t.0 v.left) (fresh_begins start v.before fresh) v.worked;
          begins = subst (λ h. Begins h (history_of state store whole)) (sym v.history) (begins_seen state store v.after whole knows.0);
          stops = λ e is.
              let now = knows.1 e (v.stops e is) in
              (now.0, ap (λ es. (state store.opened.value).history ▸▸ es) now.1 ∙ sym v.history);
          makes = v.made ∙ sym (ap made_there v.has);
        }

    -- what each worker did at its store handle, all workers did
    pub served_outcomes : (start whole : Ticket B) (olds news : List (Slot W B)) → length olds ≡ length news → ((i : ℕ) (d : Slot W B) → i < length olds → Served state store did (get_or olds i d) (get_or news i d)) → All (BeginsAt store start) olds → All (IsKnownTo whole) news → AllOutcomes state store did start whole (workers_of olds) (workers_of news) (flat_map made_in news)
    served_outcomes start whole [] [] len each begins known = refl
    served_outcomes start whole [] (t ∷ ts) len each begins known = absurd (omega (arith, len))
    served_outcomes start whole (s ∷ ss) [] len each begins known = absurd (omega (arith, len))
    served_outcomes start whole (s ∷ ss) (t ∷ ts) len each begins known = record {
      mine = made_in t;
      others = flat_map made_in ts;
      one = served_outcome start whole s t (each 0 s (omega arith)) (All-head (BeginsAt store start) s ss begins) (All-head (IsKnownTo whole) t ts known);
      rest = served_outcomes start whole ss ts (omega (arith, len)) (λ i d lt. each (suc i) d (omega (arith, lt))) (All-tail (BeginsAt store start) s ss begins) (All-tail (IsKnownTo whole) t ts known);
      all = refl;
    }

    -- workers after their work have their passes, with the same shares as before
    pub served_have : (olds news : List (Slot W B)) → length olds ≡ length news → ((i : ℕ) (d : Slot W B) → i < length olds → Served state store did (get_or olds i d) (get_or news i d)) → All (HasPass store) news
    served_have olds news len each k d lt =
        let v = each k d (omega (arith, len, lt)) in
        subst (OfPass (IsPassOf store)) (sym v.has) v.of_store

    one_share : (start : Ticket B) (s t : Slot W B) → Served state store did s t → BeginsAt store start s → shares_in t ≡ 1
    one_share start s t v begins =
        let fresh = subst (OfPass (IsFresh store start)) v.had begins in
        ap shares_there v.has ∙ v.shares ∙ fresh.shares

    pub served_shares : (start : Ticket B) (olds news : List (Slot W B)) → length olds ≡ length news → ((i : ℕ) (d : Slot W B) → i < length olds → Served state store did (get_or olds i d) (get_or news i d)) → All (BeginsAt store start) olds → sum_by shares_in news ≡ length news
    served_shares start [] [] len each begins = refl
    served_shares start [] (t ∷ ts) len each begins = absurd (omega (arith, len))
    served_shares start (s ∷ ss) [] len each begins = absurd (omega (arith, len))
    served_shares start (s ∷ ss) (t ∷ ts) len each begins =
        let rest = served_shares start ss ts (omega (arith, len)) (λ i d lt. each (suc i) d (omega (arith, lt))) (All-tail (BeginsAt store start) s ss begins) in
        let one = one_share start s t (each 0 s (omega arith)) (All-head (BeginsAt store start) s ss begins) in
        omega (arith, sum_by-cons shares_in t ts, rest, one)

    same_length : (s t : List (Slot W B)) → workers_of s ≡ workers_of t → length s ≡ length t
    same_length s t same = sym (length-map s (λ (x : Slot W B). x.0)) ∙ ap length same ∙ length-map t (λ (x : Slot W B). x.0)

    -- the passes come back with all shares
    pub shares_back : (start mid whole : Ticket B) (s0 s1 s2 : List (Slot W B)) → mid ≡ with_shares (shares_of start - length s0) start → length s0 < shares_of start → workers_of s1 ≡ workers_of s0 → All (BeginsAt store start) s1 → AllServed state store did s1 s2 → shares_of whole ≡ shares_of mid + sum_by shares_in s2 → shares_of whole ≡ shares_of start
    shares_back start mid whole s0 s1 s2 same room workers begins served sum =
        let one : shares_of mid ≡ shares_of start - length s0 = ap shares_of same in
        let two = served_shares start s1 s2 served.as_many served.each begins in
        let three = same_length s1 s0 workers in
        omega (arith, sum, one, two, three, served.as_many, room)

    -- what was done between is what all workers did
    pub all_ran : (start mid whole : Ticket B) (n : ℕ) (s0 s1 s2 s3 : List (Slot W B)) → mid ≡ with_shares n start → workers_of s1 ≡ workers_of s0 → All (BeginsAt store start) s1 → AllServed state store did s1 s2 → All (IsKnownTo whole) s2 → made_of whole ≡ made_of mid ++ flat_map made_in s2 → workers_of s3 ≡ workers_of s2 → Ran state store did start whole (workers_of s0) (workers_of s3)
    all_ran start mid whole n s0 s1 s2 s3 same given begins served known made back = record {
      made = flat_map made_in s2;
      outcomes =
          subst (λ olds. AllOutcomes state store did start whole olds (workers_of s3) (flat_map made_in s2)) given
          (subst (λ news. AllOutcomes state store did start whole (workers_of s1) news (flat_map made_in s2)) (sym back)
          (served_outcomes start whole s1 s2 served.as_many served.each begins known));
      all = made ∙ ap (λ p. made_of p ++ flat_map made_in s2) same;
    }
