-- How each call continues the state of a backend that nobody else uses.
use Rattle.std.proofs.Common.{◌≡◌, ℕ, suc, ◌+◌, ◌≤◌, Bool, [], ◌∷◌, ◌++◌, Some, None, sym, refl, ap, ◌∙◌, subst, arith, append_assoc, append-nil}
use Rattle.std.specs.Prelude.{IsTrue, is_some, Option}
use Rattle.std.proofs.lemmas.Bool.{true≢false}
use Rattle.ts_schema.specs.Faults.{Rose}
use Rattle.ts_model.specs.declared.events.Event.{Event}
use Rattle.ts_model.specs.declared.outcomes.Outcome.{Outcome}
use Rattle.ts_model.specs.declared.outcomes.Outcome.TheVariants.{Done, Refused, DiskFault, NoMemory}
use Rattle.ts_model.specs.History.{History, position, Begins, same, further}
use Rattle.ts_model.specs.States.{State, Keeps, Makes, Fails}
use Rattle.ts_model.specs.Calls.{Act, refuses, returns, makes, Answered, Called, Looked}
use Rattle.ts_model.proofs.HistoryLaws.{position_begins}
use Rattle.turn_lock.specs.Positions.{positions_between}
use Rattle.turn_lock.proofs.Numbers.{positions_meet, positions_none, positions_one}
use Rattle.shared_store.specs.Wrapped.{Wrapped, GoesOn, IsKept}

-- something isn't none
pub is_there : {A : Type 0} {o : Option A} {x : A} → o ≡ Some x → o ≡ None → ⊥
is_there some none = true≢false (ap is_some (sym some ∙ none))

pub not_there : {A : Type 0} {o : Option A} → IsTrue (is_some o) → o ≡ None → ⊥
not_there some none = true≢false (sym some ∙ ap is_some none)

-- only one position follows q up to q + 1
pub one_after : (q : ℕ) → positions_between q (suc q) ≡ suc q ∷ []
one_after q = let next : q + 1 ≡ suc q = omega arith in subst (λ r. positions_between q r ≡ r ∷ []) next (positions_one q)

-- that position is the last of those from before q
one_later : (p q : ℕ) → p ≤ q → positions_between p q ++ (suc q ∷ []) ≡ positions_between p (suc q)
one_later p q l = ap (λ ps. positions_between p q ++ ps) (sym (one_after q)) ∙ sym (positions_meet p q (suc q) l (omega arith))

-- a state that hasn't stopped continues itself
pub goes_nowhere : (s : State) → s.failed ≡ None → GoesOn s s
goes_nowhere s none = record {
  went = none;
  begins = same;
  made = sym (ap (λ ps. s.made ++ ps) (positions_none (position s.history)) ∙ append-nil s.made);
  origin = refl;
  counted = λ _. refl;
  fell = λ some. absurd (not_there some none);
}

kept_on : {first found new : State} → GoesOn first found → Keeps found new → GoesOn first new
kept_on {first} {found} {new} g k = record {
  went = g.went;
  begins = subst (λ h. Begins first.history h) (sym k.history) g.begins;
  made = k.made ∙ g.made ∙ ap (λ h. first.made ++ positions_between (position first.history) (position h)) (sym k.history);
  origin = k.origin ∙ g.origin;
  counted = λ e. k.faults ∙ g.counted (sym k.failed ∙ e);
  fell = λ e. subst (λ n. Rose first.faults n) (sym k.faults) (g.fell (subst (λ o. IsTrue (is_some o)) k.failed e));
}

made_on : {e : Event} {first found new : State} → GoesOn first found → Makes e found new → GoesOn first new
made_on {e} {first} {found} {new} g m = record {
  went = g.went;
  begins = subst (λ h. Begins first.history h) (sym m.history) (further g.begins);
  made =
      m.made
      ∙ ap (λ ps. ps ++ (suc (position found.history) ∷ [])) g.made
      ∙ append_assoc first.made (positions_between (position first.history) (position found.history)) (suc (position found.history) ∷ [])
      ∙ ap (λ ps. first.made ++ ps) (one_later (position first.history) (position found.history) (position_begins g.begins))
      ∙ ap (λ h. first.made ++ positions_between (position first.history) (position h)) (sym m.history);
  origin = m.origin ∙ g.origin;
  counted = λ _. m.faults ∙ g.counted m.went_on;
  fell = λ some. absurd (not_there some m.failed);
}

failed_on : {e : Event} {first found new : State} → GoesOn first found → Fails e found new → GoesOn first new
failed_on {e} {first} {found} {new} g f = record {
  went = g.went;
  begins = subst (λ h. Begins first.history h) (sym f.history) g.begins;
  made = f.made ∙ g.made ∙ ap (λ h. first.made ++ positions_between (position first.history) (position h)) (sym f.history);
  origin = f.origin ∙ g.origin;
  counted = λ none. absurd (is_there f.failed none);
  fell = λ _. subst (λ n. Rose n new.faults) (g.counted f.went_on) f.faults;
}

answered_on : {A : Type 0} (act : Act A) {first found : State} (outcome : Outcome A) {new : State} → GoesOn first found → Answered act found outcome new → GoesOn first new
answered_on (refuses r) (Done a) g w = absurd w
answered_on (refuses r) (Refused q) g w = kept_on g w.1
answered_on (refuses r) DiskFault g w = absurd w
answered_on (refuses r) NoMemory g w = kept_on g w
answered_on (returns a) (Done b) g w = kept_on g w.1
answered_on (returns a) (Refused q) g w = absurd w
answered_on (returns a) DiskFault g w = absurd w
answered_on (returns a) NoMemory g w = kept_on g w
answered_on (makes e a) (Done b) g w = made_on g w.1
answered_on (makes e a) (Refused q) g w = kept_on g w.2
answered_on (makes e a) DiskFault g w = failed_on g w
answered_on (makes e a) NoMemory g w = kept_on g w

-- if the backend had stopped before a call, it has stopped after it, by the same event
answered_still : {A : Type 0} (act : Act A) (found : State) (outcome : Outcome A) (new : State) {e : Event} → Answered act found outcome new → found.failed ≡ Some e → (new.failed ≡ Some e) × (new.history ≡ found.history)
answered_still (refuses r) found (Done a) new w is = absurd w
answered_still (refuses r) found (Refused q) new w is = (w.1.failed ∙ is, w.1.history)
answered_still (refuses r) found DiskFault new w is = absurd w
answered_still (refuses r) found NoMemory new w is = (w.failed ∙ is, w.history)
answered_still (returns a) found (Done b) new w is = (w.1.failed ∙ is, w.1.history)
answered_still (returns a) found (Refused q) new w is = absurd w
answered_still (returns a) found DiskFault new w is = absurd w
answered_still (returns a) found NoMemory new w is = (w.failed ∙ is, w.history)
answered_still (makes x a) found (Done b) new w is = absurd (is_there is w.1.went_on)
answered_still (makes x a) found (Refused q) new w is = (w.2.failed ∙ is, w.2.history)
answered_still (makes x a) found DiskFault new w is = absurd (is_there is w.went_on)
answered_still (makes x a) found NoMemory new w is = (w.failed ∙ is, w.history)

pub called_still : {A : Type 0} {alone : Bool} {act : History → Act A} {outcome : Outcome A} {old new : State} {e : Event} → IsTrue alone → Called alone old act outcome new → old.failed ≡ Some e → (new.failed ≡ Some e) × (new.history ≡ old.history)
called_still {act = act} {outcome = outcome} {new = new} a c is =
    let same = c.finds.alone_found a in
    let still = answered_still (act c.found.history) c.found outcome new c.answered (ap (λ s. s.failed) same ∙ is) in
    (still.0, still.1 ∙ ap (λ s. s.history) same)

pub looked_still : {alone : Bool} {Tells : History → Type 0} {old new : State} {e : Event} → IsTrue alone → Looked alone old Tells new → old.failed ≡ Some e → (new.failed ≡ Some e) × (new.history ≡ old.history)
looked_still a c is =
    let same = c.finds.alone_found a in
    (c.keeps.failed ∙ ap (λ s. s.failed) same ∙ is, c.keeps.history ∙ ap (λ s. s.history) same)

module _ {B K : Type 0} {alone : Bool} {state : B → State} {kin : B → K} where
  -- a call of a backend in the lock leaves it there
  pub called_kept : {A : Type 0} {act : History → Act A} {outcome : Outcome A} {old : Wrapped B} {new : B} → IsKept alone state kin old → Called alone (state old.backend) act outcome (state new) → kin new ≡ kin old.backend → IsKept alone state kin (record { backend = new; opened = old.opened })
  called_kept {act = act} {outcome = outcome} {old = old} k c e = record {
    is_alone = k.is_alone;
    goes_on = answered_on (act c.found.history) outcome (subst (λ s. GoesOn (state old.opened.value) s) (sym (c.finds.alone_found k.is_alone)) k.goes_on) c.answered;
    same_kin = e ∙ k.same_kin;
  }

  pub looked_kept : {Tells : History → Type 0} {old : Wrapped B} {new : B} → IsKept alone state kin old → Looked alone (state old.backend) Tells (state new) → kin new ≡ kin old.backend → IsKept alone state kin (record { backend = new; opened = old.opened })
  looked_kept {old = old} k c e = record {
    is_alone = k.is_alone;
    goes_on = kept_on (subst (λ s. GoesOn (state old.opened.value) s) (sym (c.finds.alone_found k.is_alone)) k.goes_on) c.keeps;
    same_kin = e ∙ k.same_kin;
  }
