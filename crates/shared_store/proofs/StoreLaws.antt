-- How a shared store begins and ends.
use Rattle.std.proofs.Common.{◌≡◌, ℕ, Bool, ◌+◌, List, [], length, Some, None, sym, ap, ◌∙◌, subst, arith}
use Rattle.std.specs.Prelude.{IsPermutation, IsTrue}
use Rattle.ts_model.specs.declared.events.Event.{Event}
use Rattle.ts_model.specs.History.{◌▸▸◌, position, Begins}
use Rattle.ts_model.specs.States.{State}
use Rattle.turn_lock.specs.Pass.{Guarded}
use Rattle.turn_lock.specs.Made as making
use Rattle.turn_lock.specs.Positions.{positions_between, end_of}
use Rattle.shared_store.specs.Histories.{events_after}
use Rattle.shared_store.specs.Wrapped.{Wrapped, GoesOn, IsKept, events_in}
use Rattle.shared_store.specs.Stores.{Ticket, Shared}
use Rattle.shared_store.specs.Making.{IsFirstPass}
use Rattle.shared_store.proofs.AfterLaws.{after_self, end_after, followed_after}
use Rattle.shared_store.proofs.GoesOnLaws.{goes_nowhere}

module _ {B : Type 0} (state : B → State) where
  -- a backend that has just come into the lock has no events since then
  none_yet : (k : Wrapped B) → k.backend ≡ k.opened.value → events_in state k ≡ []
  none_yet k same = ap (λ b. events_after (state k.opened.value).history (state b).history) same ∙ after_self (state k.opened.value).history

  pub first_pass : (backend : B) (k : Wrapped B) (shares : ℕ) (lock : Guarded (Wrapped B)) (pass : Ticket B) → k.backend ≡ backend → k.opened.value ≡ backend → (state backend).failed ≡ None → making.IsFirstPass (λ x. x.opened) (events_in state) (λ x. (state x.backend).failed) k shares lock pass → IsFirstPass backend shares (record { lock = lock.lock; opened = lock.opened.opened; shares = lock.shares }) pass
  first_pass backend k shares lock pass «is» opened going f = record {
    of_store = record { lock = f.from_lock; base = f.pass_base ∙ ap (λ x. Some x.opened) (sym f.lock_value); idle = f.idle };
    store_backend = ap (λ x. x.opened.value) f.lock_value ∙ opened;
    store_shares = f.lock_shares;
    pass_shares = f.pass_shares;
    pass_seen = f.pass_seen ∙ none_yet k («is» ∙ sym opened);
    pass_closed = f.pass_closed ∙ ap (λ b. (state b).failed) «is» ∙ going;
    pass_made = f.pass_made;
  }

  -- the positions since the store was created are those after the backend's position at the start
  pub made_since : (first last : Wrapped B) (made : List ℕ) → first.backend ≡ first.opened.value → last.opened ≡ first.opened → Begins (state last.opened.value).history (state last.backend).history → IsPermutation made (positions_between (end_of (position (state last.opened.value).history) (events_in state first)) (end_of (position (state last.opened.value).history) (events_in state last))) → IsPermutation made (positions_between (position (state first.opened.value).history) (position (state last.backend).history))
  made_since first last made fresh same q p =
      subst (λ n. IsPermutation made (positions_between n (position (state last.backend).history))) from
      (subst (λ n. IsPermutation made (positions_between (end_of start (events_in state first)) n)) (sym (end_after q)) p)
    where
      start : ℕ
      start = position (state last.opened.value).history

      nothing : start + length {A = Event} [] ≡ start
      nothing = omega arith

      from : end_of start (events_in state first) ≡ position (state first.opened.value).history
      from = ap (λ es. end_of start es) (none_yet first fresh) ∙ nothing ∙ ap (λ o. position (state o.value).history) same

  -- the same for the backend that comes out
  pub made_out : (store : Shared B) (back : B) (first last : Wrapped B) (made : List ℕ) → first.opened ≡ store.opened → back ≡ last.backend → first.backend ≡ first.opened.value → last.opened ≡ first.opened → Begins (state last.opened.value).history (state last.backend).history → IsPermutation made (positions_between (end_of (position (state last.opened.value).history) (events_in state first)) (end_of (position (state last.opened.value).history) (events_in state last))) → IsPermutation made (positions_between (position (state store.opened.value).history) (position (state back).history))
  made_out store back first last made start out fresh same q p =
      subst (λ o. IsPermutation made (positions_between (position (state o.value).history) (position (state back).history))) start
      (subst (λ b. IsPermutation made (positions_between (position (state first.opened.value).history) (position (state b).history))) (sym out) (made_since first last made fresh same q p))

  -- the backend that comes out holds what the last pass has seen
  pub history_out : (store : Shared B) (back : B) (last : Wrapped B) (seen : List Event) → last.opened ≡ store.opened → back ≡ last.backend → Begins (state last.opened.value).history (state last.backend).history → events_in state last ≡ seen → (state back).history ≡ (state store.opened.value).history ▸▸ seen
  history_out store back last seen start out q all =
      ap (λ b. (state b).history) out
      ∙ sym (followed_after q)
      ∙ ap (λ es. (state last.opened.value).history ▸▸ es) all
      ∙ ap (λ o. (state o.value).history ▸▸ seen) start

-- a backend that comes into the lock
pub kept_new : {B K : Type 0} {alone : Bool} {state : B → State} {kin : B → K} (k : Wrapped B) → k.opened.value ≡ k.backend → IsTrue alone → (state k.backend).failed ≡ None → IsKept alone state kin k
kept_new {state = state} {kin = kin} k same by_itself going = record {
  is_alone = by_itself;
  goes_on = subst (λ b. GoesOn (state b) (state k.backend)) (sym same) (goes_nowhere (state k.backend) going);
  same_kin = ap kin (sym same);
}
