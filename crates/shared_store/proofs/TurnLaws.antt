-- How a turn at the backend begins.
use Rattle.std.proofs.Common.{◌≡◌, Bool, Some, sym, ap, ◌∙◌, subst}
use Rattle.std.proofs.lemmas.Option.{same_Some}
use mathlib.Core.List.{IsPrefix}
use Rattle.ts_model.specs.History.{◌▸▸◌, Begins}
use Rattle.ts_model.specs.States.{State}
use Rattle.turn_lock.specs.declared.held.Held.{Held}
use Rattle.turn_lock.specs.Pass.{IsSamePass, IsTurnOf, StaysClosed, base_of, seen_of, closed_of, found_of, found_closed_of}
use Rattle.shared_store.specs.Wrapped.{Wrapped, IsKept, events_in}
use Rattle.shared_store.specs.Stores.{Ticket, Shared, IsPassOf, history_of}
use Rattle.shared_store.specs.Turns.{Begun}
use Rattle.shared_store.proofs.AfterLaws.{followed_after, begins_longer}

module _ {B K : Type 0} (alone : Bool) (state : B → State) (kin : B → K) (store : Shared B) (old new : Ticket B) (held : Held (Wrapped B)) where
  pub begun : IsPassOf store old → IsSamePass old new → IsTurnOf new held → (found_of new ≡ events_in state held.value) × (found_closed_of new ≡ (state held.value.backend).failed) → base_of old ≡ Some held.value.opened → IsKept alone state kin held.value → IsPrefix (seen_of old) (events_in state held.value) → StaysClosed (closed_of old) (seen_of old) (state held.value.backend).failed (events_in state held.value) → Begun alone state kin store old new held
  begun p same turn found base kept begins stays = record {
    same = same;
    turn = turn;
    found = found.0;
    found_closed = found.1;
    opened = opened;
    kept = kept;
    begins = subst (λ h. Begins (history_of state store old) h) whole (begins_longer (state store.opened.value).history (seen_of old) (events_in state held.value) begins);
    stays = λ e is. let still = stays e is in (still.0, sym whole ∙ ap (λ es. (state store.opened.value).history ▸▸ es) still.1);
  }
    where
      opened : held.value.opened ≡ store.opened
      opened = same_Some held.value.opened store.opened (sym base ∙ p.base)

      -- what is held is the opening history and the events since then
      whole : (state store.opened.value).history ▸▸ events_in state held.value ≡ (state held.value.backend).history
      whole = ap (λ o. (state o.value).history ▸▸ events_in state held.value) (sym opened) ∙ followed_after kept.goes_on.begins
