-- Procedures over a history that nobody else changes.
use Rattle.std.proofs.Common.{◌≡◌, suc, true, false, [], ◌∷◌, ◌++◌, None, refl, inl, inr}
use Rattle.ts_model.specs.History.{History, position, ◌▸◌}
use Rattle.ts_model.specs.States.{State}
use Rattle.ts_sessions.specs.Procedures.{Procedure, sees, adds, ends, followed_by}
use Rattle.ts_sessions.specs.Walks.{Walks, history_after, end_of_walk}

pub history_then : {A B : Type 0} (d : Procedure A) (f : A → Procedure B) (h : History) → history_after (followed_by d f) h ≡ history_after (f (end_of_walk d h)) (history_after d h)
history_then (sees shown d) f h = history_then (d h) f h
history_then (adds e next stop) f h = history_then next f (h ▸ e)
history_then (ends a) f h = refl

pub ending_then : {A B : Type 0} (d : Procedure A) (f : A → Procedure B) (h : History) → end_of_walk (followed_by d f) h ≡ end_of_walk (f (end_of_walk d h)) (history_after d h)
ending_then (sees shown d) f h = ending_then (d h) f h
ending_then (adds e next stop) f h = ending_then next f (h ▸ e)
ending_then (ends a) f h = refl

-- a store that nobody else uses, and that hasn't stopped, is left with the result of the procedure
pub record WalksAlone {A : Type 0} (d : Procedure A) (old : State) : Type 0 where
  pub new : State
  pub walks : Walks true false old d new (end_of_walk d old.history)

pub walks_alone : {A : Type 0} (d : Procedure A) (old : State) → old.failed ≡ None → WalksAlone d old
walks_alone (sees shown d) old going =
    let rest = walks_alone (d old.history) old going in
    record { new = rest.new; walks = record { mid = old; first = inl refl; rest = rest.walks } }
walks_alone (adds e next stop) old going =
    let mid : State = record { history = old.history ▸ e; failed = None; faults = old.faults; made = old.made ++ suc (position old.history) ∷ []; origin = old.origin } in
    let rest = walks_alone next mid refl in
    record {
      new = rest.new;
      walks = inr (inl (record { mid = mid; first = record { went_on = going; history = refl; failed = refl; faults = refl; made = refl; origin = refl }; rest = rest.walks }));
    }
walks_alone (ends a) old going = record { new = old; walks = (refl, refl, refl) }

-- the state of a store with a history
abbrev pub store_of : History → State
store_of h = record { history = h; failed = None; faults = 0; made = []; origin = record { faults = 0; opening = h; moment = 0 } }
