-- The outcome of a procedure that is replayed over a whole history by given read positions.
use Rattle.std.specs.Prelude.{◌≡◌, ℕ, suc, Bool, true, false, ◌&&◌, nat_le, List, [], ◌∷◌, ◌++◌, ◌⊎◌, Option, Some, None}
use Rattle.ts_model.specs.declared.events.Event.{Event}
use Rattle.ts_model.specs.History.{History, event_at, position, prefix}
use Rattle.ts_sessions.specs.Procedures.{Procedure, sees, adds, ends}

-- a replay's outcome: the last printed read position or event, the events with their numbers, and the value at the
-- end
pub record Told (A : Type 0) : Type 0 where
  pub last : ℕ
  pub given : List (ℕ × Event)
  pub end : A

-- a read may be printed at a position of the history that isn't before the last one, if the procedure prints it there
abbrev pub may_look : History → ℕ → (History → Bool) → ℕ → Bool
may_look all at shown p = nat_le at p && nat_le p (position all) && shown (prefix all p)

-- the outcome of a procedure over a whole history whose store never stopped. A read takes the next position of the list
-- if it may be printed there. Another read is at the end of the history, if it isn't printed there. The replay ignores
-- positions that are left over. None: the history doesn't explain the procedure. Its event isn't that of the history,
-- or a read has no position
abbrev pub Tells :
    {A : Type 0} → History → ℕ → List (ℕ × Event) → Procedure A → List ℕ → Option (Told A) → Type 0
Tells all at so_far (sees shown f) [] r =
    ((shown all ≡ false) × Tells all at so_far (f all) [] r)
    ⊎ ((shown all ≡ true) × (r ≡ None))
Tells all at so_far (sees shown f) (p ∷ ps) r =
    ((may_look all at shown p ≡ true) × Tells all p so_far (f (prefix all p)) ps r)
    ⊎ ((may_look all at shown p ≡ false) × (shown all ≡ false) × Tells all at so_far (f all) (p ∷ ps) r)
    ⊎ ((may_look all at shown p ≡ false) × (shown all ≡ true) × (r ≡ None))
Tells all at so_far (adds e next stopped) ps r =
    ((event_at all (suc at) ≡ Some e) × Tells all (suc at) (so_far ++ (suc at, e) ∷ []) next ps r)
    ⊎ ((event_at all (suc at) ≡ Some e → ⊥) × (r ≡ None))
Tells all at so_far (ends a) ps r = r ≡ Some (record { last = at; given = so_far; end = a })
