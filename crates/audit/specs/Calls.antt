-- The outcome of a call at a position of a history.
use Rattle.std.specs.Prelude.{◌==◌, cond, Option, Some, None, Result, Ok, Err}
use Rattle.ts_model.specs.declared.outcomes.Refusal.{Refusal}
use Rattle.audit_past.specs.declared.history_view.CallAt.{CallAt}

-- a refusal whose code isn't 0
abbrev pub numbered_only : Option Refusal → Option Refusal
numbered_only None = None
numbered_only (Some r) = cond (r.code == 0) None (Some r)

-- the same outcome with a function of the returned value
abbrev pub done_as : {A B : Type 0} → (A → B) → Result A Refusal → Result B Refusal
done_as f (Ok a) = Ok (f a)
done_as f (Err r) = Err r

abbrev pub came_as : {A B : Type 0} → (A → B) → Option (CallAt A) → Option (CallAt B)
came_as f (Some m) = Some (record { came = done_as f m.came; at = m.at })
came_as f None = None
