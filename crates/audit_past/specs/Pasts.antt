-- The outcome of a store call at a position of a whole history.
use Rattle.std.specs.Prelude.{◌≡◌, ℕ, suc, Option, Some, None, Ok, Err}
use Rattle.ts_model.specs.Calls.{Act, refuses, returns, makes}
use Rattle.ts_model.specs.History.{History, event_at}
use Rattle.audit_past.specs.declared.history_view.CallAt.{CallAt}

-- a call that does this at a position of the history has this outcome, or none
abbrev pub CameTo : {A : Type 0} → Act A → History → ℕ → Option (CallAt A) → Type 0
CameTo (refuses r) all at met = met ≡ Some (record { came = Err r; at = at })
CameTo (returns a) all at met = met ≡ Some (record { came = Ok a; at = at })
CameTo (makes e a) all at (Some m) = (event_at all (suc at) ≡ Some e) × (m ≡ record { came = Ok a; at = suc at })
CameTo (makes e a) all at None = event_at all (suc at) ≡ Some e → ⊥
