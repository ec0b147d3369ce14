-- The outcome of a store call.
use Rattle.std.specs.Prelude.{◌≡◌, ℕ, Result, Ok, Err, ⊤}
use Rattle.ts_schema.specs.declared.memory.NoMemory.{NoMemory}
use Rattle.ts_model.specs.declared.outcomes.Outcome.{Outcome}
use Rattle.ts_model.specs.declared.outcomes.Outcome.TheVariants as outcomes
use Rattle.ts_model.specs.declared.outcomes.Refusal.{Refusal}
use Rattle.ts_model.specs.Numbers.{stopped}
use Rattle.ts_sessions.specs.declared.call_outcomes.Attempt.{Attempt}
use Rattle.ts_sessions.specs.declared.call_outcomes.Attempt.TheVariants as tried

-- the refusal of an event in a store that stopped at this position
abbrev pub stopped_at : ℕ → Refusal
stopped_at position = record { code = stopped; pos = position; mark = 0 }

-- this is the outcome of a call with this result, at this position of the store
abbrev pub IsTried : {A : Type 0} → ℕ → Outcome A → Result (Attempt A) NoMemory → Type 0
IsTried position (outcomes.Done a) (Ok t) = t ≡ tried.Done a
IsTried position (outcomes.Done a) (Err e) = ⊥
IsTried position (outcomes.Refused r) (Ok t) = t ≡ tried.Refused r
IsTried position (outcomes.Refused r) (Err e) = ⊥
IsTried position outcomes.DiskFault (Ok t) = t ≡ tried.Failed (stopped_at position)
IsTried position outcomes.DiskFault (Err e) = ⊥
IsTried position outcomes.NoMemory (Ok t) = ⊥
IsTried position outcomes.NoMemory (Err e) = ⊤
