-- The result of a part of a check.
use Rattle.std.specs.Prelude.{◌≡◌, Option, Some, None, Result, Ok, Err, ⊤}
use Rattle.ts_model.specs.declared.outcomes.Refusal.{Refusal}
use Rattle.stmt_check.specs.declared.actions.ResolveStop.{ResolveStop}
use Rattle.stmt_check.specs.declared.actions.ResolveStop.TheVariants as stops

-- a part of a statement with this first refusal, if any, and this value: the result is the value if nothing is
-- refused, and otherwise the refusal
abbrev pub Checks : {T : Type 0} → Option Refusal → T → Result T ResolveStop → Type 0
Checks refusal value (Ok v) = (refusal ≡ None) × (v ≡ value)
Checks refusal value (Err (stops.Refused r)) = refusal ≡ Some r
Checks refusal value (Err stops.NoMemory) = ⊤

-- the same for a part without a value
abbrev pub Passes : Option Refusal → Result Unit ResolveStop → Type 0
Passes refusal (Ok v) = refusal ≡ None
Passes refusal (Err (stops.Refused r)) = refusal ≡ Some r
Passes refusal (Err stops.NoMemory) = ⊤
