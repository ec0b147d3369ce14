-- Passes in order.
use Rattle.std.proofs.Common.{◌∙◌}
use Rattle.turn_lock.specs.Pass.{Carried, StaysIn}

-- what stays closed in a part stays closed in the whole
pub stays_then : {V B E : Type 0} (r a q : Carried V B E) → StaysIn a q → StaysIn r a → StaysIn r q
stays_then r a q old new e is = let d = old e is in let k = new e d.0 in (k.0, k.1 ∙ d.1)
