-- A list with an entry.
use Rattle.std.specs.Prelude.{◌<◌, List, [], ◌∷◌, length}
use Rattle.std.proofs.Math.Nat.{not-suc-le-zero}

-- the first entry of a list that has one
unfoldable pub first_entry : {A : Type 0} (entries : List A) → 0 < length entries → A
first_entry [] some = absurd (not-suc-le-zero some)
first_entry (entry ∷ entries) some = entry
