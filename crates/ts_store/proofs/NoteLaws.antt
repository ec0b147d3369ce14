-- A list with an entry.
use Rattle.std.proofs.Common.{◌≡◌, ◌<◌, List, [], ◌∷◌, length}
use Rattle.ts_store.specs.Notes.{first_entry}

pub first_is : {A : Type 0} (entries : List A) (some : 0 < length entries) (entry : A) (more : List A) → entries ≡ entry ∷ more → first_entry entries some ≡ entry
unfolding first_entry
first_is [] some entry more is = absurd (cc is)
first_is (e ∷ entries) some entry more is = let same : e ≡ entry = cc is in same
