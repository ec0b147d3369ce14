-- What a call does to a count of faults.
use Rattle.std.specs.Prelude.{◌≡◌, ℕ, Bool, true, false}
use Rattle.ts_schema.specs.Faults.{Rose}

-- a call that ends with a fault raised the count, and every other left it as it was
abbrev pub Counted : ℕ → ℕ → Bool → Type 0
Counted before now true = Rose before now
Counted before now false = now ≡ before
