-- The months of the years 2000 to 2399.
use Rattle.std.specs.Prelude.{ℤ, pos, ◌≤ℤ◌, ◌<ℤ◌}

abbrev pub IsInCycle : ℤ → Type 0
IsInCycle k = (pos 0 ≤ℤ k) × (k <ℤ pos 4800)
