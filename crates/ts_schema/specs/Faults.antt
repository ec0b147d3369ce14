use Rattle.std.specs.Prelude.{ℕ, ◌≤◌}
use Rattle.ts_schema.specs.Counts.{one_more}

-- a count of faults rose from before to now, or is at its type's greatest value
abbrev pub Rose : ℕ → ℕ → Type 0
Rose before now = one_more before ≤ now
