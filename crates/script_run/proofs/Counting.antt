-- Counts of rows read.
use Rattle.std.proofs.Common.{◌≡◌, ℕ, ◌+◌, ◌<◌, ◌≤◌, ◌^◌, arith}
use Rattle.ts_schema.specs.Counts.{raised_by}

-- two counts in order
pub raised_twice : (m k n mid after : ℕ) → mid ≡ raised_by m n → after ≡ raised_by k mid → after ≡ raised_by (m + k) n
raised_twice m k n mid after e f = omega arith

-- a count that was raised is no lower
pub raised_some : (m n after : ℕ) → n < 2 ^ 64 → after ≡ raised_by m n → n ≤ after
raised_some m n after small e = omega arith
