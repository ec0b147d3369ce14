-- Counts of scans that ended early.
use Rattle.std.proofs.Common.{ℕ, ◌≡◌, ◌+◌, ◌≤◌, ◌<◌, ◌^◌, arith}
use Rattle.ts_schema.specs.Counts.{raised_by, RaisedUpTo}

-- a count that rose by at most m rose by at most more
pub up_first : (m n old new : ℕ) → RaisedUpTo m old new → m ≤ n → RaisedUpTo n old new
up_first m n old new up more = (up.0, omega (arith, up.1, more))

-- a count that rose by m, and then by at most k
pub up_then : (m k n old mid new : ℕ) → old < 2 ^ 64 → mid ≡ raised_by m old → RaisedUpTo k mid new → m + k ≤ n → RaisedUpTo n old new
up_then m k n old mid new small whole up more = (omega (arith, small, whole, up.0), omega (arith, whole, up.1, more))
