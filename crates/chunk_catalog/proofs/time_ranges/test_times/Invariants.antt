use Rattle.std.proofs.Common.{◌≡◌, true, length}
use Rattle.std.specs.Prelude.{FitsSigned}
use Rattle.std.specs.Int.{w64}
use Rattle.ts_schema.specs.declared.rows.Row.{Row}
use Rattle.ts_schema.specs.Conditions.{passes_all}
use Rattle.chunk_catalog.specs.Reach.{in_reach}
use Rattle.chunk_catalog.proofs.time_ranges.test_times.Given as goal

abbrev pub invariant-loop-left : goal.invariant-loop-left
invariant-loop-left l =
    (row : Row) → FitsSigned w64 row.at → passes_all row l.fn.tests ≡ true → (passes_all row l.left ≡ true) × (in_reach l.times row.at ≡ true)

abbrev pub decreases-loop-left : goal.decreases-loop-left
decreases-loop-left l = length l.left
